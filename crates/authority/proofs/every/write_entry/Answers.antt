use native.Mathlib.Omega.{arith}
use Rattle.authority.proofs.MemberLaws.{count_small}
use Rattle.authority.proofs.EveryLaws.{holder_small, entry_asks, entry_written}
use Rattle.authority.proofs.every.write_entry.Goals as goal

pub narrow-requires : goal.narrow-requires
narrow-requires c = holder_small c.args.work.now c.args.top c.args.tally c.requires.0.running c.args.h c.requires.1

pub write_group-count-requires : goal.write_group-count-requires
write_group-count-requires c =
    entry_asks c.args.work.now c.args.top c.args.tally c.requires.0 c.narrow.ensures c.requires.1 c.args.at c.args.res.now (omega (arith, c.requires.2, c.requires.3))

pub narrow-requires-2 : goal.narrow-requires-2
narrow-requires-2 c =
    count_small c.requires.0 c.write_group-count.ensures

pub returns : goal.returns
returns c =
    entry_written c.args.work.now c.args.top c.args.tally c.requires.0.running c.args.h c.write_group-count.new.work c.args.at c.args.res.now (omega (arith, c.requires.2, c.requires.3)) c.write_group-count.result c.write_group-count.new.res c.narrow.result c.write_group-count.ensures c.narrow-2.result c.narrow.ensures c.narrow-2.ensures
