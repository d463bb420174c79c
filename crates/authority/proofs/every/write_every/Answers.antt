use native.Mathlib.Omega.{arith}
use Rattle.authority.proofs.EveryLaws.{first_written, next_asks, next_written, every_written}
use Rattle.authority.proofs.every.write_every.Goals as goal

pub loop-b-init : goal.loop-b-init
loop-b-init c =
    (omega arith, first_written c.write_entry-at.new.work c.args.top c.args.tally c.write_entry-at.result c.write_entry-at.new.res)

pub write_object-at-requires : goal.write_object-at-requires
write_object-at-requires c =
    next_asks c.args.work.now c.args.top c.args.tally c.requires.0 c.args.res.now c.requires.1 c.write_entry-at.new.work c.write_entry-at.new.res c.write_entry-at.result c.write_entry-at.ensures c.loop-b.work c.loop-b.res c.loop-b.at c.loop-b.b c.loop-b.invariant.1 c.loop-b.invariant.0 c.loop-b-test.true

pub loop-b-preserved : goal.loop-b-preserved
loop-b-preserved c = (
  omega (arith, c.loop-b-test.true),
  next_written c.args.work.now c.args.top c.args.tally c.requires.0 c.args.res.now c.requires.1 c.write_entry-at.new.work c.write_entry-at.new.res c.write_entry-at.result c.write_entry-at.ensures c.loop-b.work c.loop-b.res c.loop-b.at c.loop-b.b c.loop-b.invariant.1 c.loop-b.invariant.0 c.write_object-at.new.work c.write_object-at.new.res c.write_object-at.result c.write_object-at.ensures,
)

pub returns : goal.returns
returns c =
    every_written c.args.work.now c.args.top c.args.tally c.requires.0 c.args.res.now c.requires.1 c.write_entry-at.new.work c.write_entry-at.new.res c.write_entry-at.result c.write_entry-at.ensures c.loop-b.work c.loop-b.res c.loop-b.at c.loop-b.b c.loop-b.invariant.1 c.loop-b.invariant.0 c.loop-b-test.false
