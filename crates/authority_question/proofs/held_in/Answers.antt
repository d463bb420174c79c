use mathlib.Core.Path.{ap, sym, subst}
use Rattle.std.specs.declared.result.Result.TheVariants.{Err}
use Rattle.authority_question.specs.Asked.{HeldTold}
use mathlib.Core.Bool.{not}
use borrow.Author.Tests.{not-true, not-false}
use Rattle.authority.proofs.ReachLaws.{run_stored}
use Rattle.authority.proofs.MemberLaws.{count_small}
use Rattle.authority_question.proofs.HeldLaws.{no_group, group_holders, group_told}
use Rattle.authority_question.proofs.held_in.Goals as goal

pub is_group-requires : goal.is_group-requires
is_group-requires c =
    run_stored c.run_noted-halt.new.work c.run_noted-halt.result.top c.run_noted-halt.result.tally c.run_noted-halt.ensures.prepared.running

pub returns-then-not-is_group : goal.returns-then-not-is_group
returns-then-not-is_group c =
    subst (HeldTold _ c.args.work.now c.args.res.now _ c.args.res.now) (ap Err (sym c.at.ensures))
    (no_group c.run_noted-halt.ensures c.args.holders.now c.is_group.ensures (not-true c.is_group.result (ap not c.if-not-is_group.true)) c.args.res.now)

pub write_group-count-requires : goal.write_group-count-requires
write_group-count-requires c = (
  c.run_noted-halt.ensures.prepared,
  group_holders c.run_noted-halt.ensures c.args.holders.now c.is_group.ensures (not-false c.is_group.result (ap not c.if-not-is_group.false)),
  c.requires.1,
)

pub narrow-requires : goal.narrow-requires
narrow-requires c =
    count_small c.run_noted-halt.ensures.prepared c.write_group-count.ensures

pub returns : goal.returns
returns c =
    group_told c.run_noted-halt.ensures c.args.holders.now c.is_group.ensures (not-false c.is_group.result (ap not c.if-not-is_group.false)) c.write_group-count.ensures c.narrow.ensures
