use mathlib.Core.Path.{ap}
use mathlib.Core.Bool.{not}
use Rattle.lists.proofs.Tests.{test_fails, test_holds}
use mathlib.Core.Path.{◌≡◌, sym, ap₂, ◌∙◌, subst}
use Rattle.sheet_rules.specs.RowLines.{same_member, same_members}
use native.Mathlib.Omega.{arith}
use native.Mathlib.Numerals.{add-one}
use mathlib.Core.Bool.{true}
use Rattle.table.specs.View.{member_in, members_in}
use Rattle.row_twins.proofs.TwinLaws.{members_none, members_next, members_differ}
use Rattle.row_twins.proofs.same_members.Goals as goal

pub loop-j-init : goal.loop-j-init
loop-j-init c = (omega arith, members_none (member_in c.args.work.now c.args.a) (member_in c.args.work.now c.args.b))

pub member-x-requires : goal.member-x-requires
member-x-requires c = (c.requires.0, omega arith, c.requires.3)

pub member-y-requires : goal.member-y-requires
member-y-requires c = (c.requires.1, omega arith, c.requires.3)

pub same_member-requires : goal.same_member-requires
same_member-requires c = tt

pub returns-then-not-same_member : goal.returns-then-not-same_member
returns-then-not-same_member c =
    sym (members_differ (member_in c.args.work.now c.args.a) (member_in c.args.work.now c.args.b) c.loop-j.j c.args.count c.loop-j-test.true c.loop-j.invariant.1
    (sym (ap₂ same_member c.member-x.ensures c.member-y.ensures) ∙ test_fails c.same_member.ensures (ap not c.if-not-same_member.true)))

pub loop-j-preserved : goal.loop-j-preserved
loop-j-preserved c = (
  omega arith,
  rw add-one (members_next (member_in c.args.work.now c.args.a) (member_in c.args.work.now c.args.b) c.loop-j.j c.loop-j.invariant.1 (sym (ap₂ same_member c.member-x.ensures c.member-y.ensures) ∙ test_holds c.same_member.ensures (ap not c.if-not-same_member.false))),
)

pub returns : goal.returns
returns c =
    sym (subst (λ n. same_members (members_in c.args.work.now c.args.a n) (members_in c.args.work.now c.args.b n) ≡ true) (omega arith) c.loop-j.invariant.1)
