use mathlib.Core.Bool.{not}
use Rattle.lists.proofs.Tests.{test_fails, test_holds}
use Prim.Native.Nat.{ℕ}
use mathlib.Core.Path.{sym, ap, ap₂, ◌∙◌}
use Rattle.sheet_rules.specs.RowLines.{same_kind, same_members}
use Rattle.table.specs.View.{members_in}
use Rattle.row_twins.proofs.TwinLaws.{rows_kind, rows_count, rows_members}
use Rattle.row_twins.proofs.same_row.Goals as goal

pub returns-then-m-n : goal.returns-then-m-n
returns-then-m-n c =
    sym (rows_count c.args.work.now c.args.a c.args.b (λ e. c.if-m-n.true (c.member_count-m.ensures ∙ e ∙ sym c.member_count-n.ensures)))

pub returns-then-not-same_kind : goal.returns-then-not-same_kind
returns-then-not-same_kind c =
    sym (rows_kind c.args.work.now c.args.a c.args.b
    (sym (ap₂ same_kind c.row_kind.ensures c.row_kind-2.ensures) ∙ test_fails c.same_kind.ensures (ap not c.if-not-same_kind.true)))

pub returns : goal.returns
returns c =
    c.same_members.ensures
    ∙ ap (λ (n : ℕ). same_members (members_in c.args.work.now c.args.a n) (members_in c.args.work.now c.args.b n)) c.member_count-n.ensures
    ∙ sym (rows_members c.args.work.now c.args.a c.args.b
    (sym (ap₂ same_kind c.row_kind.ensures c.row_kind-2.ensures) ∙ test_holds c.same_kind.ensures (ap not c.if-not-same_kind.false))
    (sym c.member_count-m.ensures ∙ c.if-m-n.false ∙ c.member_count-n.ensures))
