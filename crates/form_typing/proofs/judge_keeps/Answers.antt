use mathlib.Core.Bool.{not}
use borrow.Author.Tests.{not-true, not-false}
use native.Mathlib.Omega.{arith}
use Prim.Native.Nat.{ℕ}
use mathlib.Core.Path.{ap, ◌∙◌}
use Rattle.sheet_rules.specs.Sheet.{row_at}
use Rattle.type_rules.specs.Typing.{is_pure}
use Rattle.table.specs.View.{sheet_in}
use Rattle.form_typing.proofs.HeadLaws.{keeps_end, keeps_stop, keeps_next}
use Rattle.form_typing.proofs.judge_keeps.Goals as goal

pub returns-then-not-may_keep : goal.returns-then-not-may_keep
returns-then-not-may_keep c =
    keeps_stop c.loop-j.invariant (omega (arith, c.loop-j-test.true, c.keep_count-count.ensures.0)) (c.is_pure-pure.ensures ∙ ap (λ (a : ℕ). is_pure (row_at (sheet_in c.args.sheet.now).rows a).kind) (c.wide.ensures ∙ c.form_row.ensures)) (c.wide-in-loop-j.ensures ∙ c.keep.ensures) c.may_keep.ensures (not-true _ (ap not c.if-not-may_keep.true))

pub loop-j-preserved : goal.loop-j-preserved
loop-j-preserved c =
    keeps_next c.loop-j.invariant (omega (arith, c.loop-j-test.true, c.keep_count-count.ensures.0)) (c.is_pure-pure.ensures ∙ ap (λ (a : ℕ). is_pure (row_at (sheet_in c.args.sheet.now).rows a).kind) (c.wide.ensures ∙ c.form_row.ensures)) (c.wide-in-loop-j.ensures ∙ c.keep.ensures) c.may_keep.ensures (not-false _ (ap not c.if-not-may_keep.false))

pub returns : goal.returns
returns c = keeps_end c.loop-j.invariant c.keep_count-count.ensures.0 c.loop-j-test.false (omega arith)
