use Prim.Native.Nat.{ℕ}
use native.Mathlib.Omega.{arith}
use mathlib.Core.Path.{sym, ap, ◌∙◌, subst}
use Rattle.sheet_rules.specs.declared.Refusal.{Refusal}
use Rattle.type_rules.specs.FitQuestion.{told_refused}
use Rattle.table.proofs.RowLaws.{rows-length}
use Rattle.fit.specs.Told.{Comparable}
use Rattle.fit.proofs.SheetLaws.{sheet_comparable, filled_whole}
use Rattle.fit_answer.proofs.SheetLaws.{passed_few}
use Rattle.fit_question.proofs.AskedLaws.{no_row_a, no_row_b, walked, fit_told_lem}
use Rattle.fit_question.proofs.told_in.Goals.{then-rows-a-via-then-rows-a, then-rows-a-via-else-rows-a+then-rows-b}
use Rattle.fit_question.proofs.told_in.Goals as goal

pub returns-then-rows-a : goal.returns-then-rows-a
returns-then-rows-a c =
    let counted = c.row_count-rows.ensures ∙ sym (rows-length c.args.work.now) in
    let told = c.refused.ensures ∙ ap (λ (x : Refusal). told_refused x.reason x.line) c.at.ensures in
    elim c.then-rows-a.branch [
      | then-rows-a-via-then-rows-a w ↦ no_row_a c.args.a c.args.b c.args.work.now counted w.if-rows-a.true told
      | then-rows-a-via-else-rows-a+then-rows-b w ↦ no_row_b c.args.a c.args.b c.args.work.now counted w.if-rows-b.true told
    ]

pub fill-requires : goal.fill-requires
fill-requires c =
    subst (λ (m : ℕ). Comparable m c.args.work.now) (sym c.row_count-rows.ensures) (sheet_comparable c.args.work.now c.requires)

pub of-requires : goal.of-requires
of-requires c =
    filled_whole c.row_count-rows.result c.args.work.now _ c.fill.ensures c.requires

pub overflow_cast-result : goal.overflow_cast-result
overflow_cast-result c =
    omega (arith, passed_few (filled_whole c.row_count-rows.result c.args.work.now _ c.fill.ensures c.requires) c.args.a c.args.b (walked c.args.a c.args.b c.of.ensures c.walk-walk.ensures.walk))

pub returns : goal.returns
returns c =
    fit_told_lem c.args.a c.args.b c.args.work.now (c.row_count-rows.ensures ∙ sym (rows-length c.args.work.now)) c.if-rows-a.false c.if-rows-b.false c.row_count-rows.ensures c.fill.ensures (filled_whole c.row_count-rows.result c.args.work.now _ c.fill.ensures c.requires) (walked c.args.a c.args.b c.of.ensures c.walk-walk.ensures.walk) c.requires.sheet
