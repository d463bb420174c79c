use Rattle.std.proofs.lemmas.Result.{err_from_is_err_and}
use native.Mathlib.Omega.{arith}
use Prim.Native.Nat.{◌<◌, ◌≤◌}
use lib.ListN.{length}
use Rattle.sheet_rules.specs.Sheet.{form_at}
use Rattle.type_rules.specs.Typing.{form_faults}
use Rattle.table.specs.View.{sheet_in}
use Rattle.bound_rules.specs.Strict.{strict_lines}
use Rattle.bound.proofs.ItemsLaws.{items_end, items_stop, items_next}
use Rattle.bound.proofs.CallsLaws.{forms_end, forms_next, form_few, form_told}
use Rattle.bound.proofs.calls.judge_forms.Goals as goal

pub returns-in_err-line : goal.returns-in_err-line
returns-in_err-line c =
    let p = err_from_is_err_and c.from_residual.result c.from_residual.ensures.1 in
    let there : c.loop-f.f < length (sheet_in c.args.sheet.now).forms = omega (arith, c.loop-f-test.true, c.form_count-f-end.ensures.0) in
    rw (p.1, p.2) (items_stop c.loop-f.invariant (form_faults strict_lines (sheet_in c.args.sheet.now) c.loop-f.f (form_at (sheet_in c.args.sheet.now) c.loop-f.f)) (forms_next c.form_count-f-end.ensures.2 there)
    (form_told c.form_count-f-end.ensures.2 there c.loop-f.line c.keeps_of-keeps.ensures.0 c.judge_parts.ensures) c.in_err-line.was)

pub loop-f-preserved : goal.loop-f-preserved
loop-f-preserved c =
    let there : c.loop-f.f < length (sheet_in c.args.sheet.now).forms = omega (arith, c.loop-f-test.true, c.form_count-f-end.ensures.0) in
    items_next c.loop-f.invariant (form_faults strict_lines (sheet_in c.args.sheet.now) c.loop-f.f (form_at (sheet_in c.args.sheet.now) c.loop-f.f)) (forms_next c.form_count-f-end.ensures.2 there)
    (form_told c.form_count-f-end.ensures.2 there c.loop-f.line c.keeps_of-keeps.ensures.0 c.judge_parts.ensures) (form_few c.form_count-f-end.ensures.2 there) c.in_ok-line.was

pub returns : goal.returns
returns c =
    let past : length (sheet_in c.args.sheet.now).forms ≤ c.loop-f.f = omega (arith, c.loop-f-test.false, c.form_count-f-end.ensures.0) in
    items_end c.loop-f.invariant (forms_end c.form_count-f-end.ensures.2 c.loop-f.f past)
