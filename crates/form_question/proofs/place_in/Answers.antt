use Rattle.std.proofs.Common.{arith, ap, ◌∙◌}
use Rattle.std.specs.declared.result.Result.TheVariants.{Err}
use Rattle.table.specs.View.{sheet_in}
use Rattle.form_scan.proofs.StretchFound.{place_within, place_after}
use Rattle.form_question.proofs.FormLaws.{form_missing, form_found}
use Rattle.form_question.proofs.place_in.Goals as goal

pub returns-then-form_count-form : goal.returns-then-form_count-form
returns-then-form_count-form c = ap Err c.at.ensures ∙ form_missing c.args.text.now (sheet_in c.args.sheet.now) c.args.form c.form_count.ensures.0 c.if-form_count-form.true

pub find_border-end-requires : goal.find_border-end-requires
find_border-end-requires c = omega (arith, c.find_border-start.ensures, place_within c.args.text.now 0 c.args.form (omega arith))

pub overflow_sub-result : goal.overflow_sub-result
overflow_sub-result c = omega (arith, c.find_border-end.ensures, place_after c.args.text.now c.find_border-start.result 1)

pub returns : goal.returns
returns c =
    form_found c.args.text.now (sheet_in c.args.sheet.now) c.args.form c.form_count.ensures.0 c.if-form_count-form.false c.find_border-start.ensures c.find_border-end.ensures
