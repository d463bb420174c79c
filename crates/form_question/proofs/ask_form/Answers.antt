use mathlib.Core.Path.{refl}
use Rattle.form_question.proofs.FormLaws.{end_within, form_asked}
use native.Mathlib.Omega.{arith}
use Rattle.form_question.proofs.ask_form.Goals as goal

pub overflow_add-end : goal.overflow_add-end
overflow_add-end c = omega (arith, c.well_formed, end_within c.args.text c.args.form c.ask_place.ensures c.form_result-told.ensures)

pub slice_bounds-result-end : goal.slice_bounds-result-end
slice_bounds-result-end c = end_within c.args.text c.args.form c.ask_place.ensures c.form_result-told.ensures

pub returns : goal.returns
returns c = form_asked c.args.text c.args.form c.ask_place.ensures c.form_result-told.ensures _ refl (omega arith) refl
