use native.Mathlib.Omega.{arith}
use Rattle.std.proofs.lemmas.Result.{err_from_is_err_and}
use Rattle.typing.proofs.FormsLaws.{counted, forms_whole, forms_in, forms_end, forms_stop, forms_next}
use Rattle.typing.proofs.judge_forms.Goals as goal

pub judge_form-requires : goal.judge_form-requires
judge_form-requires c = (
  forms_whole c.loop-f.invariant c.requires.0,
  forms_in c.loop-f.invariant c.requires.0 (counted c.of.ensures c.form_count-count.ensures.0) c.loop-f-test.true,
  omega (arith, c.loop-f.invariant.lined, c.requires.1, c.loop-f-test.true, c.form_count-count.ensures.1),
)

pub returns-in_err-line : goal.returns-in_err-line
returns-in_err-line c =
    let p = err_from_is_err_and c.from_residual.result c.from_residual.ensures.1 in
    rw (p.1, p.2) (forms_stop c.loop-f.invariant c.requires.0 (counted c.of.ensures c.form_count-count.ensures.0) c.loop-f-test.true c.judge_form.ensures c.in_err-line.was)

pub loop-f-preserved : goal.loop-f-preserved
loop-f-preserved c =
    forms_next c.loop-f.invariant c.requires.0 (counted c.of.ensures c.form_count-count.ensures.0) c.loop-f-test.true c.judge_form.ensures c.in_ok-line.was

pub returns : goal.returns
returns c =
    forms_end c.loop-f.invariant c.requires.0 (counted c.of.ensures c.form_count-count.ensures.0) c.loop-f-test.false
