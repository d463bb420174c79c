use native.Mathlib.Omega.{arith}
use Rattle.form_reader.proofs.FormsLaws.{forms_start, forms_stop, forms_next, forms_end}
use Rattle.form_reader.proofs.read_forms.Goals as goal

pub loop-f-init : goal.loop-f-init
loop-f-init c = forms_start c.requires.0 c.requires.1

pub returns-in_err-here : goal.returns-in_err-here
returns-in_err-here c =
    forms_stop c.loop-f.invariant c.requires.2 (omega (arith, c.wide-f-end.ensures, c.loop-f-test.true)) c.read_form.ensures c.in_err-here.was c.from_residual.ensures.1

pub loop-f-preserved : goal.loop-f-preserved
loop-f-preserved c =
    forms_next c.loop-f.invariant c.requires.2 (omega (arith, c.wide-f-end.ensures, c.loop-f-test.true)) c.read_form.ensures c.in_ok-here.was

pub returns : goal.returns
returns c = forms_end c.loop-f.invariant (omega (arith, c.wide-f-end.ensures))
