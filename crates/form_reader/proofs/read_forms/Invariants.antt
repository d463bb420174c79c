use Rattle.form_reader.proofs.FormsLaws.{FormsGoing}
use Rattle.form_reader.proofs.read_forms.Given as goal

abbrev pub invariant-loop-f : goal.invariant-loop-f
invariant-loop-f l = FormsGoing l.text l.rows l.forms l.initial.here l.initial.work l.work l.f l.here
