use Rattle.typing.proofs.FormsLaws.{FormsGoing}
use Rattle.typing.proofs.judge_forms.Given as goal

abbrev pub invariant-loop-f : goal.invariant-loop-f
invariant-loop-f l = FormsGoing l.first l.initial.work l.work l.f l.line
