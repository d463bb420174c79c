use Rattle.form_typing.proofs.PartsLaws.{PartsGoing}
use Rattle.form_typing.proofs.judge_parts.Given as goal

abbrev pub invariant-loop-j : goal.invariant-loop-j
invariant-loop-j l = PartsGoing l.f l.first l.initial.work l.work l.j l.line
