use Rattle.instr_typing.specs.Told.{row_found}
use Rattle.code_typing.proofs.CodeLaws.{CodeGoing}
use Rattle.code_typing.proofs.judge_code.Given as goal

abbrev pub invariant-loop-j : goal.invariant-loop-j
invariant-loop-j l = CodeGoing (row_found l.own) (row_found l.wanted) l.filled l.start l.count l.first l.initial.work l.work l.j
