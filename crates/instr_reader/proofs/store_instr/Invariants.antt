use Rattle.instr_reader.proofs.StoreLaws.{Storing}
use Rattle.instr_reader.proofs.store_instr.Given as goal

abbrev pub invariant-loop-k : goal.invariant-loop-k
invariant-loop-k l = Storing l.p l.k l.numbers.values l.initial.work l.work
