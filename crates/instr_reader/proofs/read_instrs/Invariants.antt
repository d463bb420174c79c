use Rattle.reader_loop.proofs.LoopLaws.{Going}
use Rattle.instr_reader.specs.Reads.{instr_items}
use Rattle.instr_reader.proofs.read_instrs.Given as goal

abbrev pub invariant-loop-j : goal.invariant-loop-j
invariant-loop-j l = Going l.text (instr_items l.forms l.filled l.initial.here.used l.count) l.count l.initial.here l.initial.work l.work l.j l.here
