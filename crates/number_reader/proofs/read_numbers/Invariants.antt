use Rattle.reader_loop.proofs.LoopLaws.{Going}
use Rattle.number_reader.specs.Reads.{number_items}
use Rattle.number_reader.proofs.read_numbers.Given as goal

abbrev pub invariant-loop-j : goal.invariant-loop-j
invariant-loop-j l = Going l.text (number_items l.list l.initial.here.used) l.list.count l.initial.here l.initial.work l.work l.j l.here
