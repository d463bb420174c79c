use Rattle.reader_loop.proofs.LoopLaws.{Going}
use Rattle.row_reader.specs.Reads.{row_items}
use Rattle.row_reader.proofs.read_rows.Given as goal

abbrev pub invariant-loop-i : goal.invariant-loop-i
invariant-loop-i l = Going l.text (row_items l.initial.here.used) l.count l.initial.here l.initial.work l.work l.i l.here
