use Rattle.reader_loop.proofs.LoopLaws.{Going}
use Rattle.row_reader.specs.Reads.{member_items}
use Rattle.row_reader.proofs.read_members.Given as goal

abbrev pub invariant-loop-j : goal.invariant-loop-j
invariant-loop-j l = Going l.text (member_items l.initial.work l.i l.initial.here.used) l.count l.initial.here l.initial.work l.work l.j l.here
