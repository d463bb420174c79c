use Rattle.slot_notes.proofs.NoteLaws.{CodeNoting}
use Rattle.slot_notes.proofs.note_instrs.Given as goal

abbrev pub invariant-loop-q : goal.invariant-loop-q
invariant-loop-q l = CodeNoting l.at l.p l.end l.initial.work l.work l.q
