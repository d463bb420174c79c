use lib.ListN.{take}
use Rattle.lists.specs.Contains.{contains}
use Rattle.table.specs.Told.{new_slots}
use Rattle.slot_notes.specs.Noted.{Noted}
use Rattle.slot_notes.proofs.note_new.Given as goal

abbrev pub invariant-loop-k : goal.invariant-loop-k
invariant-loop-k l = Noted l.at l.initial.work (contains (take l.k (new_slots l.initial.work l.p))) l.work
