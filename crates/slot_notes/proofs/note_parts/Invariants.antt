use Prim.Native.Nat.{◌≤◌}
use Rattle.slot_notes.specs.Noted.{Noted}
use Rattle.slot_notes.proofs.FormNoteLaws.{parts_name}
use Rattle.slot_notes.proofs.note_parts.Given as goal

abbrev pub invariant-loop-j : goal.invariant-loop-j
invariant-loop-j l = (l.j ≤ l.count) × Noted l.at l.initial.work (parts_name l.initial.work l.f l.j) l.work
