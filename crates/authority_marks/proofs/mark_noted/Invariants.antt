use Prim.Native.Nat.{◌≤◌}
use Rattle.authority_marks.proofs.MarkLaws.{Noting}
use Rattle.authority_marks.proofs.mark_noted.Given as goal

abbrev pub invariant-loop-i : goal.invariant-loop-i
invariant-loop-i l = (l.i ≤ l.count) × Noting l.initial.work l.at l.notes l.i l.work
