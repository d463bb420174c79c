use Prim.Native.Nat.{◌≤◌}
use Rattle.authority_marks.specs.Marked.{Added, numbers_from}
use Rattle.authority_marks.proofs.mark_all.Given as goal

abbrev pub invariant-loop-i : goal.invariant-loop-i
invariant-loop-i l = (l.i ≤ l.count) × Added l.initial.work (numbers_from l.initial.work l.at l.i) l.work
