use Prim.Native.Nat.{◌≤◌}
use mathlib.Core.Path.{◌≡◌}
use Rattle.table.specs.View.{sheet_in}
use Rattle.machine_places.specs.Placed.{forms_placed}
use Rattle.machine_places.proofs.locate.Given as goal

abbrev pub invariant-loop-f : goal.invariant-loop-f
invariant-loop-f l = (l.f ≤ l.count) × (l.work ≡ forms_placed (sheet_in l.initial.work) l.initial.work l.f)
