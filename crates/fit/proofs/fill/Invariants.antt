use Prim.Native.Nat.{◌≤◌}
use mathlib.Core.Path.{◌≡◌}
use Rattle.fit.specs.Told.{rows_filled}
use Rattle.fit.proofs.fill.Given as goal

abbrev pub invariant-loop-m : goal.invariant-loop-m
invariant-loop-m l = (l.m ≤ l.rows) × (l.work ≡ rows_filled l.initial.work l.m)
