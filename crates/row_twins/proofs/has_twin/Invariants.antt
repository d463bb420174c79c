use mathlib.Core.Path.{◌≡◌}
use mathlib.Core.Bool.{false}
use Prim.Native.Nat.{◌-◌, ◌≤◌}
use Rattle.sheet_rules.specs.RowLines.{twin}
use Rattle.table.specs.View.{row_in, rows_in}
use Rattle.row_twins.proofs.has_twin.Given as goal

abbrev pub invariant-loop-k : goal.invariant-loop-k
invariant-loop-k l = (l.k ≤ l.i) × (twin (rows_in l.work l.k) (row_in l.work l.i) ≡ false)
