use mathlib.Core.Path.{◌≡◌}
use Rattle.sheet_rules.specs.RowLines.{same_members}
use Prim.Native.Nat.{◌-◌, ◌≤◌}
use mathlib.Core.Bool.{true}
use Rattle.table.specs.View.{members_in}
use Rattle.row_twins.proofs.same_members.Given as goal

abbrev pub invariant-loop-j : goal.invariant-loop-j
invariant-loop-j l = (l.j ≤ l.count) × (same_members (members_in l.work l.a l.j) (members_in l.work l.b l.j) ≡ true)
