use Prim.Native.Nat.{◌≤◌}
use Rattle.sheet_rules.specs.Sheet.{row_at}
use Rattle.table.specs.View.{sheet_in}
use Rattle.authority.proofs.OwnLaws.{Counting}
use Rattle.authority.proofs.own.field_count.Given as goal

abbrev pub invariant-loop-j : goal.invariant-loop-j
invariant-loop-j l = (l.j ≤ l.count) × Counting (row_at (sheet_in l.sheet).rows l.row).members l.fields l.j
