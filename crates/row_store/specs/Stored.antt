-- A member of a row, stored. Stands on the table's view.
use Rattle.std.specs.Prelude.{ℕ, ◌≡◌, List}
use Rattle.sheet_rules.specs.declared.Member.{Member}
use Rattle.table.specs.Layout.{member_address, member_end}
use Rattle.table.specs.View.{member_in}
use Rattle.table.specs.Only.{Only}

-- member j of row i is now this one, and nothing else has changed
pub record Stored (i j : ℕ) (m : Member) (w w' : List ℕ) : Type 0 where
  pub holds : member_in w' i j ≡ m
  pub only : Only (member_address i j) (member_end i j) w w'
