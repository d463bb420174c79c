-- A work buffer whose sheet was accepted (document 01, The machine: only an accepted sheet is run). Stands on the table and on typed
-- sheets.
use Rattle.std.specs.Prelude.{ℕ, List}
use Rattle.type_rules.specs.Typed.{Typed}
use Rattle.table.specs.View.{sheet_in}
use Rattle.table.specs.Pool.{Placed}
use Rattle.table.specs.Whole.{Whole}

-- the buffer's sheet is well formed and well typed, with all its instructions in the pool
pub record AcceptedIn (w : List ℕ) : Type 0 where
  pub whole : Whole w
  pub typed : Typed (sheet_in w)
  pub placed : Placed w
