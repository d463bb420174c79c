-- A work buffer that holds a sheet: what the crates above the reader know of it. Stands on Layout, on View and on
-- the rules' well-formed sheets.
use Rattle.std.specs.Prelude.{◌≤◌, ℕ, List, length}
use Rattle.sheet_rules.specs.WellFormed.{WellFormed}
use Rattle.table.specs.Layout.{work_size}
use Rattle.table.specs.View.{sheet_in}

-- a buffer that is long enough, and whose sheet is well formed
pub record Whole (w : List ℕ) : Type 0 where
  pub size : work_size ≤ length w
  pub sheet : WellFormed (sheet_in w)
