-- The fit table of a sheet that was read: what filling asks for holds, and what it gives is about the sheet. Assumes nothing.
use Prim.Native.Nat.{ℕ, ◌<◌}
use native.Mathlib.Omega.{arith}
use mathlib.Core.Path.{◌≡◌, sym, subst}
use mathlib.Core.List.{List}
use lib.ListN.{length}
use Rattle.lists.proofs.TabLaws.{length-tab, get_or-tab}
use Rattle.sheet_rules.specs.WellFormed.{WellFormedRow, WellFormed}
use Rattle.sheet_rules.specs.Sheet.{no_row}
use Rattle.type_rules.specs.Fit.{fits}
use Rattle.table.specs.Layout.{row_count_at, table_end, slot_row_address}
use Rattle.table.specs.View.{cell, row_in, rows_in, sheet_in}
use Rattle.table.specs.Whole.{Whole}
use Rattle.table.proofs.ViewLaws.{only→same, sheet_in_same}
use Rattle.fit.specs.Told.{tells, Comparable, FitFilled}
use Rattle.fit.proofs.FillLaws.{filled_tells}

-- what `fill` asks for, of a whole buffer

pub sheet_comparable : (w : List ℕ) → Whole w → Comparable (cell w row_count_at) w
unfolding sheet_in
sheet_comparable w whole =
    let f = whole.sheet in
    record {
      size = whole.size;
      few = (let e : length (rows_in w (cell w row_count_at)) ≡ cell w row_count_at = length-tab (row_in w) (cell w row_count_at) in let k = f.few_rows in omega arith);
      rows = λ i l. subst (WellFormedRow i) (get_or-tab (row_in w) (cell w row_count_at) i no_row l) (f.rows i);
    }

-- what it gives: the sheet is as it was, in a buffer that is still whole, and the table tells fit of its rows

pub filled_sheet : (n : ℕ) (w w' : List ℕ) → FitFilled n w w' → sheet_in w' ≡ sheet_in w
filled_sheet n w w' g = sheet_in_same w w' (only→same table_end (slot_row_address 0) w w' (omega arith) g.only)

pub filled_whole : (n : ℕ) (w w' : List ℕ) → FitFilled n w w' → Whole w → Whole w'
filled_whole n w w' g h = record { size = omega (arith, g.only.size, h.size); sheet = subst WellFormed (sym (filled_sheet n w w' g)) h.sheet }

pub sheet_tells : (w w' : List ℕ) → FitFilled (cell w row_count_at) w w' → (a b : ℕ) → a < cell w row_count_at → b < cell w row_count_at
    → tells w' a b ≡ fits (sheet_in w).rows a b
unfolding sheet_in
sheet_tells w w' g a b h k = filled_tells (cell w row_count_at) w w' g a b h k
