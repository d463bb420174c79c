-- What the table by form and name tells a run: where the body of each method stands, and the place of each field. It stands
-- where the answers of fit stood. Stands on the table's view and on the machine's look-ups.
use Rattle.std.specs.Prelude.{ℕ, ◌<◌, ◌≡◌, List, length}
use Rattle.std.proofs.Math.Option.{some}
use Rattle.sheet_rules.specs.Sheet.{Instr, form_at, row_of_form}
use Rattle.machine_rules.specs.Step.{body_in, field_place}
use Rattle.table.specs.Layout.{part_address, part_count_address, body_start_address, body_size_address, table_end, place_address, slot_row_address}
use Rattle.table.specs.View.{cell, instrs_in, sheet_in}
use Rattle.table.specs.Only.{Only}

-- where a body stands: part j of form f is a body, and its instructions are the code
pub record BodyAt (w : List ℕ) (f j : ℕ) (is : List Instr) : Type 0 where
  pub inside : j < cell w (part_count_address f)
  pub tag : cell w (part_address f j) ≡ 0 → ⊥
  pub code : instrs_in w (cell w (body_start_address f j)) (cell w (body_size_address f j)) ≡ is

-- the table by form and name tells, for every form of the sheet, where the body of each method stands and the place of each
-- field
pub record Located (w : List ℕ) : Type 0 where
  pub bodies : (f n : ℕ) (code : List Instr) → f < length (sheet_in w).forms
      → body_in (row_of_form (sheet_in w) f).members (form_at (sheet_in w) f).parts n ≡ some code → BodyAt w f (cell w (place_address f n)) code
  pub fields : (f n i : ℕ) → f < length (sheet_in w).forms → field_place (row_of_form (sheet_in w) f).members n ≡ some i → cell w (place_address f n) ≡ i

-- the buffer after the table is filled: nothing else is changed
pub record PlacesFilled (w w' : List ℕ) : Type 0 where
  pub only : Only table_end (slot_row_address 0) w w'
  pub located : Located w'
