-- Marks on numbers below 256, in the work buffer's spare room, and what they tell. Stands on the table's layout, on notes and on the
-- rules' `contains`.
use Rattle.std.specs.Prelude.{ℕ, ◌+◌, ◌<◌, ◌≡◌, Bool, false, ◌||◌, List, [], eqb}
use Rattle.lists.specs.Tab.{tab}
use Rattle.lists.specs.Contains.{contains}
use Rattle.lists.specs.Passing.{add_if}
use Rattle.lists.specs.AtPlaces.{at_places}
use Rattle.table.specs.Layout.{state_end, mark_address, code_notes_at, marks_end}
use Rattle.table.specs.View.{cell}
use Rattle.table.specs.Only.{Only}
use Rattle.slot_notes.specs.Noted.{is_noted}

-- w' is w but for the marks, and for the notes of the code in hand
abbrev pub MarksOnly : List ℕ → List ℕ → Type 0
MarksOnly w w' = Only state_end marks_end w w'

-- b is marked
abbrev pub is_marked : List ℕ → ℕ → Bool
is_marked w b = eqb (cell w (mark_address b)) 1

-- no number is marked; nothing but marks and those notes is changed
pub record MarksCleared (w w' : List ℕ) : Type 0 where
  pub only : MarksOnly w w'
  pub told : (b : ℕ) → b < 256 → is_marked w' b ≡ false

-- some numbers are marked beside those that were; nothing but marks and those notes is changed
pub record Added (w : List ℕ) (xs : List ℕ) (w' : List ℕ) : Type 0 where
  pub only : MarksOnly w w'
  pub told : (b : ℕ) → b < 256 → is_marked w' b ≡ (is_marked w b || contains xs b)

-- one number is marked if a test says so, and nothing but a mark is changed
pub record MarkedIf (test : Bool) (w : List ℕ) (v : ℕ) (w' : List ℕ) : Type 0 where
  pub only : Only state_end code_notes_at w w'
  pub added : Added w (add_if test v []) w'

-- the numbers in n places from `at` on
abbrev pub numbers_from : List ℕ → ℕ → ℕ → List ℕ
numbers_from w at n = tab (λ i. cell w (at + i)) n

-- those of them whose notes are set; the first one's note stands at `notes`
abbrev pub noted_from : List ℕ → ℕ → ℕ → ℕ → List ℕ
noted_from w at notes n = at_places (is_noted w notes) (numbers_from w at n)

-- the numbers there are below 256
abbrev pub Small : List ℕ → ℕ → ℕ → Type 0
Small w at n = (i : ℕ) → i < n → cell w (at + i) < 256
