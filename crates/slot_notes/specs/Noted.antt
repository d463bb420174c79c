-- Notes on slots, in the work buffer's spare room: which slots some code names. Stands on the table's layout and view, and on the
-- rules' names.
use Rattle.std.specs.Prelude.{ℕ, ◌+◌, ◌≤◌, ◌<◌, ◌≡◌, Bool, false, ◌||◌, List, eqb, length}
use Rattle.sheet_rules.specs.Sheet.{Instr, code_names, form_names, form_at}
use Rattle.table.specs.Layout.{state_end, code_notes_at, marks_end, form_notes_address, notes_end, work_size}
use Rattle.table.specs.View.{cell, sheet_in}
use Rattle.table.specs.Only.{Only}

-- how many slots have a note: all that a frame can have
abbrev pub note_count : ℕ
note_count = 44

-- slot v is noted, among the notes at a place
abbrev pub is_noted : List ℕ → ℕ → ℕ → Bool
is_noted w at v = eqb (cell w (at + v)) 1

-- the notes at a place lie in the spare room of a buffer that is long enough
pub record Room (at : ℕ) (w : List ℕ) : Type 0 where
  pub above : state_end ≤ at
  pub inside : at + note_count ≤ work_size
  pub size : work_size ≤ length w

-- w' is w but for the notes at a place
abbrev pub NotesOnly : ℕ → List ℕ → List ℕ → Type 0
NotesOnly at w w' = Only at (at + note_count) w w'

-- no slot is noted, and nothing else is changed
pub record NotesCleared (at : ℕ) (w w' : List ℕ) : Type 0 where
  pub only : NotesOnly at w w'
  pub told : (v : ℕ) → v < note_count → is_noted w' at v ≡ false

-- the slots that pass a test are noted beside those that were, and nothing else is changed
pub record Noted (at : ℕ) (w : List ℕ) (test : ℕ → Bool) (w' : List ℕ) : Type 0 where
  pub only : NotesOnly at w w'
  pub told : (v : ℕ) → v < note_count → is_noted w' at v ≡ (is_noted w at v || test v)

-- the slots that pass a test are noted, and no others; nothing else is changed
pub record NotedAfresh (at : ℕ) (w : List ℕ) (test : ℕ → Bool) (w' : List ℕ) : Type 0 where
  pub only : NotesOnly at w w'
  pub told : (v : ℕ) → v < note_count → is_noted w' at v ≡ test v

-- the slots that some code names are noted
abbrev pub CodeNoted : List ℕ → List Instr → List ℕ → Type 0
CodeNoted w is w' = NotedAfresh code_notes_at w (code_names is) w'

-- each form's notes, of the first n forms, tell which slots its bodies name
abbrev pub FormsTold : List ℕ → ℕ → Type 0
FormsTold w n = (f v : ℕ) → f < n → v < note_count → is_noted w (form_notes_address f) v ≡ form_names (form_at (sheet_in w) f) v

-- of all forms
abbrev pub FormsNoted : List ℕ → Type 0
FormsNoted w = FormsTold w (length (sheet_in w).forms)

-- the first n forms have been noted, and nothing but forms' notes is changed
pub record FormsNotedIn (w : List ℕ) (n : ℕ) (w' : List ℕ) : Type 0 where
  pub only : Only marks_end notes_end w w'
  pub told : FormsTold w' n
