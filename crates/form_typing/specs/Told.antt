-- What judging the lines of a form ensures. Stands on the typing rules, the table's view and the judgement of a body's lines.
use Rattle.std.specs.Prelude.{ℕ, ◌+◌, ◌≤◌, ◌<◌, ◌≡◌, List, ◌∷◌, get_or}
use Rattle.std.proofs.Math.Option.{none, some}
use Rattle.sheet_rules.specs.declared.Member.{Member}
use Rattle.sheet_rules.specs.Sheet.{form_at}
use Rattle.type_rules.specs.SlotRows.{members_at, slot_rows, body_rows}
use Rattle.type_rules.specs.Typing.{Fault, code_faults, part_faults, parts_faults, keep_faults, form_faults}
use Rattle.table.specs.Layout.{slot_row_address}
use Rattle.table.specs.View.{cell, instrs_in, sheet_in}
use Rattle.table.specs.declared.forms.PartPlace.{PartPlace}
use Rattle.table.specs.Told.{slot_rows_in, part_told}
use Rattle.code_typing.specs.Told.{judge_in, instr_judge_in, OnlySlots}

-- the rows of a body's first slots are in place: the own object, the argument, the kept values
pub record SlotsFilled (f argument : ℕ) (w w' : List ℕ) (filled : ℕ) : Type 0 where
  pub rows : slot_rows_in w' filled ≡ body_rows (form_at (sheet_in w) f) argument
  pub few : filled ≤ 10
  pub only : OnlySlots w w'

-- a body has at most 32 instructions
pub data PlaceSmall : PartPlace → Type 0 where
  an_init : {k : ℕ} → PlaceSmall (PartPlace.Init k)
  a_body : {start count : ℕ} → count ≤ 32 → PlaceSmall (PartPlace.Body start count)

-- the lines of a body of form f, and the rows of all its slots
abbrev pub body_faults : List ℕ → ℕ → (argument result start count : ℕ) → List Fault
body_faults w f argument result start count =
    none
    ∷ code_faults (instr_judge_in w (some (form_at (sheet_in w) f).row) (some result)) (sheet_in w) (some (form_at (sheet_in w) f).row) (body_rows (form_at (sheet_in w) f) argument) (instrs_in w start count)

abbrev pub body_slot_rows : List ℕ → ℕ → (argument start count : ℕ) → List ℕ
body_slot_rows w f argument start count =
    slot_rows (sheet_in w) (some (form_at (sheet_in w) f).row) (body_rows (form_at (sheet_in w) f) argument) (instrs_in w start count)

-- the lines of a part of form f for a member, of all its parts, of its `keep` lines, and all its lines
abbrev pub part_faults_in : List ℕ → ℕ → Member → PartPlace → List Fault
part_faults_in w f m p = part_faults (judge_in w) (sheet_in w) f (form_at (sheet_in w) f) m (part_told w p)

abbrev pub parts_faults_in : List ℕ → ℕ → List Fault
parts_faults_in w f =
    parts_faults (judge_in w) (sheet_in w) f (form_at (sheet_in w) f) (members_at (sheet_in w) (form_at (sheet_in w) f).row) (form_at (sheet_in w) f).parts

abbrev pub keep_faults_in : List ℕ → ℕ → List Fault
keep_faults_in w f = keep_faults (judge_in w) f (form_at (sheet_in w) f)

abbrev pub form_faults_in : List ℕ → ℕ → List Fault
form_faults_in w f = form_faults (judge_in w) (sheet_in w) f (form_at (sheet_in w) f)

-- kept rows are in place as the rows of the slots after the first two, which are as they were
pub record KeepsPut (f count : ℕ) (w w' : List ℕ) : Type 0 where
  pub kept : (i : ℕ) → i < count → cell w' (slot_row_address (2 + i)) ≡ get_or (form_at (sheet_in w) f).keeps i 0
  pub first : (i : ℕ) → i < 2 → cell w' (slot_row_address i) ≡ cell w (slot_row_address i)
  pub only : OnlySlots w w'
