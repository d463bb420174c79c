-- What judging a sheet over the table ensures. Stands on the typing rules, the table's view and the judgement of a form's lines.
use Rattle.std.specs.Prelude.{ℕ, ◌+◌, ◌≤◌, ◌≡◌, List, map}
use Rattle.std.proofs.Math.Option.{none}
use Rattle.sheet_rules.specs.declared.Verdict.{Verdict}
use Rattle.type_rules.specs.SlotRows.{slot_rows, main_rows}
use Rattle.type_rules.specs.Typing.{Fault, forms_faults, devices_faults, main_faults, line_faults, first_form_line, first_fault}
use Rattle.table.specs.View.{sheet_in}
use Rattle.std.specs.declared.result.Result.{Result}
use Rattle.std.specs.declared.result.Result.TheVariants.{Ok}
use Rattle.sheet_rules.specs.declared.Refusal.{Refusal}
use Rattle.code_typing.specs.Told.{judge_in, OnlySlots, LinesJudged}

-- the lines of all forms, of the devices, and of main, by what the fit table says; and the rows of all slots of main
abbrev pub forms_faults_in : List ℕ → List Fault
forms_faults_in w = forms_faults (judge_in w) (sheet_in w) 0 (sheet_in w).forms

abbrev pub device_faults_in : List ℕ → List Fault
device_faults_in w = map (judge_in w).of_device (sheet_in w).devices

abbrev pub devices_faults_in : List ℕ → List Fault
devices_faults_in w = devices_faults (judge_in w) (sheet_in w).devices

abbrev pub main_faults_in : List ℕ → List Fault
main_faults_in w = main_faults (judge_in w) (sheet_in w)

abbrev pub main_slot_rows : List ℕ → List ℕ
main_slot_rows w = slot_rows (sheet_in w) none (main_rows (sheet_in w)) (sheet_in w).main

-- the forms' lines, judged: 273 for each of 64 forms at the most
pub record FormsJudged (first : ℕ) (w w' : List ℕ) (r : Result ℕ Refusal) : Type 0 where
  pub lines : LinesJudged (forms_faults_in w) first w w' r
  pub few : (n : ℕ) → r ≡ Ok n → n ≤ first + 17472

-- the verdict on the sheet in the table is the rule's, by what the fit table says, and only rows of slots have changed
pub record SheetJudged (w w' : List ℕ) (v : Verdict) : Type 0 where
  pub told : v ≡ first_fault (first_form_line (sheet_in w)) (line_faults (judge_in w) (sheet_in w))
  pub only : OnlySlots w w'
