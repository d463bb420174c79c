-- A sheet, judged over the table: the first form's line, devices, main, and the verdict. Assumes nothing.
use Prim.Native.Nat.{ℕ, suc, ◌+◌, ◌*◌, ◌≤◌, ◌<◌}
use native.Mathlib.Omega.{arith}
use native.Mathlib.Numerals.{add-one}
use mathlib.Core.Path.{◌≡◌, sym, ap, ◌∙◌, subst}
use mathlib.Core.List.{List, ◌∷◌, ◌++◌}
use mathlib.Core.Option.{none}
use lib.ListN.{length, drop, drop_of_length-le, length-map}
use lib.Seq.{drop-cons}
use Rattle.sheet_rules.specs.declared.FitAnswer.{FitAnswer}
use Rattle.sheet_rules.specs.declared.Verdict.{Verdict}
use Rattle.sheet_rules.specs.Sheet.{Row, Instr, Sheet, no_row, row_at, form_at}
use Rattle.type_rules.specs.SlotRows.{slot_rows, main_rows}
use Rattle.type_rules.specs.Typing.{Fault, code_faults, devices_faults, main_faults, line_faults, typed_lines, row_lines, first_form_line, first_fault}
use Rattle.table.specs.Layout.{device_count_at}
use Rattle.table.specs.View.{cell, sheet_in}
use Rattle.table.specs.Whole.{Whole}
use Rattle.table.specs.Told.{slot_rows_in}
use Rattle.table.proofs.ViewLaws.{Only-trans}
use Rattle.table.proofs.SheetLaws.{devices-length}
use Rattle.std.specs.declared.result.Result.{Result}
use Rattle.std.specs.declared.result.Result.TheVariants.{Ok, Err}
use Rattle.sheet_rules.specs.declared.Refusal.{Refusal}
use Rattle.sheet_rules.specs.Answers.{verdict_from}
use Rattle.code_typing.specs.Walk.{walk, walk_on}
use Rattle.code_typing.specs.Told.{judge_in, OnlySlots, LinesJudged, CodeJudged}
use Rattle.code_typing.proofs.WalkLaws.{walk_good, walk-append, walk_verdict_lem, walk-length}
use Rattle.code_typing.proofs.CodeLaws.{slots_sheet, slots_answers}
use Rattle.typing.specs.Told.{forms_faults_in, devices_faults_in, main_faults_in, main_slot_rows, FormsJudged, SheetJudged}
use Rattle.typing.proofs.DeviceLaws.{devices_nine}

-- the line of the first form

-- where the loop over rows stands
pub record RowsWalk (rows : List Row) (a line : ℕ) : Type 0 where
  pub within : a ≤ length rows
  pub lined : line ≤ 3 + 9 * a
  pub same : line + row_lines (drop a rows) ≡ row_lines rows + 3

pub rows_start : {rows : List Row} → RowsWalk rows 0 3
rows_start = record { within = omega arith; lined = omega arith; same = omega arith }

module _ {rows : List Row} {a line : ℕ} (g : RowsWalk rows a line) where
  pub rows_next : a < length rows → {m : ℕ} → m ≡ length (row_at rows a).members → m ≤ 8 → RowsWalk rows (a + 1) (line + (1 + m))
  unfolding row_lines
  rows_next l e few =
      record {
        within = omega arith;
        lined = omega (arith, g.lined);
        same =
            (let k : row_lines (drop a rows) ≡ suc (length (row_at rows a).members) + row_lines (drop (suc a) rows) = ap row_lines (drop-cons rows a no_row l) in
            let n : row_lines (drop (a + 1) rows) ≡ row_lines (drop (suc a) rows) = ap (λ (i : ℕ). row_lines (drop i rows)) (add-one a) in
            let s = g.same in
            omega arith);
      }

  pub rows_end : length rows ≤ a → line ≡ row_lines rows + 3
  unfolding row_lines
  rows_end l =
      let k : row_lines (drop a rows) ≡ 0 = ap row_lines (drop_of_length-le rows l) in
      omega (arith, g.same)

-- main, where its first slots have the devices' rows

pub main_judged : {w : List ℕ} {line : ℕ} (filled : ℕ) {main : List Instr} → slot_rows_in w filled ≡ main_rows (sheet_in w) → main ≡ (sheet_in w).main → {w' : List ℕ} {r : Result ℕ Refusal}
    → CodeJudged (code_faults (judge_in w).of_main (sheet_in w) none (slot_rows_in w filled) main) (slot_rows (sheet_in w) none (slot_rows_in w filled) main) (line + 1) w w' r
    → CodeJudged (main_faults_in w) (main_slot_rows w) line w w' r
main_judged {w} {line} filled rows e {w'} {r} k =
    record {
      lines = record {
        told = k.lines.told ∙ walk_good line _ ∙ (λ x. walk line (none ∷ code_faults (judge_in w).of_main (sheet_in w) none (rows x) (e x)));
        only = k.lines.only;
      };
      slots = λ n on. subst (λ (x : List ℕ). slot_rows_in w' (length x) ≡ x) (λ x. slot_rows (sheet_in w) none (rows x) (e x)) (k.slots n on);
    }

-- the whole sheet

-- what stands after the forms
abbrev rest_faults_in : List ℕ → List Fault
rest_faults_in w = devices_faults_in w ++ main_faults_in w

-- the same by a buffer in which rows of slots alone have changed
module _ {w w₁ : List ℕ} (o : OnlySlots w w₁) where
  devices_of : (ℕ → ℕ → FitAnswer) → Sheet → List Fault
  devices_of fit s = devices_faults (typed_lines fit s) s.devices

  main_of : (ℕ → ℕ → FitAnswer) → Sheet → List Fault
  main_of fit s = main_faults (typed_lines fit s) s

  devices_same : devices_faults_in w₁ ≡ devices_faults_in w
  unfolding devices_of
  devices_same = λ x. devices_of (slots_answers o x) (slots_sheet o x)

  main_same : main_faults_in w₁ ≡ main_faults_in w
  unfolding main_of
  main_same = λ x. main_of (slots_answers o x) (slots_sheet o x)

-- the first form's line is worked out over the sheet of the buffer
module _ {v w : List ℕ} (same : v ≡ w) {first : ℕ} (first_was : first ≡ first_form_line (sheet_in v)) {w₁ : List ℕ} {forms : Result ℕ Refusal} (j : FormsJudged first w w₁ forms) where
  first-is : first ≡ first_form_line (sheet_in w)
  first-is = first_was ∙ ap (λ (x : List ℕ). first_form_line (sheet_in x)) same

  t : LinesJudged (forms_faults_in w) first w w₁ forms
  t = j.lines

  verdict_by : verdict_from (walk_on forms (λ n. walk n (rest_faults_in w))) ≡ first_fault (first_form_line (sheet_in w)) (line_faults (judge_in w) (sheet_in w))
  unfolding line_faults
  verdict_by =
      ap verdict_from (ap (λ (x : Result ℕ Refusal). walk_on x (λ n. walk n (rest_faults_in w))) t.told ∙ sym (walk-append first (forms_faults_in w) (rest_faults_in w)))
      ∙ sym (walk_verdict_lem first (forms_faults_in w ++ rest_faults_in w)) ∙ ap (λ (n : ℕ). first_fault n (forms_faults_in w ++ rest_faults_in w)) first-is

  pub forms_refused : {q : Refusal} → forms ≡ Err q → SheetJudged w w₁ (Verdict.Refused q.reason q.line)
  forms_refused e =
      record { told = ap verdict_from (ap (λ (x : Result ℕ Refusal). walk_on x (λ n. walk n (rest_faults_in w))) (sym e)) ∙ verdict_by; only = t.only }

  -- the forms passed, and the devices were judged
  module _ {n : ℕ} (e : forms ≡ Ok n) {w₂ : List ℕ} {devices : Result ℕ Refusal} (d : CodeJudged (devices_faults_in w₁) (main_rows (sheet_in w₁)) n w₁ w₂ devices) where
    -- the verdict after them
    verdict_on : verdict_from (walk_on devices (λ m. walk m (main_faults_in w))) ≡ first_fault (first_form_line (sheet_in w)) (line_faults (judge_in w) (sheet_in w))
    verdict_on =
        ap verdict_from
        (ap (λ (x : Result ℕ Refusal). walk_on x (λ m. walk m (main_faults_in w))) (d.lines.told ∙ ap (walk n) (devices_same t.only))
        ∙ sym (walk-append n (devices_faults_in w) (main_faults_in w))
        ∙ ap (λ (x : Result ℕ Refusal). walk_on x (λ m. walk m (rest_faults_in w))) (sym e))
        ∙ verdict_by

    pub devices_only : OnlySlots w w₂
    devices_only = Only-trans t.only d.lines.only

    pub devices_refused : {q : Refusal} → devices ≡ Err q → SheetJudged w w₂ (Verdict.Refused q.reason q.line)
    devices_refused x =
        record { told = ap verdict_from (ap (λ (y : Result ℕ Refusal). walk_on y (λ m. walk m (main_faults_in w))) (sym x)) ∙ verdict_on; only = devices_only }

    module _ {m : ℕ} (x : devices ≡ Ok m) where
      -- main's first slots have their rows
      pub devices_rows : slot_rows_in w₂ (cell w₂ device_count_at) ≡ main_rows (sheet_in w₂)
      devices_rows =
          ap (slot_rows_in w₂) count ∙ d.slots m x ∙ ap main_rows (sym (slots_sheet d.lines.only))
        where
          count : cell w₂ device_count_at ≡ length (main_rows (sheet_in w₁))
          count =
              sym (devices-length w₂) ∙ ap (λ (s : Sheet). length s.devices) (slots_sheet d.lines.only)
              ∙ sym (length-map (sheet_in w₁).devices (λ f. (form_at (sheet_in w₁) f).row))

      pub devices_end : Whole w₁ → m ≤ n + 9
      devices_end h = omega (arith, walk-length n (devices_faults_in w₁) m (sym d.lines.told ∙ x), devices_nine (judge_in w₁) (sheet_in w₁).devices h.sheet.few_devices)

      pub sheet_judged : {w' : List ℕ} {r : Result ℕ Refusal} → LinesJudged (main_faults_in w₂) m w₂ w' r → SheetJudged w w' (verdict_from r)
      sheet_judged k =
          record {
            told = ap verdict_from (k.told ∙ ap (walk m) (main_same devices_only) ∙ ap (λ (y : Result ℕ Refusal). walk_on y (λ i. walk i (main_faults_in w))) (sym x)) ∙ verdict_on;
            only = Only-trans devices_only k.only;
          }
