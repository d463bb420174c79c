-- What the fit table says of two rows, by its word on them; where the walk along them ends; and where the table is filled, fit's own
-- answer and the rule's count. Assumes nothing.
use Prim.Native.Nat.{ℕ, ◌≤◌, ◌<◌}
use native.Mathlib.Omega.{arith}
use mathlib.Core.Path.{◌≡◌, refl, sym, ap, ap₂, ◌∙◌, subst}
use mathlib.Core.Bool.{Bool, cond}
use mathlib.Core.List.{List}
use mathlib.Core.Option.{some}
use lib.ListN.{length}
use Rattle.sheet_rules.specs.declared.FitAnswer.{FitAnswer}
use Rattle.sheet_rules.specs.declared.FitAnswer.TheVariants.{Yes, WrongKind, Unmet}
use Rattle.sheet_rules.specs.Answers.{is_yes}
use Rattle.sheet_rules.specs.Sheet.{Row, Sheet, row_at}
use Rattle.sheet_rules.specs.WellFormed.{WellFormed}
use Rattle.type_rules.specs.declared.Walk.{Walk}
use Rattle.type_rules.specs.Fit.{row_answer, fit_answer, fits}
use Rattle.type_rules.specs.FitQuestion.{passed_in}
use Rattle.type_rules.specs.Passed.{passed}
use Rattle.type_rules.specs.Says.{Says}
use Rattle.type_rules.specs.Walk.{turns_of}
use Rattle.type_rules.proofs.AnswerLaws.{row_says, unmet_within}
use Rattle.type_rules.proofs.EnoughLaws.{passed_most, row_enough}
use Rattle.type_rules.proofs.FitLaws.{row_agree, fit_rule}
use Rattle.table.specs.Layout.{row_count_at}
use Rattle.table.specs.View.{cell, sheet_in}
use Rattle.table.specs.Whole.{Whole}
use Rattle.table.proofs.RowLaws.{rows-length}
use Rattle.fit.specs.Told.{tells, FitFilled}
use Rattle.fit.proofs.SheetLaws.{filled_sheet, sheet_tells}
use Rattle.fit_answer.specs.Told.{row_of, rows_say, rows_walk, answers}
use Rattle.std.specs.declared.result.Result.TheVariants.{Ok}

-- an answer, from whether it is yes and, if not, the answer itself
by_yes : (x : FitAnswer) → cond (is_yes x) Yes x ≡ x
by_yes Yes = refl
by_yes WrongKind = refl
by_yes (Unmet n) = refl

-- where the walk along two rows ends: what they say, and the rule's count
module _ {w : List ℕ} (h : Whole w) (a b : ℕ) {r : Walk} (e : some r ≡ rows_walk w a b) where
  ended : r ≡ record { answer = rows_say w a b; passed = passed (rows_say w a b) (row_of w a).members (row_of w b).members }
  ended = let at = e ∙ row_enough (tells w) (turns_of (row_of w a) (row_of w b)) (row_of w a) (row_of w b) (h.sheet.rows a).names (h.sheet.rows b).names (omega arith) in cc

  pub walk_says : r.answer ≡ rows_say w a b
  walk_says = ap (λ (t : Walk). t.answer) ended

  pub walk_passed : r.passed ≡ passed (rows_say w a b) (row_of w a).members (row_of w b).members
  walk_passed = ap (λ (t : Walk). t.passed) ended

  -- a row has at most 8 members
  pub passed_few : r.passed ≤ 8
  passed_few =
      let most = passed_most (rows_say w a b) (row_of w a).members (row_of w b).members in let few = (h.sheet.rows a).few in
      omega (arith, walk_passed)

-- where the table is filled, rows and table say what fit answers
module _ (w w' : List ℕ) (f : FitFilled (cell w row_count_at) w w') (well : WellFormed (sheet_in w)) (a b : ℕ) (h : a < length (sheet_in w).rows) (k : b < length (sheet_in w).rows) where
  told : (c d : ℕ) → c < length (sheet_in w).rows → d < length (sheet_in w).rows → tells w' c d ≡ fits (sheet_in w).rows c d
  told c d p q = sheet_tells w w' f c d (omega (arith, rows-length w)) (omega (arith, rows-length w))

  pub sheet_rows : rows_say w' a b ≡ fit_answer (sheet_in w).rows a b
  sheet_rows =
      let rows : List Row = (sheet_in w).rows in
      ap (λ (s : Sheet). row_answer (tells w') (row_at s.rows a) (row_at s.rows b)) (filled_sheet (cell w row_count_at) w w' f)
      ∙ row_agree (tells w') (fits rows) a b (λ m n p q. (told m n (omega arith) (omega arith), told n m (omega arith) (omega arith))) (row_at rows a) (row_at rows b) (well.rows a).lower (well.rows b).lower
      ∙ sym (fit_rule rows (λ i. (well.rows i).lower) a b)

  -- and the walk passes what it passes by that answer
  pub sheet_passed : Whole w' → {r : Walk} → some r ≡ rows_walk w' a b → r.passed ≡ passed_in (sheet_in w) a b (Ok (fit_answer (sheet_in w).rows a b))
  sheet_passed whole e =
      walk_passed whole a b e
      ∙ ap₂ (λ (x : FitAnswer) (s : Sheet). passed_in s a b (Ok x)) sheet_rows (filled_sheet (cell w row_count_at) w w' f)

  pub sheet_answers : answers w' a b ≡ fit_answer (sheet_in w).rows a b
  unfolding answers fits
  sheet_answers = ap₂ (λ (t : Bool) (x : FitAnswer). cond t Yes x) (told a b h k) sheet_rows ∙ by_yes (fit_answer (sheet_in w).rows a b)

-- the name in an answer is one of the sheet's, which are at most 63
pub named_low : {w : List ℕ} → Whole w → (a b : ℕ) {n : ℕ} → Unmet n ≡ rows_say w a b → n ≤ 63
named_low {w} h a b e =
    let fit = tells w in let x = row_at (sheet_in w).rows a in let y = row_at (sheet_in w).rows b in
    unmet_within fit x y (h.sheet.rows b).low (subst (Says fit x y) (sym e) (row_says fit x y (h.sheet.rows b).names))
