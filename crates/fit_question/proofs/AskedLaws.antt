-- The fit question over the table: a law for each exit. Assumes nothing.
use Prim.Native.Nat.{ℕ, ◌≤◌, ◌<◌}
use native.Mathlib.Omega.{arith}
use mathlib.Core.Path.{◌≡◌, refl, sym, ap, ap₂, ◌∙◌, subst}
use mathlib.Core.Bool.{Bool, true, false, cond, ◌&&◌}
use mathlib.Core.List.{List}
use mathlib.Core.Option.{some}
use lib.Dec.{ltb}
use lib.ListN.{length}
use borrow.Author.Tests.{lt-ltb, le-ltb}
use Rattle.sheet_rules.specs.declared.FitAnswer.{FitAnswer}
use Rattle.sheet_rules.specs.declared.Reason.{Reason}
use Rattle.sheet_rules.specs.declared.Reason.TheVariants.{NotDefined}
use Rattle.sheet_rules.specs.declared.Verdict.{Verdict}
use Rattle.sheet_rules.specs.Reading.{Meaning}
use Rattle.sheet_rules.specs.WellFormed.{WellFormed}
use Rattle.sheet_rules.specs.Answers.{turned_away}
use Rattle.sheet_rules.specs.declared.Refusal.{Refusal}
use Rattle.std.specs.declared.result.Result.TheVariants.{Ok}
use Rattle.std.specs.declared.result.Result.{Result}
use Rattle.type_rules.specs.declared.FitTold.{FitTold}
use Rattle.type_rules.specs.declared.Walk.{Walk}
use Rattle.type_rules.specs.Fit.{fit_answer}
use Rattle.type_rules.specs.FitQuestion.{fit_on, fit_reply, passed_in, passed_on, fit_told, told_refused}
use Rattle.table.specs.Layout.{row_count_at, work_size}
use Rattle.table.specs.View.{cell, sheet_in}
use Rattle.table.specs.Whole.{Whole}
use Rattle.table.proofs.ViewLaws.{Only-refl, Only-widen}
use Rattle.question.specs.Asked.{ToldAlone}
use Rattle.fit.specs.Told.{FitFilled}
use Rattle.fit_answer.specs.Told.{rows_walk}
use Rattle.fit_answer.proofs.SheetLaws.{walk_says, sheet_rows, sheet_passed}
use Rattle.reader.specs.Reads.{SheetRead}
use Rattle.reader.proofs.OnReading.{told_unread}
use Rattle.fit_question.specs.Asked.{told_in}

-- what is told of what a text means
abbrev pub told_on : ℕ → ℕ → Meaning → FitTold
told_on a b m = record { reply = fit_on m a b; passed = passed_on m a b (fit_on m a b) }

module _ (a b : ℕ) (w : List ℕ) {rows : ℕ} (counted : rows ≡ length (sheet_in w).rows) where
  -- what is told, by whether the rows are there
  reply : Bool → Bool → Result FitAnswer Refusal
  reply x y = cond (x && y) (Ok (fit_answer (sheet_in w).rows a b)) (turned_away NotDefined 0)

  answer : Bool → Bool → FitTold
  answer x y = record { reply = reply x y; passed = passed_in (sheet_in w) a b (reply x y) }

  answer_no : (x : Bool) → answer x false ≡ told_refused NotDefined 0
  unfolding answer reply
  answer_no true = refl
  answer_no false = refl

  answer_in : told_in (sheet_in w) a b ≡ answer (ltb a (length (sheet_in w).rows)) (ltb b (length (sheet_in w).rows))
  unfolding answer reply
  answer_in = refl

  pub no_row_a : rows ≤ a → {r : FitTold} → r ≡ told_refused NotDefined 0 → ToldAlone (told_in (sheet_in w) a b) w w r
  unfolding answer reply
  no_row_a h e =
      record {
        same = e ∙ sym (answer_in ∙ ap (λ (x : Bool). answer x (ltb b (length (sheet_in w).rows))) (le-ltb a (length (sheet_in w).rows) (omega arith)));
        written = refl;
        only = Only-refl 0 work_size w;
      }

  pub no_row_b : rows ≤ b → {r : FitTold} → r ≡ told_refused NotDefined 0 → ToldAlone (told_in (sheet_in w) a b) w w r
  no_row_b h e =
      record {
        same =
            e
            ∙ sym (answer_in ∙ ap (answer (ltb a (length (sheet_in w).rows))) (le-ltb b (length (sheet_in w).rows) (omega arith))
            ∙ answer_no (ltb a (length (sheet_in w).rows)));
        written = refl;
        only = Only-refl 0 work_size w;
      }

  module _ (ha : a < rows) (hb : b < rows) (counted-here : rows ≡ cell w row_count_at) {w' : List ℕ} (filled : FitFilled rows w w') (whole : Whole w') {r : Walk} (e : some r ≡ rows_walk w' a b) where
    all : FitFilled (cell w row_count_at) w w'
    all = subst (λ (n : ℕ). FitFilled n w w') counted-here filled

    pub fit_told_lem : WellFormed (sheet_in w) → ToldAlone (told_in (sheet_in w) a b) w w' (record { reply = Ok r.answer; passed = r.passed })
    unfolding answer reply
    fit_told_lem well =
        record {
          same =
              ap₂ (λ (x : FitAnswer) (n : ℕ). record { reply = Ok x; passed = n })
              (walk_says whole a b e ∙ sheet_rows w w' all well a b (omega arith) (omega arith))
              (sheet_passed w w' all well a b (omega arith) (omega arith) whole e)
              ∙ sym
              (answer_in
              ∙ ap (λ (x : Bool). answer x (ltb b (length (sheet_in w).rows))) (lt-ltb a (length (sheet_in w).rows) (omega arith))
              ∙ ap (answer true) (lt-ltb b (length (sheet_in w).rows) (omega arith)));
          written = refl;
          only = Only-widen (omega arith) (omega arith) filled.only;
        }

-- the walk over the sheet of a buffer is the walk over the buffer
pub walked : {v w : List ℕ} (a b : ℕ) {r : Walk} → v ≡ w → some r ≡ rows_walk v a b → some r ≡ rows_walk w a b
walked a b {r} e = subst (λ (x : List ℕ). some r ≡ rows_walk x a b) e

-- of a text that can't be read, a refusal is told
pub unread_told : {text w w₁ : List ℕ} {v : Verdict} → work_size ≤ length w → SheetRead text w w₁ v → (a b : ℕ) {q : Reason} {l : ℕ} → v ≡ Verdict.Refused q l
    → {r : FitTold} → r ≡ told_refused q l → ToldAlone (fit_told text a b) w w₁ r
unfolding fit_told fit_reply
unread_told {text} {w} {w₁} size s a b e g =
    let t = told_unread size s (told_on a b) e in
    record { same = g ∙ t.same; written = t.written; only = t.only }
