-- The verdict on a text: a law for each exit. Assumes nothing.
use Prim.Native.Nat.{ℕ, ◌≤◌, ◌<◌}
use native.Mathlib.Omega.{arith}
use mathlib.Core.Path.{◌≡◌, refl, sym, ap, ◌∙◌, subst}
use mathlib.Core.List.{List}
use lib.ListN.{length}
use Rattle.sheet_rules.specs.declared.Reason.{Reason}
use Rattle.sheet_rules.specs.declared.Verdict.{Verdict}
use Rattle.sheet_rules.specs.Sheet.{Sheet}
use Rattle.sheet_rules.specs.Reading.{readable, meaning}
use Rattle.type_rules.specs.Fit.{fit_answer}
use Rattle.type_rules.specs.Typing.{line_faults, typed_lines, first_form_line, first_fault, typing, verdict_on, verdict}
use Rattle.type_rules.proofs.AgreeLaws.{faults_agree}
use Rattle.table.specs.Layout.{row_count_at, work_size}
use Rattle.table.specs.View.{cell, sheet_in}
use Rattle.table.specs.Whole.{Whole}
use Rattle.table.proofs.ViewLaws.{SameTable, Only-trans, Only-widen}
use Rattle.table.proofs.PoolLaws.{Placed-same}
use Rattle.accepted.proofs.AcceptedLaws.{accepted_text}
use Rattle.question.specs.Asked.{ToldAlone}
use Rattle.reader.specs.Reads.{SheetRead}
use Rattle.reader.proofs.MainLaws.{not_accepted}
use Rattle.reader.proofs.SheetLaws.{read_means}
use Rattle.reader.proofs.OnReading.{read_only, read_whole, told_unread}
use Rattle.fit.specs.Told.{Comparable, FitFilled}
use Rattle.fit.proofs.SheetLaws.{sheet_comparable, filled_sheet, filled_whole}
use Rattle.fit_answer.specs.Told.{answers}
use Rattle.fit_answer.proofs.SheetLaws.{sheet_answers}
use Rattle.code_typing.specs.Told.{judge_in}
use Rattle.code_typing.proofs.CodeLaws.{slots_sheet}
use Rattle.typing.specs.Told.{SheetJudged}
use Rattle.verdict_question.specs.Asked.{TextJudged}

module _ {text w w₁ : List ℕ} {v : Verdict} (size : work_size ≤ length w) (s : SheetRead text w w₁ v) where
  -- a text that is refused at reading
  pub text_refused : {q : Reason} {l : ℕ} → v ≡ Verdict.Refused q l → TextJudged text w w₁ v
  unfolding verdict
  text_refused e =
      record {
        answered = subst (ToldAlone (verdict text) w w₁) (sym e) (told_unread size s (verdict_on typing) e);
        sheet = not_accepted e;
        accepted = not_accepted e;
      }

  module _ (e : v ≡ Verdict.Accepted) where
    accepted : SheetRead text w w₁ Verdict.Accepted
    accepted = subst (SheetRead text w w₁) e s

    means : meaning text ≡ readable (sheet_in w₁)
    means = read_means text w w₁ size accepted

    whole : Whole w₁
    whole = read_whole size s e

    pub fill_comparable : {rows : ℕ} → rows ≡ cell w₁ row_count_at → Comparable rows w₁
    fill_comparable n = subst (λ (k : ℕ). Comparable k w₁) (sym n) (sheet_comparable w₁ whole)

    -- with the fit table filled
    module _ {rows : ℕ} (rows_are : rows ≡ cell w₁ row_count_at) {w₂ : List ℕ} (f : FitFilled rows w₁ w₂) where
      same_sheet : sheet_in w₂ ≡ sheet_in w₁
      same_sheet = filled_sheet rows w₁ w₂ f

      pub judge_asks : Whole w₂
      judge_asks = filled_whole rows w₁ w₂ f whole

      agree : (a b : ℕ) → a < length (sheet_in w₁).rows → b < length (sheet_in w₁).rows → answers w₂ a b ≡ fit_answer (sheet_in w₁).rows a b
      agree = sheet_answers w₁ w₂ (subst (λ (n : ℕ). FitFilled n w₁ w₂) rows_are f) whole.sheet

      faults_are : line_faults (judge_in w₂) (sheet_in w₂) ≡ line_faults (typed_lines (fit_answer (sheet_in w₁).rows) (sheet_in w₁)) (sheet_in w₁)
      faults_are = ap (λ (x : Sheet). line_faults (typed_lines (answers w₂) x) x) same_sheet ∙ faults_agree whole.sheet agree

      rule : first_fault (first_form_line (sheet_in w₂)) (line_faults (judge_in w₂) (sheet_in w₂)) ≡ verdict text
      unfolding verdict typing
      rule =
          (λ x. first_fault (first_form_line (same_sheet x)) (faults_are x))
          ∙ sym (ap (verdict_on typing) means)

      pub text_judged : {w' : List ℕ} {r : Verdict} → SheetJudged w₂ w' r → TextJudged text w w' r
      text_judged {w'} k =
          record {
            answered =
                record {
                  same = k.told ∙ rule;
                  written = refl;
                  only =
                      Only-trans (Only-trans (read_only size s) (Only-widen (omega arith) (omega arith) f.only))
                      (Only-widen (omega arith) (omega arith) k.only);
                };
            sheet = λ c. read;
            accepted = λ c. accepted_text text w' (omega (arith, k.only.size, f.only.size, whole.size)) read (sym (k.told ∙ rule) ∙ c) (Placed-same w₁ w' table_same (s.placed e));
          }
        where
          read : meaning text ≡ readable (sheet_in w')
          read = means ∙ sym (ap readable (slots_sheet k.only ∙ same_sheet))

          table_same : SameTable w₁ w'
          table_same i h = k.only.below i (omega arith) ∙ f.only.below i h
