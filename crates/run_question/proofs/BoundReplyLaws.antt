-- The bound's reply for a text: refused as the verdict refuses it, or what its sheet's bound is. Assumes nothing.
use Prim.Native.Nat.{ℕ}
use mathlib.Core.Path.{◌≡◌, refl}
use mathlib.Core.List.{List, []}
use Rattle.sheet_rules.specs.declared.Reason.{Reason}
use Rattle.sheet_rules.specs.declared.Verdict.{Verdict}
use Rattle.sheet_rules.specs.Answers.{turned_away}
use Rattle.sheet_rules.specs.declared.Refusal.{Refusal}
use Rattle.std.specs.declared.result.Result.{Result}
use Rattle.bound_rules.specs.BoundQuestion.{bound_in, bound_reply}
use Rattle.table.specs.View.{sheet_in}
use Rattle.table.proofs.ViewLaws.{Only-refl}
use Rattle.question.specs.Asked.{ToldAlone}
use Rattle.verdict_question.specs.Asked.{TextJudged}
use Rattle.verdict_question.proofs.OnLaws.{Told-refused, Told-accepted}

module _ {text w w₁ : List ℕ} {v : Verdict} (j : TextJudged text w w₁ v) where
  pub bound_refused : {q : Reason} {l : ℕ} → v ≡ Verdict.Refused q l → ToldAlone (bound_reply text) w w₁ (turned_away q l)
  unfolding bound_reply
  bound_refused e = Told-refused turned_away bound_in (λ x. x) (λ x. []) j (λ q l. refl) e

  pub bound_told : v ≡ Verdict.Accepted → {r : Result ℕ Refusal} → r ≡ bound_in (sheet_in w₁) → ToldAlone (bound_reply text) w w₁ r
  unfolding bound_reply
  bound_told e s = Told-accepted turned_away bound_in (λ x. x) (λ x. []) j e (record { same = s; written = refl; only = Only-refl _ _ w₁ })
