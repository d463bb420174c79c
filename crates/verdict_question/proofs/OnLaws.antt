-- A question that goes on from the verdict: a refused text is refused so, and an accepted one is answered from its sheet; for any
-- type of answers, with their reply and what they write. Assumes nothing.
use Prim.Native.Nat.{ℕ}
use mathlib.Core.Path.{◌≡◌, sym, ap, ◌∙◌}
use mathlib.Core.List.{List, []}
use Rattle.lists.specs.PutAt.{begun}
use Rattle.sheet_rules.specs.declared.Reason.{Reason}
use Rattle.sheet_rules.specs.declared.Verdict.{Verdict}
use Rattle.sheet_rules.specs.Sheet.{Sheet}
use Rattle.sheet_rules.specs.Reading.{meaning}
use Rattle.type_rules.specs.Typing.{typing, verdict, accepted_on}
use Rattle.type_rules.proofs.VerdictLaws.{refused_on, accepted_on_lem}
use Rattle.table.specs.View.{sheet_in}
use Rattle.table.proofs.ViewLaws.{Only-trans}
use Rattle.question.specs.Asked.{Told}
use Rattle.verdict_question.specs.Asked.{TextJudged}

module _ {X A B : Type 0} (refused : Reason → ℕ → X) (answer : Sheet → X) (reply : X → A) (output : X → List B) {text w w₁ : List ℕ} {v : Verdict} (j : TextJudged text w w₁ v) {result : List B} where
  pub Told-refused : ((q : Reason) (l : ℕ) → output (refused q l) ≡ []) → {q : Reason} {l : ℕ} → v ≡ Verdict.Refused q l
      → Told (reply (accepted_on typing refused answer (meaning text))) (output (accepted_on typing refused answer (meaning text))) w result w₁ result (reply (refused q l))
  unfolding verdict
  Told-refused nothing {q} {l} e =
      let x : accepted_on typing refused answer (meaning text) ≡ refused q l = refused_on typing refused answer (meaning text) q l (sym j.answered.same ∙ e) in
      record {
        same = sym (ap reply x);
        written = sym (ap (λ (ns : List B). begun ns result) (ap output x ∙ nothing q l));
        only = j.answered.only;
      }

  pub Told-accepted : v ≡ Verdict.Accepted → {w' : List ℕ} {result' : List B} {r : A} → Told (reply (answer (sheet_in w₁))) (output (answer (sheet_in w₁))) w₁ result w' result' r
      → Told (reply (accepted_on typing refused answer (meaning text))) (output (accepted_on typing refused answer (meaning text))) w result w' result' r
  unfolding verdict
  Told-accepted e t =
      let x : accepted_on typing refused answer (meaning text) ≡ answer (sheet_in w₁) = accepted_on_lem typing refused answer (meaning text) (sheet_in w₁) (j.sheet e) (sym j.answered.same ∙ e) in
      record {
        same = t.same ∙ sym (ap reply x);
        written = t.written ∙ sym (ap (λ (ns : List B). begun ns result) (ap output x));
        only = Only-trans j.answered.only t.only;
      }
