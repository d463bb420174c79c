-- The reply for a text: refused as the verdict refuses it, or its run's answer. Assumes nothing.
use Prim.Native.Nat.{ℕ}
use native.Mathlib.Omega.{arith}
use mathlib.Core.Path.{◌≡◌, refl, ap}
use mathlib.Core.List.{List, []}
use Rattle.sheet_rules.specs.declared.Reason.{Reason}
use Rattle.sheet_rules.specs.declared.Verdict.{Verdict}
use Rattle.machine_rules.specs.declared.RunAnswer.{RunAnswer}
use Rattle.sheet_rules.specs.Answers.{turned_away}
use Rattle.std.specs.declared.result.Result.TheVariants.{Ok}
use Rattle.machine_rules.specs.Steps.{run, answer_of, run_reply}
use Rattle.table.proofs.ViewLaws.{Only-widen}
use Rattle.question.specs.Asked.{ToldAlone}
use Rattle.verdict_question.specs.Asked.{TextJudged}
use Rattle.verdict_question.proofs.OnLaws.{Told-refused, Told-accepted}
use Rattle.machine.specs.Runs.{SheetAnswered}

module _ {text w w₁ : List ℕ} {v : Verdict} (j : TextJudged text w w₁ v) (budget : ℕ) where
  pub reply_refused : {q : Reason} {l : ℕ} → v ≡ Verdict.Refused q l → ToldAlone (run_reply text budget) w w₁ (turned_away q l)
  unfolding run_reply
  reply_refused e = Told-refused turned_away (λ s. Ok (answer_of (run s budget))) (λ x. x) (λ x. []) j (λ q l. refl) e

  pub reply_ran : v ≡ Verdict.Accepted → {w' : List ℕ} {r : RunAnswer} → SheetAnswered w₁ budget w' r → ToldAlone (run_reply text budget) w w' (Ok r)
  unfolding run_reply
  reply_ran e s =
      Told-accepted turned_away (λ s. Ok (answer_of (run s budget))) (λ x. x) (λ x. []) j e
      (record { same = ap Ok s.same; written = refl; only = Only-widen (omega arith) (omega arith) s.only })
