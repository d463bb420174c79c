-- The report on the sheet that the buffer holds. Assumes nothing.
use Prim.Native.Nat.{ℕ, ◌<◌}
use native.Mathlib.Omega.{arith}
use mathlib.Core.Path.{◌≡◌, refl, sym, ap, ◌∙◌}
use mathlib.Core.List.{List}
use lib.ListN.{length}
use Rattle.sheet_rules.specs.declared.Reason.{Reason}
use Rattle.sheet_rules.specs.declared.Verdict.{Verdict}
use Rattle.machine_rules.specs.declared.RunAnswer.{RunAnswer}
use Rattle.machine_rules.specs.Steps.{ended, run, answer_of}
use Rattle.sheet_rules.specs.Answers.{turned_away}
use Rattle.authority_rules.specs.declared.Reported.{Reported}
use Rattle.sheet_rules.specs.declared.Refusal.{Refusal}
use Rattle.std.specs.declared.result.Result.TheVariants.{Ok}
use Rattle.std.specs.declared.result.Result.{Result}
use Rattle.authority_rules.specs.Report.{Report, reported, not_reported, holdings, report_of, report}
use Rattle.table.specs.View.{sheet_in}
use Rattle.table.proofs.ViewLaws.{Only-trans, Only-widen}
use Rattle.verdict_question.specs.Asked.{TextJudged}
use Rattle.verdict_question.proofs.OnLaws.{Told-refused, Told-accepted}
use Rattle.machine.specs.declared.Halt.{Halt}
use Rattle.machine.specs.Runs.{halted_state}
use Rattle.lists.specs.PutAt.{begun}
use Rattle.authority.specs.Every.{entries, EveryWritten}
use Rattle.authority.proofs.EveryLaws.{every_few}
use Rattle.authority_question.specs.Noted.{NotedRun}
use Rattle.authority_question.specs.Asked.{report_reply, report_numbers, ReportTold, with_count}
use Rattle.authority_question.proofs.HeldLaws.{run_sheet_same}

module _ (w : List ℕ) (budget : ℕ) (w₁ : List ℕ) (halt : Halt) (s : NotedRun w budget w₁ halt) (a : RunAnswer) (ea : a ≡ answer_of (ended halt.outcome halt.tally.steps (halted_state w₁ halt))) (result w' result' : List ℕ) (c : ℕ)
    (x : EveryWritten w₁ halt.top halt.tally w' result result' c) where
  pub entries_fit : c < 4294967296
  entries_fit = omega (arith, every_few w₁ halt.top halt.tally s.prepared.running w' result result' c x)

  report_is : report_of (sheet_in w) (run (sheet_in w) budget) ≡ reported a (holdings (sheet_in w₁) (halted_state w₁ halt))
  report_is =
      ap (report_of (sheet_in w)) s.ran
      ∙ sym (λ i. reported (ea i) (holdings (run_sheet_same s i) (halted_state w₁ halt)))

  pub report_told : (c' : ℕ) → c' ≡ c → ReportTold (report_of (sheet_in w) (run (sheet_in w) budget)) w result w' result' (Ok (with_count a c'))
  report_told c' ec =
      record {
        same = ap (λ (n : ℕ). Ok (with_count a n)) count ∙ sym (ap report_reply report_is);
        written = x.left ∙ sym (ap (λ (y : Report). begun (report_numbers y) result) report_is);
        only = Only-trans (Only-widen (omega arith) (omega arith) s.only) (Only-widen (omega arith) (omega arith) x.only);
      }
    where
      count : c' ≡ length (entries (holdings (sheet_in w₁) (halted_state w₁ halt)))
      count = omega (arith, ec, x.counted)

-- a text: refused, or accepted and run
module _ {text w w₁ : List ℕ} {v : Verdict} (j : TextJudged text w w₁ v) (budget : ℕ) {result : List ℕ} where
  pub report_refused : {q : Reason} {l : ℕ} → v ≡ Verdict.Refused q l → ReportTold (report text budget) w result w₁ result (turned_away q l)
  unfolding report
  report_refused e = Told-refused not_reported (λ s. report_of s (run s budget)) report_reply report_numbers j (λ p n. refl) e

  pub report_accepted : v ≡ Verdict.Accepted → {w' result' : List ℕ} {r : Result Reported Refusal} → ReportTold (report_of (sheet_in w₁) (run (sheet_in w₁) budget)) w₁ result w' result' r
      → ReportTold (report text budget) w result w' result' r
  unfolding report
  report_accepted e t = Told-accepted not_reported (λ s. report_of s (run s budget)) report_reply report_numbers j e t
