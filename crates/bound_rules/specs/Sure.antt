-- What the bound says of every run (document 02, order 4): a state can still need no more than is left of main's amount, and no run with
-- at least that budget ends as spent. SureHolds proves it. Stands on the steps, the run and the bound question.
use Rattle.std.specs.Prelude.{ℕ, suc, ◌+◌, ◌≤◌, ◌≡◌, List, [], ◌∷◌}
use Rattle.std.proofs.Math.Option.{some}
use Rattle.sheet_rules.specs.Sheet.{Sheet}
use Rattle.sheet_rules.specs.Reading.{readable, meaning}
use Rattle.machine_rules.specs.declared.Outcome.TheVariants.{Spent}
use Rattle.machine_rules.specs.declared.RunAnswer.{RunAnswer}
use Rattle.sheet_rules.specs.declared.Refusal.{Refusal}
use Rattle.std.specs.declared.result.Result.TheVariants.{Ok}
use Rattle.std.specs.declared.result.Result.{Result}
use Rattle.machine_rules.specs.State.{Frame, State}
use Rattle.machine_rules.specs.Steps.{after, run_reply}
use Rattle.bound_rules.specs.Amount.{code_amount, amounts, main_amount}
use Rattle.bound_rules.specs.BoundQuestion.{bound_reply}

-- what some waiting frames can still need: each its own code, and one for the return to it (order 4)
unfoldable pub waiting_amount : List ℕ → List Frame → ℕ
waiting_amount xs [] = 0
waiting_amount xs (f ∷ fs) = suc (code_amount xs f.code + waiting_amount xs fs)

-- what a state can still need: the code that is left of its top frame, and what those below it can (order 4)
abbrev pub still_needs : Sheet → State → ℕ
still_needs s σ = code_amount (amounts s) σ.top.code + waiting_amount (amounts s) σ.below

-- a run that was answered and did not end as spent (order 4)
pub data Unspent : Result RunAnswer Refusal → Type 0 where
  unspent : {a : RunAnswer} → (a.outcome ≡ Spent → ⊥) → Unspent (Ok a)

-- the sheet of a text can need m steps at the most: m is main's amount; after any n steps, n without a limit, what the state can still
-- need is at most what is left of m; and a run within any budget of at least m does not end as spent (order 4)
pub record NeedsAtMost (text : List ℕ) (m : ℕ) : Type 0 where
  pub sheet : Sheet
  pub read : meaning text ≡ readable sheet
  pub is : m ≡ main_amount sheet
  pub left : (n : ℕ) (σ : State) → after sheet n ≡ some σ → n + still_needs sheet σ ≤ m
  pub ends : (budget : ℕ) → m ≤ budget → Unspent (run_reply text budget)

-- every text for which the question answers (order 4)
abbrev pub Sure : Type 0
Sure = (text : List ℕ) (m : ℕ) → bound_reply text ≡ Ok m → NeedsAtMost text m
