-- What follows from the bound, and what does not: no state is reached after more steps than main's amount, and a budget beyond it changes
-- nothing; but a sheet that is sure to finish may still fill the stack, or the store. Assumes nothing.
use Prim.Native.Nat.{ℕ, zero, suc, ◌+◌, ◌*◌, ◌≤◌}
use native.Mathlib.Omega.{arith}
use mathlib.Core.Path.{◌≡◌, refl, sym, ap, ◌∙◌}
use mathlib.Core.List.{List, [], ◌∷◌, ◌++◌}
use mathlib.Core.Option.{Option, none, some}
use Rattle.lists.specs.Tab.{tab}
use Rattle.sheet_rules.specs.declared.Kind.TheVariants.{Resource}
use Rattle.sheet_rules.specs.declared.Member.TheVariants.{Method}
use Rattle.sheet_rules.specs.Sheet.{Row, Instr, new, call, copy, body, Form, Sheet, no_row, no_form}
use Rattle.sheet_rules.specs.Print.{print}
use Rattle.sheet_rules.specs.Reading.{meaning}
use Rattle.sheet_rules.specs.Samples.{text_of}
use Rattle.type_rules.specs.Typing.{typing, verdict, accepted_on}
use Rattle.type_rules.proofs.VerdictLaws.{accepted_on_lem}
use Rattle.machine_rules.specs.declared.Outcome.{Outcome}
use Rattle.machine_rules.specs.declared.Outcome.TheVariants.{Spent, StoreFull, StackFull}
use Rattle.sheet_rules.specs.Answers.{turned_away}
use Rattle.machine_rules.specs.declared.RunAnswer.{RunAnswer}
use Rattle.sheet_rules.specs.declared.Refusal.{Refusal}
use Rattle.std.specs.declared.result.Result.TheVariants.{Ok, Err}
use Rattle.std.specs.declared.result.Result.{Result}
use Rattle.machine_rules.specs.State.{State, start}
use Rattle.machine_rules.specs.Step.{Next, finished, step, store_full, stack_full, lacking, next_step}
use Rattle.machine_rules.specs.Steps.{after, Ran, budget_used, go_on, run_from, run, answer_of, run_reply}
use Rattle.machine_rules.proofs.RunCases.{maker}
use Rattle.machine_rules.proofs.TakenLaws.{run_done}
use Rattle.bound_rules.specs.BoundQuestion.{bound_reply}
use Rattle.bound_rules.specs.Sure.{NeedsAtMost}
use Rattle.bound_rules.proofs.Opened.{bounding}
use Rattle.bound_rules.proofs.BoundLaws.{StrictText, bound_exactly}
use Rattle.bound_rules.proofs.SureHolds.{ends_unspent}

-- no state is reached after more than m steps
pub steps_within : {text : List ℕ} {m : ℕ} (a : NeedsAtMost text m) (n : ℕ) (σ : State) → after a.sheet n ≡ some σ → n ≤ m
steps_within a n σ e = let h = a.left n σ e in omega arith

-- a run that is not spent is the same with a larger budget
more_budget : (s : Sheet) (left budget n : ℕ) (σ : State) → left ≤ budget → ((run_from s left n σ).outcome ≡ Spent → ⊥) → run_from s budget n σ ≡ run_from s left n σ
unfolding run_from
more_budget s zero budget n σ h p = go (next_step s σ) refl p
  where
    go : (x : Next) → next_step s σ ≡ x → (budget_used x ≡ Spent → ⊥) → run_from s budget n σ ≡ run_from s 0 n σ
    go (finished v) e p = run_done s σ budget n v e ∙ sym (run_done s σ 0 n v e)
    go (step a τ) e p = absurd (p refl)
    go store_full e p = absurd (p refl)
    go stack_full e p = absurd (p refl)
    go lacking e p = absurd (p refl)
more_budget s (suc left) zero n σ h p = absurd (omega arith)
more_budget s (suc left) (suc budget) n σ h p = go (λ τ. more_budget s left budget (suc n) τ (omega arith)) (next_step s σ) p
  where
    go : ((τ : State) → ((run_from s left (suc n) τ).outcome ≡ Spent → ⊥) → run_from s budget (suc n) τ ≡ run_from s left (suc n) τ)
        → (x : Next) → ((go_on x n σ (λ τ. run_from s left (suc n) τ)).outcome ≡ Spent → ⊥)
        → go_on x n σ (λ τ. run_from s budget (suc n) τ) ≡ go_on x n σ (λ τ. run_from s left (suc n) τ)
    go more (finished v) p = refl
    go more (step a τ) p = more τ p
    go more store_full p = refl
    go more stack_full p = refl
    go more lacking p = absurd (p refl)

-- so that a budget beyond m changes nothing of the answer
pub same_beyond : (text : List ℕ) (m : ℕ) → bound_reply text ≡ Ok m → (budget : ℕ) → m ≤ budget → run_reply text budget ≡ run_reply text m
unfolding run_reply run verdict
same_beyond text m e budget h =
    let a = (bound_exactly text m).0 e in
    let more = more_budget a.sheet m budget 0 (start a.sheet) h (ends_unspent text m a m (omega arith)) in
    answered budget a ∙ ap (λ (r : Ran). Ok (answer_of r)) more ∙ sym (answered m a)
  where
    answered : (b : ℕ) (a : StrictText text m) → accepted_on typing turned_away (λ x. Ok (answer_of (run_from x b 0 (start x)))) (meaning text) ≡ Ok (answer_of (run_from a.sheet b 0 (start a.sheet)))
    answered b a = accepted_on_lem typing turned_away (λ x. Ok (answer_of (run_from x b 0 (start x)))) (meaning text) a.sheet a.read a.accepted

-- A CHAIN THROUGH ALL 64 NAMES

-- the body of method n, number j of its form: it calls the method before it, of its own object, or if it is the first, of the kept one
abbrev link : ℕ → ℕ → List Instr
link zero j = copy 1 ∷ []
link (suc n) zero = call 2 n 1 ∷ []
link (suc n) (suc j) = call 0 n 1 ∷ []

-- eight rows of eight methods each, and a form for each, which keeps one of the row before it
abbrev chain_row : ℕ → Row
chain_row g = record { kind = Resource; members = tab (λ j. Method (8 * g + j) 0 0) 8 }

abbrev chain_keeps : ℕ → List ℕ
chain_keeps zero = []
chain_keeps (suc g) = suc g ∷ []

abbrev chain_form : ℕ → Form
chain_form g = record { row = suc g; keeps = chain_keeps g; parts = tab (λ j. body (link (8 * g + j) j)) 8 }

abbrev chain_made : ℕ → Instr
chain_made g = new (suc g) (chain_keeps g)

abbrev chain : Sheet
chain =
    record {
      rows = no_row ∷ tab chain_row 8;
      forms = no_form ∷ tab chain_form 8;
      devices = [];
      main = new 0 [] ∷ (tab chain_made 8 ++ (call 8 63 0 ∷ []));
    }

-- how a run ended; a refused text has no run
abbrev end_of : Result RunAnswer Refusal → Option Outcome
end_of (Ok a) = some a.outcome
end_of (Err e) = none

-- 138 steps at the most, and yet its 64th call finds a full stack
pub chain_bound : bound_reply (print chain) ≡ Ok 138
unfolding bounding
chain_bound = refl

pub chain_ends : end_of (run_reply (print chain) 138) ≡ some StackFull
unfolding bounding
chain_ends = refl

-- so that such a sheet never fills the stack is false
pub no_free_frame : ((text : List ℕ) (m : ℕ) → bound_reply text ≡ Ok m → end_of (run_reply text m) ≡ some StackFull → ⊥) → ⊥
no_free_frame claim = claim (print chain) 138 chain_bound chain_ends

-- A FULL STORE

-- a method makes 32 objects, and main calls it eight times: 274 steps at the most, and yet the store is full after 271
pub maker_bound : bound_reply (text_of maker) ≡ Ok 274
unfolding bounding
maker_bound = refl

pub maker_ends : end_of (run_reply (text_of maker) 274) ≡ some StoreFull
unfolding bounding
maker_ends = refl

-- nor does it always leave a place in the store
pub no_free_place : ((text : List ℕ) (m : ℕ) → bound_reply text ≡ Ok m → end_of (run_reply text m) ≡ some StoreFull → ⊥) → ⊥
no_free_place claim = claim (text_of maker) 274 maker_bound maker_ends
