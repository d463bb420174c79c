-- Every state after n steps of an accepted sheet is sound, so its next step is never lacking. Assumes nothing.
use Prim.Native.Nat.{ℕ, zero, suc}
use mathlib.Core.Path.{◌≡◌, refl, subst}
use mathlib.Core.List.{List}
use mathlib.Core.Option.{Option, none, some}
use Rattle.lists.proofs.Tests.{clash}
use Rattle.sheet_rules.specs.declared.Verdict.TheVariants.{Accepted}
use Rattle.sheet_rules.specs.Sheet.{Sheet}
use Rattle.sheet_rules.specs.WellFormed.{WellFormed}
use Rattle.sheet_rules.specs.Reading.{readable, meaning}
use Rattle.type_rules.specs.Typing.{verdict}
use Rattle.type_rules.specs.Typed.{Typed}
use Rattle.type_rules.proofs.TypedLaws.{accepted_sheet}
use Rattle.machine_rules.specs.State.{State}
use Rattle.machine_rules.specs.Step.{Action, Next, finished, step, store_full, stack_full, lacking, next_step}
use Rattle.machine_rules.specs.declared.Outcome.{Outcome}
use Rattle.machine_rules.specs.declared.Outcome.TheVariants.{Done, Spent, StoreFull, StackFull}
use Rattle.machine_rules.specs.Steps.{state_of, step_from, after, run}
use Rattle.machine_rules.specs.Sound.{Sound}
use Rattle.machine_rules.proofs.StartLaws.{start-Sound}
use Rattle.machine_rules.proofs.StepsLaws.{Why, run-Ends}
use Rattle.machine_rules.proofs.NextLaws.{Comes-step, Comes-lack}
use Rattle.machine_rules.proofs.NextSound.{sound_goes}

-- a state that a step leaves was left by a step
pub state_of-step : (x : Next) (σ : State) → state_of x ≡ some σ → (a : Action) × (x ≡ step a σ)
state_of-step (finished v) σ e = clash (cc)
state_of-step (step a τ) σ e = (a, cc)
state_of-step store_full σ e = clash (cc)
state_of-step stack_full σ e = clash (cc)
state_of-step lacking σ e = clash (cc)

module _ (s : Sheet) (w : WellFormed s) (t : Typed s) where
  -- a step keeps it
  pub step-Sound : (σ σ' : State) (a : Action) → Sound s σ → next_step s σ ≡ step a σ' → Sound s σ'
  step-Sound σ σ' a c e = Comes-step (sound_goes s w t σ c) e

  -- so that every state after n steps is sound
  pub after-Sound : (n : ℕ) (σ : State) → after s n ≡ some σ → Sound s σ
  unfolding after
  after-Sound zero σ e = subst (Sound s) (cc) (start-Sound s w t)
  after-Sound (suc n) σ e = go (after s n) (after-Sound n) e
    where
      go : (x : Option State) → ((τ : State) → x ≡ some τ → Sound s τ) → step_from s x ≡ some σ → Sound s σ
      go none earlier q = clash (cc)
      go (some τ) earlier q = let x = state_of-step (next_step s τ) σ q in step-Sound τ σ x.0 (earlier τ refl) x.1

-- every state after n steps of an accepted text is sound
pub accepted_sound : (text : List ℕ) (s : Sheet) → meaning text ≡ readable s → verdict text ≡ Accepted
    → (n : ℕ) (σ : State) → after s n ≡ some σ → Sound s σ
accepted_sound text s e v n σ p = let a = accepted_sheet text s e v in after-Sound s a.0 a.1 n σ p

-- and its next step is never lacking
pub never_lacking : (text : List ℕ) (s : Sheet) → meaning text ≡ readable s → verdict text ≡ Accepted
    → (n : ℕ) (σ : State) → after s n ≡ some σ → next_step s σ ≡ lacking → ⊥
never_lacking text s e v n σ p q =
    let a = accepted_sheet text s e v in
    Comes-lack (sound_goes s a.0 a.1 σ (after-Sound s a.0 a.1 n σ p)) q

-- so that a run of an accepted text is spent only when its steps are the budget
pub spent_steps : (text : List ℕ) (s : Sheet) → meaning text ≡ readable s → verdict text ≡ Accepted
    → (budget : ℕ) → (run s budget).outcome ≡ Spent → (run s budget).steps ≡ budget
spent_steps text s e v budget p = go (run s budget).outcome (run-Ends s budget).why p
  where
    go : (o : Outcome) → Why s budget (run s budget).steps (run s budget).last o → o ≡ Spent → (run s budget).steps ≡ budget
    go Done (Why.done q) p = clash (cc)
    go Spent (Why.spent q r) p = q
    go StoreFull (Why.store l q) p = clash (cc)
    go StackFull (Why.stack l q) p = clash (cc)
    go Spent (Why.lacks l q) p = absurd (never_lacking text s e v (run s budget).steps (run s budget).last (run-Ends s budget).reached q)
