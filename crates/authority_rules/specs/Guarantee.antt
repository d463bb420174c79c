-- The main theorem's statement (document 01, The machine and Who holds what; demand 3): one claim about every accepted sheet,
-- every n and the state after n steps. GuaranteeHolds proves it. Stands on the verdict, the steps, authority and gain.
use Rattle.std.specs.Prelude.{ℕ, ◌≡◌, List, ◌⊎◌, ◌↔◌, T}
use Rattle.std.proofs.Math.Option.{some}
use Rattle.sheet_rules.specs.declared.Verdict.TheVariants.{Accepted}
use Rattle.sheet_rules.specs.Sheet.{Sheet}
use Rattle.sheet_rules.specs.Reading.{readable, meaning}
use Rattle.type_rules.specs.Typing.{verdict}
use Rattle.machine_rules.specs.State.{State}
use Rattle.machine_rules.specs.Step.{Action, finished, step, store_full, stack_full, next_step}
use Rattle.machine_rules.specs.Steps.{after}
use Rattle.machine_rules.specs.Stopped.{AtEnd, NoPlace, NoFrame}
use Rattle.authority_rules.specs.Authority.{holds}
use Rattle.authority_rules.specs.Gain.{Gain}

-- WHAT COMES NEXT

-- the state is finished, with a value (The machine; Who holds what)
abbrev pub Finished : Sheet → State → Type 0
Finished s σ = (v : ℕ) × (next_step s σ ≡ finished v)

-- there is a next step, it can be taken, and every next step is that one (The machine; Who holds what)
pub record CanStep (s : Sheet) (σ : State) : Type 0 where
  pub action : Action
  pub leaves : State
  pub is : next_step s σ ≡ step action leaves
  pub only : (a : Action) (σ' : State) → next_step s σ ≡ step a σ' → (a ≡ action) × (σ' ≡ leaves)

-- the next step is stopped, by a full store or by a full stack (The machine; Who holds what)
abbrev pub Stopped : Sheet → State → Type 0
Stopped s σ = (next_step s σ ≡ store_full) ⊎ (next_step s σ ≡ stack_full)

-- at least one of three holds (The machine)
pub data OneOf (A B C : Type 0) : Type 0 where
  first : A → OneOf A B C
  second : B → OneOf A B C
  third : C → OneOf A B C

-- exactly one of three holds: one does, and no two do (The machine)
pub record ExactlyOneOf (A B C : Type 0) : Type 0 where
  pub one : OneOf A B C
  pub not_first_second : A → B → ⊥
  pub not_first_third : A → C → ⊥
  pub not_second_third : B → C → ⊥

-- THE GUARANTEE

-- what is guaranteed of a state (The machine; Who holds what)
pub record Guarantee (s : Sheet) (σ : State) : Type 0 where
  -- it is finished, or has one next step that can be taken, or is stopped, and never two of these
  pub next : ExactlyOneOf (Finished s σ) (CanStep s σ) (Stopped s σ)
  -- it is finished exactly when the top frame is main's and has no instruction left
  pub finishes : Finished s σ ↔ AtEnd σ
  -- it is stopped by a full store exactly when the next instruction is a `new` and there are 256 objects
  pub stopped_by_store : (next_step s σ ≡ store_full) ↔ NoPlace σ
  -- it is stopped by a full stack exactly when the next instruction is a `call` and there are 64 frames
  pub stopped_by_stack : (next_step s σ ≡ stack_full) ↔ NoFrame σ
  -- a step gives a holder a resource that it did not hold in three ways alone
  pub gains : (a : Action) (σ' : State) → next_step s σ ≡ step a σ' → (h b : ℕ) → T (holds s σ' h b) → (T (holds s σ h b) → ⊥) → Gain s σ h b a

-- every accepted text, every n, and the state after n steps where there is one (The machine; Who holds what)
abbrev pub Guaranteed : Type 0
Guaranteed = (text : List ℕ) (s : Sheet) → meaning text ≡ readable s → verdict text ≡ Accepted
    → (n : ℕ) (σ : State) → after s n ≡ some σ → Guarantee s σ
