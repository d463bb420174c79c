-- Where authority comes from (document 01, Who holds what; document 02, order 7): one claim about every accepted text, every n and the
-- state after n steps, with every holder and resource. OriginHolds proves it from the guarantee. Stands on authority and gain.
use Rattle.std.specs.Prelude.{ℕ, ◌<◌, ◌≡◌, List, ◌⊎◌, T, length}
use Rattle.std.proofs.Math.Option.{some}
use Rattle.sheet_rules.specs.declared.Verdict.TheVariants.{Accepted}
use Rattle.sheet_rules.specs.Sheet.{Sheet, code_names}
use Rattle.sheet_rules.specs.Reading.{readable, meaning}
use Rattle.type_rules.specs.Typing.{verdict}
use Rattle.machine_rules.specs.State.{State}
use Rattle.machine_rules.specs.Step.{Action, step, next_step}
use Rattle.machine_rules.specs.Steps.{after}
use Rattle.authority_rules.specs.Authority.{main_holder, holds}
use Rattle.authority_rules.specs.Gain.{Gain}

-- who holds what at the start: a device itself alone, and main the devices that its instructions name (order 7)
pub data HeldAtStart (s : Sheet) : (h b : ℕ) → Type 0 where
  by_itself : {d : ℕ} → d < length s.devices → HeldAtStart s d d
  by_main : {d : ℕ} → d < length s.devices → T (code_names s.main d) → HeldAtStart s main_holder d

-- one of the first n steps: its number, from 0, the state before it, what it does, and the state that it leaves (order 7)
pub record StepWithin (s : Sheet) (n : ℕ) : Type 0 where
  pub number : ℕ
  pub within : number < n
  pub before : State
  pub reached : after s number ≡ some before
  pub action : Action
  pub leaves : State
  pub taken : next_step s before ≡ step action leaves

-- h gained b at one of the first n steps: it did not hold b before that step, held it after, and the step gave it by the paper's
-- creation, call or return (order 7)
pub record GainedWithin (s : Sheet) (n h b : ℕ) : Type 0 where
  pub at : StepWithin s n
  pub unheld : T (holds s at.before h b) → ⊥
  pub held : T (holds s at.leaves h b)
  pub gain : Gain s at.before h b at.action

-- whatever is held after n steps was held at the start or gained at one of the n steps (order 7)
abbrev pub Originates : Type 0
Originates = (text : List ℕ) (s : Sheet) → meaning text ≡ readable s → verdict text ≡ Accepted
    → (n : ℕ) (σ : State) → after s n ≡ some σ → (h b : ℕ) → T (holds s σ h b) → HeldAtStart s h b ⊎ GainedWithin s n h b
