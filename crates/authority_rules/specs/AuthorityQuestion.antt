-- What the authority question answers for a text, a budget and a holder, its buffers left aside (document 01, Turned away, 11).
-- Stands on Authority and on the run.
use Rattle.std.specs.Prelude.{ℕ, cond, List}
use Rattle.sheet_rules.specs.declared.Reason.{Reason}
use Rattle.sheet_rules.specs.declared.Reason.TheVariants.{NoHolder}
use Rattle.sheet_rules.specs.Sheet.{Sheet}
use Rattle.sheet_rules.specs.Reading.{meaning}
use Rattle.type_rules.specs.Typing.{typing, accepted_on}
use Rattle.machine_rules.specs.State.{State}
use Rattle.machine_rules.specs.Steps.{run}
use Rattle.authority_rules.specs.Authority.{is_holder, authority}

-- the numbers that an answer writes, or a refusal with its line (Turned away, 11)
pub data Held : Type 0 where
  held : List ℕ → Held
  not_held : Reason → ℕ → Held

-- after the run: no such object, a pure one, or a number over 256 is refused (Turned away, 11)
abbrev pub held_in : Sheet → State → ℕ → Held
held_in s σ h = cond (is_holder s σ.objects h) (held (authority s σ h)) (not_held NoHolder 0)

-- the authority of holder h in the state that the run of a text within a budget leaves; only an accepted sheet is run
-- (Turned away, 11)
unfoldable pub authority_held : List ℕ → ℕ → ℕ → Held
authority_held text budget h = accepted_on typing not_held (λ s. held_in s (run s budget).last h) (meaning text)
