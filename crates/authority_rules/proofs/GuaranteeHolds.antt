-- The main theorem: every state of an accepted sheet has what is guaranteed. Each part is proved elsewhere and put together here.
-- Assumes nothing.
use mathlib.Core.Path.{◌≡◌, refl}
use mathlib.Core.Logic.{inl, inr}
use Rattle.lists.proofs.Tests.{clash}
use Rattle.sheet_rules.specs.Sheet.{Sheet}
use Rattle.type_rules.proofs.TypedLaws.{accepted_sheet}
use Rattle.machine_rules.specs.State.{State}
use Rattle.machine_rules.specs.Step.{Next, finished, step, store_full, stack_full, lacking, next_step}
use Rattle.machine_rules.specs.Sound.{Sound}
use Rattle.machine_rules.proofs.NextLaws.{its_end, its_step, its_store, its_stack, its_lack}
use Rattle.machine_rules.proofs.NextSound.{Goes, sound_goes}
use Rattle.machine_rules.proofs.StoppedLaws.{finishes, stopped_by_store, stopped_by_stack}
use Rattle.machine_rules.proofs.SoundLaws.{after-Sound}
use Rattle.authority_rules.specs.Guarantee.{Finished, CanStep, Stopped, OneOf, first, second, third, ExactlyOneOf, Guaranteed}
use Rattle.authority_rules.proofs.GainLaws.{step_gains}

-- a sound state is finished, can step or is stopped, and never two of these
exactly_one : (s : Sheet) (σ : State) → Goes s σ σ.top.code (next_step s σ) → ExactlyOneOf (Finished s σ) (CanStep s σ) (Stopped s σ)
exactly_one s σ g = record { one = go (next_step s σ) refl g; not_first_second = not-12; not_first_third = not-13; not_second_third = not-23 }
  where
    go : (x : Next) → next_step s σ ≡ x → Goes s σ σ.top.code x → OneOf (Finished s σ) (CanStep s σ) (Stopped s σ)
    go (finished v) e its_end = first (v, e)
    go (step a σ') e (its_step c) = second (record { action = a; leaves = σ'; is = e; only = λ b τ f. (cc, cc) })
    go store_full e (its_store p) = third (inl e)
    go stack_full e (its_stack p) = third (inr e)
    go lacking e (its_lack p) = absurd p

    not-12 : Finished s σ → CanStep s σ → ⊥
    not-12 (v, e) c = let f = c.is in clash (cc)

    not-13 : Finished s σ → Stopped s σ → ⊥
    not-13 (v, e) (inl f) = clash (cc)
    not-13 (v, e) (inr f) = clash (cc)

    not-23 : CanStep s σ → Stopped s σ → ⊥
    not-23 c (inl f) = let e = c.is in clash (cc)
    not-23 c (inr f) = let e = c.is in clash (cc)

pub guarantee : Guaranteed
guarantee text s readable accepted n σ reached =
    let p = accepted_sheet text s readable accepted in
    let c : Sound s σ = after-Sound s p.0 p.1 n σ reached in
    record {
      next = exactly_one s σ (sound_goes s p.0 p.1 σ c);
      finishes = finishes s σ c;
      stopped_by_store = stopped_by_store s p.0 p.1 σ c;
      stopped_by_stack = stopped_by_stack s p.0 p.1 σ c;
      gains = step_gains s p.0 p.1 σ c;
    }
