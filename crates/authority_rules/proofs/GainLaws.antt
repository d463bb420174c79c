-- A step gives a holder a resource that it did not hold in the three ways of Gain alone: one theorem over the next step.
-- Assumes nothing.
use Prim.Native.Nat.{ℕ}
use mathlib.Core.Path.{◌≡◌, refl}
use mathlib.Core.List.{List, [], ◌∷◌}
use lib.Dec.{T}
use lib.ListN.{get_or}
use Rattle.lists.specs.In.{here}
use Rattle.sheet_rules.specs.Sheet.{Instr, new, call, get, put, copy, Sheet}
use Rattle.sheet_rules.specs.WellFormed.{WellFormed}
use Rattle.type_rules.specs.Typed.{InstrTyped, typed_new, typed_call, typed_get, typed_put, typed_copy, CodeTyped, end, next, Typed}
use Rattle.machine_rules.specs.State.{State}
use Rattle.machine_rules.specs.Step.{Action, step, instr_step, code_step, next_step}
use Rattle.machine_rules.specs.Sound.{Sound}
use Rattle.machine_rules.proofs.NextLaws.{its_step, Comes-step}
use Rattle.machine_rules.proofs.FoundLaws.{own_found}
use Rattle.authority_rules.specs.Counted.{usable}
use Rattle.authority_rules.specs.Authority.{holds}
use Rattle.authority_rules.specs.Gain.{Gain}
use Rattle.authority_rules.proofs.HoldingLaws.{Holds-is, is_holds}
use Rattle.authority_rules.proofs.GainWorks.{GainsNext, top_named, same_gains, get_gains, put_gains}
use Rattle.authority_rules.proofs.GainCreates.{new-GainsNext}
use Rattle.authority_rules.proofs.GainCalls.{call-GainsNext}
use Rattle.authority_rules.proofs.GainReturns.{return_gains_next}

module _ (s : Sheet) (w : WellFormed s) (t : Typed s) (σ : State) (c : Sound s σ) where
  instr_gains : (i : Instr) (is : List Instr) (a : ℕ) → σ.top.code ≡ i ∷ is → InstrTyped s c.own c.rows i a → GainsNext s σ (instr_step s σ i is)
  unfolding instr_step
  instr_gains (new f ss) is a e (typed_new h fit) = new-GainsNext s t σ c is f ss e h fit
  instr_gains (call o n v) is a e (typed_call h m fit) = call-GainsNext s w t σ c is o n v e h fit.filled
  instr_gains (get n) is a e (typed_get m) = get_gains s t σ c (get n) is e n a refl (own_found n a c.top.receives m)
  instr_gains (put n v) is a e (typed_put m fit) =
      put_gains s t σ c (put n v) is e n (get_or σ.top.slots v 0) a refl (own_found n a c.top.receives m)
      (top_named s σ c (put n v) is e v fit.filled (here refl))
  instr_gains (copy v) is a e (typed_copy h) =
      its_step (same_gains s t σ c (copy v) is e (get_or σ.top.slots v 0) (top_named s σ c (copy v) is e v h (here refl)))

  code_gains : (is : List Instr) → σ.top.code ≡ is → CodeTyped s c.own c.result c.rows is → GainsNext s σ (code_step s σ is)
  unfolding code_step
  code_gains [] e (end h r) = return_gains_next s σ c c.result σ.below e refl refl c.below h
  code_gains (i ∷ is) e (next {a = a} h code) = instr_gains i is a e h

  next_gains : GainsNext s σ (next_step s σ)
  unfolding next_step
  next_gains = code_gains σ.top.code refl c.code

  -- what a step may give, said by the tests of the authority rules
  pub step_gains : (a : Action) (σ' : State) → next_step s σ ≡ step a σ' → (h b : ℕ) → T (holds s σ' h b) → (T (holds s σ h b) → ⊥) → Gain s σ h b a
  step_gains a σ' e h b now before = Comes-step next_gains e h b (Holds-is usable s σ' h b now) (λ p. before (is_holds usable s σ h b c.places p))
