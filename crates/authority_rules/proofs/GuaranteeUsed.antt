-- What follows from the guarantee, and from gain, by every word of them: where a gain comes from, who can gain, and what nobody can.
-- Assumes nothing.
use Prim.Native.Nat.{ℕ}
use mathlib.Core.Path.{◌≡◌, refl, sym, ◌∙◌, subst}
use mathlib.Core.Bool.{Bool, true, false}
use mathlib.Core.List.{List}
use mathlib.Core.Option.{some}
use mathlib.Core.Logic.{◌≢◌, ◌⊎◌, inl, inr}
use lib.Dec.{T}
use Rattle.sheet_rules.specs.declared.Verdict.TheVariants.{Accepted}
use Rattle.sheet_rules.specs.Sheet.{Sheet}
use Rattle.sheet_rules.specs.Reading.{readable, meaning}
use Rattle.type_rules.specs.Typing.{verdict}
use Rattle.machine_rules.specs.State.{State}
use Rattle.machine_rules.specs.Step.{Action, creates, calls, returns, works, step, next_step}
use Rattle.machine_rules.specs.Steps.{after}
use Rattle.machine_rules.specs.Stopped.{AtEnd, NoPlace, NoFrame}
use Rattle.authority_rules.specs.Authority.{is_resource, holder_of, top_holder, holds}
use Rattle.authority_rules.specs.Gain.{Gain, maker, itself, endowed, argument, result}
use Rattle.authority_rules.specs.Guarantee.{Finished, CanStep, Stopped, OneOf, first, second, third, Guarantee, Guaranteed}

-- FROM GAIN ALONE

-- the step makes object b
pub data Makes (b : ℕ) : Action → Type 0 where
  makes : {kept : List ℕ} → Makes b (creates b kept)

-- those that a step can give something: the object made and its maker, the receiver of a call, the holder beneath a return
pub data MayGain (s : Sheet) (σ : State) (h : ℕ) : Action → Type 0 where
  as_made : {c : ℕ} {kept : List ℕ} → h ≡ c → MayGain s σ h (creates c kept)
  as_maker : {c : ℕ} {kept : List ℕ} → h ≡ top_holder s σ → MayGain s σ h (creates c kept)
  as_receiver : {receiver value : ℕ} → h ≡ receiver → T (is_resource s σ.objects receiver) → MayGain s σ h (calls receiver value)
  as_beneath : {value : ℕ} → h ≡ holder_of s σ.objects σ.below → MayGain s σ h (returns value)

-- a return gives its value, from another resource than the one that gains
pub record Returned (s : Sheet) (σ : State) (h b value : ℕ) : Type 0 where
  pub value_is : b ≡ value
  pub resource : T (is_resource s σ.objects (top_holder s σ))
  pub another : top_holder s σ ≢ h

pub made_is : {b c : ℕ} {kept : List ℕ} → b ≡ c → Makes b (creates c kept)
made_is {b} {c} {kept} e = subst (λ (x : ℕ). Makes b (creates x kept)) e makes

module _ {s : Sheet} {σ : State} {h b : ℕ} where
  -- what a holder gains was made by the step, or was held by the top frame's holder before it
  pub Gain-from : {a : Action} → Gain s σ h b a → Makes b a ⊎ T (holds s σ (top_holder s σ) b)
  Gain-from (maker e k) = inl (made_is k)
  Gain-from (itself e k) = inl (made_is k)
  Gain-from (endowed e k q) = inr q
  Gain-from (argument r e k q) = inr q
  Gain-from (result r o k q e) = inr q

  pub Gain-to : {a : Action} → Gain s σ h b a → MayGain s σ h a
  Gain-to (maker e k) = as_maker e
  Gain-to (itself e k) = as_made e
  Gain-to (endowed e k q) = as_made e
  Gain-to (argument r e k q) = as_receiver e r
  Gain-to (result r o k q e) = as_beneath e

  pub Gain-Returned : {value : ℕ} → Gain s σ h b (returns value) → Returned s σ h b value
  Gain-Returned (result r o k q e) = record { value_is = k; resource = r; another = o }

  -- what a call gives is its argument
  pub Gain-called : {receiver value : ℕ} → Gain s σ h b (calls receiver value) → b ≡ value
  Gain-called (argument r e k q) = k

  made_by : {a : Action} → Gain s σ h b a → Makes b a → (h ≡ top_holder s σ) ⊎ (h ≡ b)
  made_by (maker e k) m = inl e
  made_by (itself e k) m = inr (e ∙ sym k)
  made_by (endowed e k q) makes = inr e
  made_by (argument r e k q) m = elim m [ ]
  made_by (result r o k q e) m = elim m [ ]

-- FROM THE GUARANTEE ALONE

-- of every accepted text, after every n steps, for every holder and every resource
module _ (g : Guaranteed) (text : List ℕ) (s : Sheet) (read : meaning text ≡ readable s) (accepted : verdict text ≡ Accepted) (n : ℕ) (σ : State) (reached : after s n ≡ some σ) where
  state : Guarantee s σ
  state = g text s read accepted n σ reached

  -- main's code at its end, a `new` with 256 objects and a `call` with 64 frames have no step that can be taken
  pub no_step : AtEnd σ ⊎ (NoPlace σ ⊎ NoFrame σ) → CanStep s σ → ⊥
  no_step (inl e) c = state.next.not_first_second (state.finishes.1 e) c
  no_step (inr (inl p)) c = state.next.not_second_third c (inl (state.stopped_by_store.1 p))
  no_step (inr (inr f)) c = state.next.not_second_third c (inr (state.stopped_by_stack.1 f))

  -- and every other state has one
  pub else_steps : (AtEnd σ → ⊥) → (NoPlace σ → ⊥) → (NoFrame σ → ⊥) → CanStep s σ
  else_steps e p f = go state.next.one
    where
      go : OneOf (Finished s σ) (CanStep s σ) (Stopped s σ) → CanStep s σ
      go (first x) = absurd (e (state.finishes.0 x))
      go (second x) = x
      go (third (inl x)) = absurd (p (state.stopped_by_store.0 x))
      go (third (inr x)) = absurd (f (state.stopped_by_stack.0 x))

  -- a finished state is not stopped
  pub Finished-not_stopped : Finished s σ → Stopped s σ → ⊥
  Finished-not_stopped = state.next.not_first_third

  module _ (a : Action) (σ' : State) (e : next_step s σ ≡ step a σ') (h b : ℕ) (now : T (holds s σ' h b)) where
    -- held before, or a gain
    held_or_gained : T (holds s σ h b) ⊎ Gain s σ h b a
    held_or_gained = go (holds s σ h b) refl
      where
        go : (x : Bool) → holds s σ h b ≡ x → T (holds s σ h b) ⊎ Gain s σ h b a
        go true p = inl (subst T (sym p) tt)
        go false p = inr (state.gains a σ' e h b now (λ t. subst T p t))

    -- a step that neither creates, calls nor returns gives nobody anything
    pub works_gives_nothing : a ≡ works → T (holds s σ h b)
    works_gives_nothing w = go held_or_gained
      where
        none : {a : Action} → a ≡ works → Gain s σ h b a → ⊥
        none p x = elim (subst (Gain s σ h b) p x) [ ]

        go : T (holds s σ h b) ⊎ Gain s σ h b a → T (holds s σ h b)
        go (inl t) = t
        go (inr x) = absurd (none w x)

    -- nobody but the object made, its maker, the receiver and the holder beneath gains anything
    pub who_gains : (T (holds s σ h b) → ⊥) → MayGain s σ h a
    who_gains new = Gain-to (state.gains a σ' e h b now new)

    -- a resource that no holder has is gained by none but its maker and itself
    pub unheld_gains : ((x : ℕ) → T (holds s σ x b) → ⊥) → Makes b a × ((h ≡ top_holder s σ) ⊎ (h ≡ b))
    unheld_gains nobody = go (Gain-from x)
      where
        x : Gain s σ h b a
        x = state.gains a σ' e h b now (nobody h)

        go : Makes b a ⊎ T (holds s σ (top_holder s σ) b) → Makes b a × ((h ≡ top_holder s σ) ⊎ (h ≡ b))
        go (inl m) = (m, made_by x m)
        go (inr t) = absurd (nobody (top_holder s σ) t)
