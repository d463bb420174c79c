-- What holds of whatever comes next, by its kind, and how to use it. Assumes nothing.
use Prim.Native.Nat.{ℕ}
use mathlib.Core.Path.{◌≡◌, subst₂}
use Rattle.lists.proofs.Tests.{clash}
use Rattle.machine_rules.specs.State.{State}
use Rattle.machine_rules.specs.Step.{Action, Next, finished, step, store_full, stack_full, lacking}

-- P holds of a step's action and state; A where a full store stops it, B where a full stack does, C where it is lacking
pub data Comes (P : Action → State → Type 0) (A B C : Type 0) : Next → Type 0 where
  its_end : {v : ℕ} → Comes P A B C (finished v)
  its_step : {a : Action} {σ : State} → P a σ → Comes P A B C (step a σ)
  its_store : A → Comes P A B C store_full
  its_stack : B → Comes P A B C stack_full
  its_lack : C → Comes P A B C lacking

module _ {P : Action → State → Type 0} {A B C : Type 0} where
  pub Comes-step : {x : Next} {a : Action} {σ : State} → Comes P A B C x → x ≡ step a σ → P a σ
  Comes-step its_end e = clash (cc)
  Comes-step {a = a} {σ = σ} (its_step {a = b} {σ = τ} p) e =
      let same-action : b ≡ a = cc in
      let same-state : τ ≡ σ = cc in
      subst₂ P same-action same-state p
  Comes-step (its_store p) e = clash (cc)
  Comes-step (its_stack p) e = clash (cc)
  Comes-step (its_lack p) e = clash (cc)

  pub Comes-store : {x : Next} → Comes P A B C x → x ≡ store_full → A
  Comes-store its_end e = clash (cc)
  Comes-store (its_step p) e = clash (cc)
  Comes-store (its_store p) e = p
  Comes-store (its_stack p) e = clash (cc)
  Comes-store (its_lack p) e = clash (cc)

  pub Comes-stack : {x : Next} → Comes P A B C x → x ≡ stack_full → B
  Comes-stack its_end e = clash (cc)
  Comes-stack (its_step p) e = clash (cc)
  Comes-stack (its_store p) e = clash (cc)
  Comes-stack (its_stack p) e = p
  Comes-stack (its_lack p) e = clash (cc)

  pub Comes-lack : {x : Next} → Comes P A B C x → x ≡ lacking → C
  Comes-lack its_end e = clash (cc)
  Comes-lack (its_step p) e = clash (cc)
  Comes-lack (its_store p) e = clash (cc)
  Comes-lack (its_stack p) e = clash (cc)
  Comes-lack (its_lack p) e = p
