-- A sound state is finished exactly when its top frame is main's and has no instruction left; its next step is stopped exactly when
-- it is a `new` with 256 objects or a `call` with 64 frames. Assumes nothing.
use Prim.Native.Nat.{ℕ}
use native.Mathlib.Omega.{arith}
use mathlib.Core.Path.{◌≡◌, refl, ap}
use mathlib.Core.Bool.{true}
use mathlib.Core.List.{List, [], ◌∷◌}
use mathlib.Core.Option.{Option, none}
use mathlib.Core.Logic.{◌↔◌}
use lib.ListN.{length}
use Rattle.lists.proofs.Tests.{clash}
use Rattle.sheet_rules.specs.Limits.{store_limit, stack_limit}
use Rattle.sheet_rules.specs.Sheet.{Instr, new, call, Sheet}
use Rattle.sheet_rules.specs.WellFormed.{WellFormed}
use Rattle.type_rules.specs.SlotRows.{Own}
use Rattle.type_rules.specs.Typed.{Typed}
use Rattle.machine_rules.specs.State.{Frame, State, frame_count, last_of}
use Rattle.machine_rules.specs.Step.{finished, store_full, stack_full, next_step}
use Rattle.machine_rules.specs.Stopped.{IsMains, AtEnd, BeginsWithNew, a_new, BeginsWithCall, a_call, NoPlace, NoFrame}
use Rattle.machine_rules.specs.Sound.{Receives, main, object, SoundBelow, bottom, waits, Sound}
use Rattle.machine_rules.proofs.StepsLaws.{is_finished}
use Rattle.machine_rules.proofs.NextLaws.{Comes-store, Comes-stack}
use Rattle.machine_rules.proofs.NextSound.{sound_goes}
use Rattle.machine_rules.proofs.TakenLaws.{full_store, full_stack, take_return, take_end, instr_left}

module _ (s : Sheet) (σ : State) where
  new_stopped : (is : List Instr) → σ.top.code ≡ is → BeginsWithNew is → length σ.objects ≡ store_limit → next_step s σ ≡ store_full
  new_stopped (new f ss ∷ is) e a_new h = full_store s σ is f ss e (omega arith)
  new_stopped [] e x3 h = elim x3 [ ]
  new_stopped (call _ _ _ ∷ is) e x11 h = elim x11 [ ]
  new_stopped (Rattle.sheet_rules.specs.Sheet.get _ ∷ is) e x10 h = elim x10 [ ]
  new_stopped (Rattle.sheet_rules.specs.Sheet.put _ _ ∷ is) e x12 h = elim x12 [ ]
  new_stopped (Rattle.sheet_rules.specs.Sheet.copy _ ∷ is) e x12 h = elim x12 [ ]

  call_stopped : (is : List Instr) → σ.top.code ≡ is → BeginsWithCall is → frame_count σ ≡ stack_limit → next_step s σ ≡ stack_full
  call_stopped (call o n a ∷ is) e a_call h = full_stack s σ is o n a e (omega arith)
  call_stopped [] e x3 h = elim x3 [ ]
  call_stopped (new _ _ ∷ is) e x10 h = elim x10 [ ]
  call_stopped (Rattle.sheet_rules.specs.Sheet.get _ ∷ is) e x10 h = elim x10 [ ]
  call_stopped (Rattle.sheet_rules.specs.Sheet.put _ _ ∷ is) e x12 h = elim x12 [ ]
  call_stopped (Rattle.sheet_rules.specs.Sheet.copy _ ∷ is) e x12 h = elim x12 [ ]

module _ (s : Sheet) (w : WellFormed s) (t : Typed s) (σ : State) (c : Sound s σ) where
  pub stopped_by_store : (next_step s σ ≡ store_full) ↔ NoPlace σ
  stopped_by_store = (λ e. Comes-store (sound_goes s w t σ c) e, λ p. new_stopped s σ σ.top.code refl p.0 p.1)

  pub stopped_by_stack : (next_step s σ ≡ stack_full) ↔ NoFrame σ
  stopped_by_stack = (λ e. Comes-stack (sound_goes s w t σ c) e, λ p. call_stopped s σ σ.top.code refl p.0 p.1)

-- a frame is main's exactly when none lies beneath it
pub main_lowest : (s : Sheet) (σ : State) → Sound s σ → IsMains σ.top ↔ (σ.below ≡ [])
main_lowest s σ c = (λ e. down c.top.receives c.below e, λ e. up c.top.receives c.below e)
  where
    down : {own : Option ℕ} {a : Own} {r : Option ℕ} {fs : List Frame} → Receives s σ.objects own a r → SoundBelow s σ.objects r fs → own ≡ none → fs ≡ []
    down main bottom e = refl
    down (object h q) b e = clash (cc)

    up : {own : Option ℕ} {a : Own} {r : Option ℕ} {fs : List Frame} → Receives s σ.objects own a r → SoundBelow s σ.objects r fs → fs ≡ [] → own ≡ none
    up main b e = refl
    up (object h q) (waits r f code room fit b) e = clash (cc)

module _ (s : Sheet) (σ : State) where
  -- what comes next is the end only with no instruction left and no frame beneath
  ends_at : (v : ℕ) → next_step s σ ≡ finished v → (is : List Instr) → σ.top.code ≡ is → (fs : List Frame) → σ.below ≡ fs → (is ≡ []) × (fs ≡ [])
  ends_at v q [] e [] d = (refl, refl)
  ends_at v q [] e (f ∷ fs) d = let back = take_return s σ f fs e d in clash (cc)
  ends_at v q (i ∷ is) e fs d = let on = instr_left s σ is i e in let off : is_finished (next_step s σ) ≡ true = ap is_finished q in clash (cc)

  pub finishes : Sound s σ → ((v : ℕ) × (next_step s σ ≡ finished v)) ↔ AtEnd σ
  finishes c = (
    λ f. (let e = ends_at f.0 f.1 σ.top.code refl σ.below refl in ((main_lowest s σ c).1 e.1, e.0)),
    λ a. (last_of σ.top.slots, take_end s σ a.1 ((main_lowest s σ c).0 a.0)),
  )
