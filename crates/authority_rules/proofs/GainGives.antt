-- A converse of GainLaws, for the sets of before order 6: what a way of Gain gives was held after the step, when every filled slot and
-- every kept value counted. For the sets of today it is false: a callee may never name its argument. Assumes nothing.
use Prim.Native.Nat.{ℕ}
use native.Mathlib.Omega.{arith}
use mathlib.Core.Path.{◌≡◌, refl, sym, ap, ◌∙◌, subst}
use mathlib.Core.Bool.{Bool, true, false, cond}
use mathlib.Core.List.{List, [], ◌∷◌, ◌++◌}
use mathlib.Core.Option.{Option, none, some}
use lib.Dec.{T, ltb}
use lib.ListN.{length, get_or, length-append}
use lib.Seq.{get_or-append_seam}
use Rattle.lists.specs.In.{In, here, there}
use Rattle.lists.proofs.InLaws.{In-left, In-right}
use Rattle.lists.proofs.Tests.{T→true, true→T}
use Rattle.sheet_rules.specs.declared.Verdict.TheVariants.{Accepted}
use Rattle.sheet_rules.specs.Reading.{readable, meaning}
use Rattle.sheet_rules.specs.Limits.{store_limit, stack_limit}
use Rattle.sheet_rules.specs.Sheet.{Instr, new, call, get, put, copy, Sheet}
use Rattle.sheet_rules.specs.WellFormed.{WellFormed}
use Rattle.type_rules.specs.Typing.{verdict}
use Rattle.type_rules.specs.Typed.{Typed}
use Rattle.type_rules.proofs.TypedLaws.{accepted_sheet}
use Rattle.machine_rules.specs.State.{Object, Frame, State, frame_count, no_object, object_at, made, last_of, filled}
use Rattle.machine_rules.specs.Step.{Action, creates, calls, returns, works, Next, step, store_full, stack_full, body_in, field_place, members_of, slot_values, with_new, new_step, entered, called_step, call_step, got_step, get_step, has_put_step, put_step, instr_step, return_step, code_step, next_step}
use Rattle.machine_rules.specs.Steps.{after}
use Rattle.machine_rules.specs.Sound.{Sound}
use Rattle.machine_rules.proofs.StoreLaws.{Grows-append}
use Rattle.machine_rules.proofs.NextLaws.{Comes, its_end, its_step, its_store, its_stack, its_lack, Comes-step}
use Rattle.machine_rules.proofs.SoundLaws.{step-Sound, after-Sound}
use Rattle.authority_rules.specs.Authority.{is_resource, frames, holder_of, top_holder, own_values}
use Rattle.authority_rules.specs.Before.{everything, held_before}
use Rattle.authority_rules.specs.Gain.{Gain, maker, itself, endowed, argument, result}
use Rattle.lists.proofs.ContainsLaws.{contains-In}
use Rattle.authority_rules.proofs.HoldingLaws.{Reaches, by_top, by_own, is_holds}
use Rattle.authority_rules.proofs.StableLaws.{all_frames, holder_same}
use Rattle.authority_rules.proofs.KindLaws.{pure_keeps}

-- after a step to a sound state, each resource that a way of its action gives is reached
abbrev Gives : Sheet → State → Action → State → Type 0
Gives s σ a σ' = Sound s σ' → (h b : ℕ) → T (is_resource s σ'.objects b) → Gain s σ h b a → Reaches everything s σ' h b

abbrev GivesNext : Sheet → State → Next → Type 0
GivesNext s σ = Comes (Gives s σ) (Unit {0}) (Unit {0}) (Unit {0})

works-Gives : (s : Sheet) (σ σ' : State) → Gives s σ works σ'
works-Gives s σ σ' after h b r g = elim g [ ]

module _ (s : Sheet) (w : WellFormed s) (t : Typed s) (σ : State) (c : Sound s σ) where
  new_gives : (is : List Instr) (f : ℕ) (kept : List ℕ) → Gives s σ (creates (length σ.objects) kept) (with_new s σ is f kept)
  unfolding holder_of
  new_gives is f kept after h b r g = go g
    where
      x : Object
      x = made s f kept

      os : List Object
      os = σ.objects ++ (x ∷ [])

      number : ℕ
      number = length σ.objects

      same : holder_of s os (frames σ) ≡ top_holder s σ
      same = holder_same s σ.objects os (Grows-append σ.objects x) (all_frames s σ c)

      -- what is the new object's own, it reaches
      fresh : h ≡ number → T (is_resource s os h) → In b (own_values everything s number x) → Reaches everything s (with_new s σ is f kept) h b
      fresh e q k =
          by_own q (subst (λ (y : ℕ). In b (own_values everything s y (object_at os y))) (sym e)
          (subst (λ (y : Object). In b (own_values everything s number y)) (sym (get_or-append_seam σ.objects x [] no_object)) k))

      -- an object that keeps a resource is one: a pure one keeps pure objects alone
      keeper : In b kept → (y : Bool) → is_resource s os number ≡ y → T (is_resource s os number)
      keeper i true e = true→T (is_resource s os number) e
      keeper i false e =
          absurd (pure_keeps s w t (with_new s σ is f kept) after number b (omega (arith, length-append σ.objects (x ∷ []))) e
          (subst (λ (y : Object). In b y.kept) (sym (get_or-append_seam σ.objects x [] no_object)) i) r)

      go : Gain s σ h b (creates number kept) → Reaches everything s (with_new s σ is f kept) h b
      go (maker e k) = by_top (same ∙ sym e) (In-right σ.top.slots (number ∷ []) (here k))
      go (itself e k) = fresh e (subst (λ (y : ℕ). T (is_resource s os y)) (k ∙ sym e) r) (here k)
      go (endowed e k q) =
          let i : In b kept = contains-In kept b k in
          fresh e (subst (λ (y : ℕ). T (is_resource s os y)) (sym e) (keeper i (is_resource s os number) refl)) (there (In-left kept x.fields i))

  call_gives : (is code : List Instr) (receiver value : ℕ) → Gives s σ (calls receiver value) (entered σ is receiver value code)
  unfolding holder_of
  call_gives is code receiver value after h b r (argument n e k q) =
      by_top (ap (λ (y : Bool). cond y receiver (top_holder s σ)) (T→true (is_resource s σ.objects receiver) n) ∙ sym e) (there (here k))

  return_gives : (f : Frame) (fs : List Frame) → σ.below ≡ f ∷ fs
      → Gives s σ (returns (last_of σ.top.slots)) (record { objects = σ.objects; top = filled f (last_of σ.top.slots); below = fs })
  unfolding holder_of
  return_gives f fs d after h b r (result m n k q e) =
      by_top (ap (holder_of s σ.objects) (sym d) ∙ sym e) (In-right f.slots (last_of σ.top.slots ∷ []) (here k))

  new_gives_next : (is : List Instr) (f : ℕ) (kept : List ℕ) → GivesNext s σ (new_step s σ is f kept)
  new_gives_next is f kept = go (ltb (length σ.objects) store_limit)
    where
      go : (b : Bool) → GivesNext s σ (cond b (step (creates (length σ.objects) kept) (with_new s σ is f kept)) store_full)
      go true = its_step (new_gives is f kept)
      go false = its_store tt

  call_gives_next : (is : List Instr) (receiver n value : ℕ) → GivesNext s σ (call_step s σ is receiver n value)
  call_gives_next is receiver n value = go (ltb (frame_count σ) stack_limit) (body_in _ _ n)
    where
      go : (b : Bool) (code : Option (List Instr)) → GivesNext s σ (cond b (called_step σ is receiver value code) stack_full)
      go true none = its_lack tt
      go true (some code) = its_step (call_gives is code receiver value)
      go false code = its_stack tt

  get_gives_next : (is : List Instr) (own : Option ℕ) (n : ℕ) → GivesNext s σ (get_step s σ is own n)
  get_gives_next is none n = its_lack tt
  get_gives_next is (some o) n = go (field_place (members_of s (object_at σ.objects o)) n)
    where
      go : (i : Option ℕ) → GivesNext s σ (got_step σ is o i)
      go none = its_lack tt
      go (some i) = its_step (works-Gives s σ _)

  put_gives_next : (is : List Instr) (own : Option ℕ) (n v : ℕ) → GivesNext s σ (put_step s σ is own n v)
  put_gives_next is none n v = its_lack tt
  put_gives_next is (some o) n v = go (field_place (members_of s (object_at σ.objects o)) n)
    where
      go : (i : Option ℕ) → GivesNext s σ (has_put_step σ is o v i)
      go none = its_lack tt
      go (some i) = its_step (works-Gives s σ _)

  return_gives_next : (fs : List Frame) → σ.below ≡ fs → GivesNext s σ (return_step σ fs)
  unfolding return_step
  return_gives_next [] d = its_end
  return_gives_next (f ∷ fs) d = its_step (return_gives f fs d)

  code_gives : (is : List Instr) → GivesNext s σ (code_step s σ is)
  unfolding code_step instr_step
  code_gives [] = return_gives_next σ.below refl
  code_gives (new f ss ∷ is) = new_gives_next is f (slot_values σ.top.slots ss)
  code_gives (call o n a ∷ is) = call_gives_next is (get_or σ.top.slots o 0) n (get_or σ.top.slots a 0)
  code_gives (get n ∷ is) = get_gives_next is σ.top.own n
  code_gives (put n v ∷ is) = put_gives_next is σ.top.own n (get_or σ.top.slots v 0)
  code_gives (copy v ∷ is) = its_step (works-Gives s σ _)

  next_gives : GivesNext s σ (next_step s σ)
  unfolding next_step
  next_gives = code_gives σ.top.code

  -- what a step gives, said by the tests of the authority rules
  pub step_gives : (a : Action) (σ' : State) → next_step s σ ≡ step a σ' → (h b : ℕ) → T (is_resource s σ'.objects b) → Gain s σ h b a → T (held_before s σ' h b)
  step_gives a σ' e h b r g =
      let after : Sound s σ' = step-Sound s w t σ σ' a c e in
      is_holds everything s σ' h b after.places (record { resource = r; reaches = Comes-step next_gives e after h b r g })

-- of every accepted text, after every n steps: a gain of what is a resource after the step was held after it
pub Gain-gives : (text : List ℕ) (s : Sheet) → meaning text ≡ readable s → verdict text ≡ Accepted → (n : ℕ) (σ : State) → after s n ≡ some σ
    → (a : Action) (σ' : State) → next_step s σ ≡ step a σ' → (h b : ℕ) → T (is_resource s σ'.objects b) → Gain s σ h b a → T (held_before s σ' h b)
Gain-gives text s read accepted n σ reached =
    let p = accepted_sheet text s read accepted in
    step_gives s p.0 p.1 σ (after-Sound s p.0 p.1 n σ reached)
