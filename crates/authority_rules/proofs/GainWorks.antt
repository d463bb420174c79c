-- What a step may give a holder, and the steps that give nothing: `copy`, `get` and `put` fill a slot of the top frame with a value
-- that the frame's holder has: the instruction names its slot, or it is a field. Assumes nothing.
use Prim.Native.Nat.{ℕ, ◌<◌}
use native.Mathlib.Omega.{arith}
use native.Mathlib.Decide.{ℕ_discrete}
use mathlib.Core.Path.{◌≡◌, refl, sym, ap, ◌∙◌, subst}
use mathlib.Core.Bool.{Bool, cond}
use mathlib.Core.List.{List, ◌∷◌}
use mathlib.Core.Option.{Option, none, some}
use mathlib.Core.Logic.{◌⊎◌, inl, inr}
use lib.Dec.{T}
use lib.ListN.{length, get_or, set, length-set}
use lib.Seq.{get_or-set_same, get_or-set_other}
use Rattle.lists.specs.In.{In, here, there}
use Rattle.lists.proofs.InLaws.{In-left, In-right, In-cases, In-get_or, In-set}
use Rattle.lists.proofs.PairwiseLaws.{Pairwise-length}
use Rattle.lists.proofs.Tests.{T→true}
use Rattle.sheet_rules.specs.Sheet.{Instr, named_slots, Sheet}
use Rattle.type_rules.specs.Typed.{Typed}
use Rattle.machine_rules.specs.State.{Object, State, no_object, object_at}
use Rattle.machine_rules.specs.Step.{Action, works, Next, field_place, members_of, moved_on, got_step, get_step, with_field, has_put_step, put_step}
use Rattle.machine_rules.specs.Sound.{Sound}
use Rattle.machine_rules.proofs.StoreLaws.{Grows, Grows-refl, Grows-set}
use Rattle.machine_rules.proofs.NextLaws.{Comes, its_step, its_lack}
use Rattle.machine_rules.proofs.FoundLaws.{HasField, field_found, OwnField, of_object}
use Rattle.authority_rules.specs.Counted.{top_slots, named_kept, usable}
use Rattle.authority_rules.specs.Authority.{is_resource, frames, frame_holder, holder_of, top_holder, own_values}
use Rattle.authority_rules.specs.Gain.{Gain}
use Rattle.authority_rules.proofs.HoldingLaws.{Reaches, by_top, by_slot, by_own, resource_made, Holds}
use Rattle.authority_rules.proofs.CountedLaws.{named_top, filled_top}
use Rattle.authority_rules.proofs.StableLaws.{below_frames, all_frames, resource_same, holder_same, slot_same}
use Rattle.authority_rules.proofs.KindLaws.{field_resource}

-- a step gives a holder a resource that it did not hold in the ways of its action alone
abbrev pub Gains : Sheet → State → Action → State → Type 0
Gains s σ a σ' = (h b : ℕ) → Holds usable s σ' h b → (Holds usable s σ h b → ⊥) → Gain s σ h b a

-- what comes next, if it is a step, gives no more than its action may
abbrev pub GainsNext : Sheet → State → Next → Type 0
GainsNext s σ = Comes (Gains s σ) (Unit {0}) (Unit {0}) (Unit {0})

module _ (s : Sheet) (σ : State) where
  -- what counts of the top frame, its holder reaches
  pub top_slot : {b : ℕ} → In b (top_slots σ.top) → Reaches usable s σ (top_holder s σ) b
  top_slot i = by_top refl i

  -- a slot that the next instruction names is reached
  pub top_named : (c : Sound s σ) (i : Instr) (is : List Instr) → σ.top.code ≡ i ∷ is → (v : ℕ) → v < length c.rows → In v (named_slots i)
      → Reaches usable s σ (top_holder s σ) (get_or σ.top.slots v 0)
  top_named c i is e v l n = top_slot (named_top σ.top i is e v (omega (arith, Pairwise-length c.top.slots)) n)

  -- the top frame of a resource belongs to it
  pub top-own : (o : ℕ) → σ.top.own ≡ some o → T (is_resource s σ.objects o) → top_holder s σ ≡ o
  unfolding holder_of
  top-own o e r =
      let beneath : ℕ = holder_of s σ.objects σ.below in
      ap (λ (x : Option ℕ). frame_holder s σ.objects x beneath) e ∙ ap (λ (x : Bool). cond x o beneath) (T→true (is_resource s σ.objects o) r)

  -- the top frame keeps its holder when it moves on, while the store grows
  pub moved_holder : (c : Sound s σ) (os : List Object) → Grows σ.objects os → holder_of s os (frames σ) ≡ top_holder s σ
  moved_holder c os g = holder_same s σ.objects os g (all_frames s σ c)

-- how h reaches b in a state that moved on from σ, among these objects: as it did before; as the value v that filled the slot, if the
-- top frame is h's; or as its own now
pub data Moved (s : Sheet) (σ : State) (os : List Object) (v h b : ℕ) : Type 0 where
  before : Reaches usable s σ h b → Moved s σ os v h b
  filler : h ≡ top_holder s σ → b ≡ v → Moved s σ os v h b
  own_now : T (is_resource s os h) → In b (own_values usable s h (object_at os h)) → Moved s σ os v h b

pub moved : (s : Sheet) (σ : State) (c : Sound s σ) (os : List Object) → Grows σ.objects os → (i : Instr) (is : List Instr) → σ.top.code ≡ i ∷ is
    → (v : ℕ) {h b : ℕ} → Reaches usable s (moved_on os σ is v) h b → Moved s σ os v h b
unfolding holder_of
moved s σ c os g i is e v (by_own r j) = own_now r j
moved s σ c os g i is e v (by_slot q) = before (by_slot (slot_same s σ.objects os g (below_frames c.below) q))
moved s σ c os g i is e v {h} {b} (by_top k j) = go (filled_top σ.top i is e v j)
  where
    same : top_holder s σ ≡ h
    same = sym (moved_holder s σ c os g) ∙ k

    go : In b (top_slots σ.top) ⊎ (b ≡ v) → Moved s σ os v h b
    go (inl x) = before (by_top same x)
    go (inr x) = filler (sym same) x

module _ (s : Sheet) (t : Typed s) (σ : State) (c : Sound s σ) (i : Instr) (is : List Instr) (code : σ.top.code ≡ i ∷ is) where
  -- the top frame gets a value that its holder reaches, and objects get no value of their own that they did not reach: no gain
  works-Gains : (os : List Object) → Grows σ.objects os → length os ≡ length σ.objects → (v : ℕ)
      → Reaches usable s σ (top_holder s σ) v
      → ((h b : ℕ) → T (is_resource s σ.objects h) → In b (own_values usable s h (object_at os h)) → Reaches usable s σ h b)
      → Gains s σ works (moved_on os σ is v)
  works-Gains os g l v top own h b p new = absurd (new (record { resource = was b p.resource; reaches = go (moved s σ c os g i is code v p.reaches) }))
    where
      was : (o : ℕ) → T (is_resource s os o) → T (is_resource s σ.objects o)
      was o r = subst T (resource_same s σ.objects os g o (omega (arith, resource_made s os o r))) r

      go : Moved s σ os v h b → Reaches usable s σ h b
      go (before q) = q
      go (own_now r j) = own h b (was h r) j
      go (filler e k) = subst (λ (x : ℕ). Reaches usable s σ x b) (sym e) (subst (λ (x : ℕ). Reaches usable s σ (top_holder s σ) x) (sym k) top)

  -- objects as they are
  pub same_gains : (v : ℕ) → Reaches usable s σ (top_holder s σ) v → Gains s σ works (moved_on σ.objects σ is v)
  same_gains v top = works-Gains σ.objects (Grows-refl σ.objects) refl v top (λ h b r j. by_own r j)

  pub get_gains : {own : Option ℕ} (n r : ℕ) → σ.top.own ≡ own → OwnField s σ.objects n r own → GainsNext s σ (get_step s σ is own n)
  get_gains n r e (of_object {o = o} h f) = go (field_place (members_of s x) n) has.looked_up
    where
      x : Object
      x = object_at σ.objects o

      has : HasField (members_of s x) n r
      has = field_found (members_of s x) n r f

      resource : T (is_resource s σ.objects o)
      resource = field_resource s t σ c o n r h f

      go : (j : Option ℕ) → j ≡ some has.place → GainsNext s σ (got_step σ is o j)
      go none q = its_lack tt
      go (some j) q =
          let k : has.place ≡ j = cc in
          let inside : j < length x.fields = omega (arith, Pairwise-length (c.store o h).fields, has.inside) in
          its_step (same_gains (get_or x.fields j 0)
          (subst (λ (y : ℕ). Reaches usable s σ y (get_or x.fields j 0)) (sym (top-own s σ o e resource))
          (by_own resource (there (In-right (named_kept s x) x.fields (In-get_or x.fields j 0 inside))))))

  pub put_gains : {own : Option ℕ} (n v r : ℕ) → σ.top.own ≡ own → OwnField s σ.objects n r own → Reaches usable s σ (top_holder s σ) v
      → GainsNext s σ (put_step s σ is own n v)
  put_gains n v r e (of_object {o = o} h f) top = go (field_place (members_of s x) n)
    where
      x : Object
      x = object_at σ.objects o

      resource : T (is_resource s σ.objects o)
      resource = field_resource s t σ c o n r h f

      -- what the changed object has of its own, it reached before
      changed : (j b : ℕ) → In b (own_values usable s o (with_field x j v)) → Reaches usable s σ o b
      changed j b (here k) = by_own resource (here k)
      changed j b (there m) = pick (In-cases (named_kept s x) (set x.fields j v) m)
        where
          field : In b x.fields ⊎ (b ≡ v) → Reaches usable s σ o b
          field (inl k) = by_own resource (there (In-right (named_kept s x) x.fields k))
          field (inr k) =
              subst (λ (y : ℕ). Reaches usable s σ y b) (top-own s σ o e resource)
              (subst (λ (y : ℕ). Reaches usable s σ (top_holder s σ) y) (sym k) top)

          pick : In b (named_kept s x) ⊎ In b (set x.fields j v) → Reaches usable s σ o b
          pick (inl k) = by_own resource (there (In-left (named_kept s x) x.fields k))
          pick (inr k) = field (In-set x.fields j v k)

      own : (j h b : ℕ) → T (is_resource s σ.objects h) → In b (own_values usable s h (object_at (set σ.objects o (with_field x j v)) h))
          → Reaches usable s σ h b
      own j g b q m = pick (ℕ_discrete g o)
        where
          os : List Object
          os = set σ.objects o (with_field x j v)

          pick : Dec (g ≡ o) → Reaches usable s σ g b
          pick (yes k) =
              subst (λ (y : ℕ). Reaches usable s σ y b) (sym k)
              (changed j b (subst (λ (y : Object). In b (own_values usable s o y)) (get_or-set_same σ.objects o (with_field x j v) no_object h)
              (subst (λ (y : ℕ). In b (own_values usable s y (object_at os y))) k m)))
          pick (no k) = by_own q (subst (λ (y : Object). In b (own_values usable s g y)) (get_or-set_other σ.objects o g (with_field x j v) no_object k) m)

      go : (j : Option ℕ) → GainsNext s σ (has_put_step σ is o v j)
      go none = its_lack tt
      go (some j) =
          its_step (works-Gains (set σ.objects o (with_field x j v)) (Grows-set σ.objects o (with_field x j v) refl)
          (length-set σ.objects o (with_field x j v)) v top (own j))
