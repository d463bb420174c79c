-- What a holder holds, as membership, whatever the way of counting: by a slot of the top frame or of one that waits, or as what is
-- its own. Assumes nothing.
use Prim.Native.Nat.{ℕ, ◌≤◌, ◌<◌}
use native.Mathlib.Omega.{arith}
use mathlib.Core.Path.{◌≡◌, refl, sym, subst}
use mathlib.Core.Bool.{Bool, true, false, cond}
use mathlib.Core.List.{List, [], ◌∷◌, ◌++◌}
use mathlib.Core.Option.{Option, none, some}
use mathlib.Core.Logic.{◌⊎◌, inl, inr}
use lib.Dec.{T, eqb, ltb, ltb→lt}
use lib.ListN.{length}
use borrow.Author.Tests.{eqb-true, eq-eqb, ne_eqb}
use Rattle.lists.specs.In.{In}
use Rattle.lists.specs.Contains.{contains}
use Rattle.lists.proofs.ContainsLaws.{contains-In, In-contains}
use Rattle.lists.proofs.InLaws.{In-nil, In-left, In-right, In-cases}
use Rattle.lists.proofs.Tests.{and_left, and_right, and_intro, or_left, or_right, T→true, true→T}
use Rattle.sheet_rules.specs.Limits.{store_limit}
use Rattle.sheet_rules.specs.Sheet.{Sheet, row_of_form}
use Rattle.machine_rules.specs.State.{Object, Frame, State, object_at}
use Rattle.authority_rules.specs.Counted.{Counting}
use Rattle.authority_rules.specs.Authority.{main_holder, is_resource_kind, is_resource, is_holder, frames, frame_holder, holder_of, top_holder, slots_if, slots_of, held_slots, own_values, reached_by, holds_by}

module _ (s : Sheet) (os : List Object) where
  -- b is in a slot that counts of a frame that belongs to h
  pub data SlotOf (count : Frame → List ℕ) (h b : ℕ) : List Frame → Type 0 where
    this : {f : Frame} {fs : List Frame} → holder_of s os (f ∷ fs) ≡ h → In b (count f) → SlotOf count h b (f ∷ fs)
    later : {f : Frame} {fs : List Frame} → SlotOf count h b fs → SlotOf count h b (f ∷ fs)

  -- what a frame adds, if it belongs to h
  slots_if_at : (g h b : ℕ) (xs ys : List ℕ) → In b (slots_if (eqb g h) xs ++ ys) → ((g ≡ h) × In b xs) ⊎ In b ys
  slots_if_at g h b xs ys i = go (eqb g h) refl i
    where
      go : (t : Bool) → eqb g h ≡ t → In b (slots_if t xs ++ ys) → ((g ≡ h) × In b xs) ⊎ In b ys
      go false e i = inr i
      go true e i = pick (In-cases xs ys i)
        where
          pick : In b xs ⊎ In b ys → ((g ≡ h) × In b xs) ⊎ In b ys
          pick (inl j) = inl (eqb-true g h e, j)
          pick (inr j) = inr j

  slots_if_from : (g h b : ℕ) (xs ys : List ℕ) → g ≡ h → In b xs → In b (slots_if (eqb g h) xs ++ ys)
  slots_if_from g h b xs ys e i = In-left (slots_if (eqb g h) xs) ys (subst (λ (t : Bool). In b (slots_if t xs)) (sym (eq-eqb g h e)) i)

  module _ (count : Frame → List ℕ) (h b : ℕ) where
    slots_of_at : (fs : List Frame) → In b (slots_of count s os h fs) → SlotOf count h b fs
    unfolding slots_of
    slots_of_at [] i = absurd (In-nil i)
    slots_of_at (f ∷ fs) i = go (slots_of_at fs) (slots_if_at (holder_of s os (f ∷ fs)) h b (count f) (slots_of count s os h fs) i)
      where
        go : (In b (slots_of count s os h fs) → SlotOf count h b fs) → ((holder_of s os (f ∷ fs) ≡ h) × In b (count f)) ⊎ In b (slots_of count s os h fs)
            → SlotOf count h b (f ∷ fs)
        go rest (inl (e, j)) = this e j
        go rest (inr j) = later (rest j)

    slots_of_from : (fs : List Frame) → SlotOf count h b fs → In b (slots_of count s os h fs)
    unfolding slots_of
    slots_of_from (f ∷ fs) (this e i) = slots_if_from (holder_of s os (f ∷ fs)) h b (count f) (slots_of count s os h fs) e i
    slots_of_from (f ∷ fs) (later p) = In-right (slots_if (eqb (holder_of s os (f ∷ fs)) h) (count f)) (slots_of count s os h fs) (slots_of_from fs p)
    slots_of_from [] x' = elim x' [ ]

  -- the holder of a frame is main or a resource
  pub holder_is : (fs : List Frame) → (holder_of s os fs ≡ main_holder) ⊎ T (is_resource s os (holder_of s os fs))
  unfolding holder_of
  holder_is [] = inl refl
  holder_is (f ∷ fs) = go f.own (holder_of s os fs) (holder_is fs)
    where
      go : (own : Option ℕ) (beneath : ℕ) → (beneath ≡ main_holder) ⊎ T (is_resource s os beneath)
          → (frame_holder s os own beneath ≡ main_holder) ⊎ T (is_resource s os (frame_holder s os own beneath))
      go none beneath r = inl refl
      go (some o) beneath r = pick (is_resource s os o) refl
        where
          pick : (t : Bool) → is_resource s os o ≡ t → (cond t o beneath ≡ main_holder) ⊎ T (is_resource s os (cond t o beneath))
          pick true e = inr (true→T (is_resource s os o) e)
          pick false e = r

  frame_holder_lem : (h : ℕ) (fs : List Frame) → holder_of s os fs ≡ h → (h ≡ main_holder) ⊎ T (is_resource s os h)
  frame_holder_lem h fs e = subst (λ (x : ℕ). (x ≡ main_holder) ⊎ T (is_resource s os x)) e (holder_is fs)

  slot_holder : {count : Frame → List ℕ} (h b : ℕ) (fs : List Frame) → SlotOf count h b fs → (h ≡ main_holder) ⊎ T (is_resource s os h)
  slot_holder h b (f ∷ fs) (this e i) = frame_holder_lem h (f ∷ fs) e
  slot_holder h b (f ∷ fs) (later p) = slot_holder h b fs p
  slot_holder {count = count} h b [] x' = elim x' [ ]

  -- a resource is an object
  pub resource_made : (o : ℕ) → T (is_resource s os o) → o < length os
  unfolding is_resource
  resource_made o t = ltb→lt o (length os) (and_left (ltb o (length os)) (is_resource_kind (row_of_form s (object_at os o).form).kind) t)

-- h reaches b: by a slot of the top frame or of one below that belongs to it, or, as a resource, as what is its own
pub data Reaches (c : Counting) (s : Sheet) (σ : State) (h b : ℕ) : Type 0 where
  by_top : top_holder s σ ≡ h → In b (c.top σ.top) → Reaches c s σ h b
  by_slot : SlotOf s σ.objects c.waiting h b σ.below → Reaches c s σ h b
  by_own : T (is_resource s σ.objects h) → In b (own_values c s h (object_at σ.objects h)) → Reaches c s σ h b

-- h holds b: b is a resource that h reaches
pub record Holds (c : Counting) (s : Sheet) (σ : State) (h b : ℕ) : Type 0 where
  pub resource : T (is_resource s σ.objects b)
  pub reaches : Reaches c s σ h b

module _ (c : Counting) (s : Sheet) (σ : State) (h b : ℕ) where
  -- what reaches something is main or a resource
  Reaches-holder : Reaches c s σ h b → (h ≡ main_holder) ⊎ T (is_resource s σ.objects h)
  Reaches-holder (by_top e i) = frame_holder_lem s σ.objects h (frames σ) e
  Reaches-holder (by_slot q) = slot_holder s σ.objects h b σ.below q
  Reaches-holder (by_own t i) = inr t

  -- what holds something is a holder: a number that is none, such as that of an object not yet made, has no authority
  pub Holds-holder : Holds c s σ h b → T (is_holder s σ.objects h)
  Holds-holder p = go (Reaches-holder p.reaches)
    where
      go : (h ≡ main_holder) ⊎ T (is_resource s σ.objects h) → T (is_holder s σ.objects h)
      go (inl e) = or_left (eqb h main_holder) (is_resource s σ.objects h) (true→T (eqb h main_holder) (eq-eqb h main_holder e))
      go (inr t) = or_right (eqb h main_holder) (is_resource s σ.objects h) t

  slots_reach : In b (held_slots c s σ h) → Reaches c s σ h b
  slots_reach i = go (slots_if_at s σ.objects (top_holder s σ) h b (c.top σ.top) (slots_of c.waiting s σ.objects h σ.below) i)
    where
      go : ((top_holder s σ ≡ h) × In b (c.top σ.top)) ⊎ In b (slots_of c.waiting s σ.objects h σ.below) → Reaches c s σ h b
      go (inl (e, j)) = by_top e j
      go (inr j) = by_slot (slots_of_at s σ.objects c.waiting h b σ.below j)

  pub Holds-is : T (holds_by c s σ h b) → Holds c s σ h b
  unfolding holds_by reached_by
  Holds-is t =
      record {
        resource = and_left (is_resource s os b) (contains (reached_by c s σ h) b) t;
        reaches = go (eqb h main_holder) (is_resource s os h) refl (contains-In (reached_by c s σ h) b (and_right (is_resource s os b) (contains (reached_by c s σ h) b) t));
      }
    where
      os : List Object
      os = σ.objects

      go : (m r : Bool) → is_resource s os h ≡ r → In b (cond m (held_slots c s σ h) (cond r (own_values c s h (object_at os h) ++ held_slots c s σ h) [])) → Reaches c s σ h b
      go true r e i = slots_reach i
      go false false e i = absurd (In-nil i)
      go false true e i = pick (In-cases (own_values c s h (object_at os h)) (held_slots c s σ h) i)
        where
          pick : In b (own_values c s h (object_at os h)) ⊎ In b (held_slots c s σ h) → Reaches c s σ h b
          pick (inl j) = by_own (true→T (is_resource s os h) e) j
          pick (inr j) = slots_reach j

  pub is_holds : length σ.objects ≤ store_limit → Holds c s σ h b → T (holds_by c s σ h b)
  unfolding holds_by reached_by
  is_holds few p =
      and_intro (is_resource s os b) (contains (reached_by c s σ h) b) p.resource (In-contains (reached_by c s σ h) b (go p.reaches))
    where
      os : List Object
      os = σ.objects

      slots : List ℕ
      slots = held_slots c s σ h

      own : List ℕ
      own = own_values c s h (object_at os h)

      -- what a resource reaches: its own and its slots
      resource : T (is_resource s os h) → In b (own ++ slots) → In b (cond (eqb h main_holder) slots (cond (is_resource s os h) (own ++ slots) []))
      resource t i =
          let l : h < length os = resource_made s os h t in
          let m : eqb h main_holder ≡ false = ne_eqb h main_holder (λ e. omega arith) in
          subst (λ (x : Bool). In b (cond x slots (cond (is_resource s os h) (own ++ slots) []))) (sym m)
          (subst (λ (x : Bool). In b (cond x (own ++ slots) [])) (sym (T→true (is_resource s os h) t)) i)

      -- what main or a resource reaches by its slots
      slot : (h ≡ main_holder) ⊎ T (is_resource s os h) → In b slots → In b (cond (eqb h main_holder) slots (cond (is_resource s os h) (own ++ slots) []))
      slot (inl e) i = subst (λ (x : Bool). In b (cond x slots (cond (is_resource s os h) (own ++ slots) []))) (sym (eq-eqb h main_holder e)) i
      slot (inr t) i = resource t (In-right own slots i)

      go : Reaches c s σ h b → In b (cond (eqb h main_holder) slots (cond (is_resource s os h) (own ++ slots) []))
      go (by_own t i) = resource t (In-left own slots i)
      go (by_top e i) = slot (Reaches-holder (by_top e i)) (slots_if_from s os (top_holder s σ) h b (c.top σ.top) (slots_of c.waiting s os h σ.below) e i)
      go (by_slot q) =
          slot (Reaches-holder (by_slot q))
          (In-right (slots_if (eqb (top_holder s σ) h) (c.top σ.top)) (slots_of c.waiting s os h σ.below) (slots_of_from s os c.waiting h b σ.below q))
