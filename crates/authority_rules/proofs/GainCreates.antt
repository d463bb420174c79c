-- What a creation may give: the maker gets the new object, and the new object itself and the kept values from the maker's
-- authority. Assumes nothing.
use Prim.Native.Nat.{ℕ, suc, ◌+◌, ◌≤◌, ◌<◌}
use native.Mathlib.Omega.{arith}
use native.Mathlib.Decide.{dec_le}
use mathlib.Core.Path.{◌≡◌, refl, sym, ◌∙◌, subst}
use mathlib.Core.Bool.{Bool, true, false, cond, ◌||◌}
use mathlib.Core.List.{List, [], ◌∷◌, ◌++◌}
use mathlib.Core.Logic.{◌⊎◌, inl, inr}
use lib.Dec.{T, ltb}
use lib.ListN.{length, get_or, length-append, length-map, get_or-append}
use lib.Seq.{get_or-append_seam}
use Rattle.lists.specs.In.{In, here, there}
use Rattle.lists.specs.Pairwise.{Pairwise, pair}
use Rattle.lists.proofs.InLaws.{In-cases, In-get_or}
use Rattle.lists.proofs.AtPlacesLaws.{places_in}
use Rattle.lists.proofs.PairwiseLaws.{Pairwise-length}
use Rattle.sheet_rules.specs.Limits.{store_limit}
use Rattle.sheet_rules.specs.declared.Member.{Member}
use Rattle.sheet_rules.specs.Sheet.{Instr, new, Part, Form, Sheet, no_form, form_at, code_names}
use Rattle.type_rules.specs.Typed.{SlotFits, PartTyped, typed_init, typed_body, Typed}
use Rattle.machine_rules.specs.State.{Object, State, no_object, object_at, made, initial_fields}
use Rattle.machine_rules.specs.Step.{creates, step, store_full, slot_values, with_new, new_step}
use Rattle.machine_rules.specs.Sound.{Sound}
use Rattle.machine_rules.proofs.StoreLaws.{values_made, Grows, Grows-append, SoundStore}
use Rattle.machine_rules.proofs.NextLaws.{its_step, its_store}
use Rattle.authority_rules.specs.Counted.{is_last, named_kept, usable}
use Rattle.authority_rules.specs.Authority.{is_resource, top_holder, own_values, holds}
use Rattle.authority_rules.specs.Gain.{Gain, maker, itself, endowed}
use Rattle.lists.proofs.ContainsLaws.{In-contains}
use Rattle.authority_rules.proofs.HoldingLaws.{Reaches, by_top, by_slot, by_own, resource_made, is_holds}
use Rattle.authority_rules.proofs.CountedLaws.{named_kept_lem}
use Rattle.authority_rules.proofs.StableLaws.{below_frames, slot_made, resource_same}
use Rattle.authority_rules.proofs.GainWorks.{Gains, GainsNext, top_named, Moved, filler, own_now, moved}

-- the values of some slots that are filled are those of slots among them
In-values : {s : Sheet} {b : ℕ} {rows ss bs : List ℕ} (slots : List ℕ) → Pairwise (SlotFits s rows) ss bs → In b (slot_values slots ss)
    → (v : ℕ) × In v ss × (v < length rows) × (b ≡ get_or slots v 0)
In-values slots (pair {x = v} f p) (here e) = (v, here refl, f.filled, e)
In-values slots (pair f p) (there i) = let q = In-values slots p i in (q.0, there q.1, q.2, q.3)
In-values {s = s} {b = b} {rows = rows} slots Rattle.lists.specs.Pairwise.none x4 = elim x4 [ ]

-- the fields that an object starts with are kept values
In-initial : {s : Sheet} {f : Form} {b : ℕ} {ms : List Member} {ps : List Part} (kept : List ℕ) → length kept ≡ length f.keeps
    → Pairwise (PartTyped s f) ms ps → In b (initial_fields ps kept) → In b kept
unfolding initial_fields
In-initial kept l (pair (typed_init {k = k} h) p) (here e) = subst (λ (y : ℕ). In y kept) (sym e) (In-get_or kept k 0 (omega (arith, h.filled)))
In-initial kept l (pair (typed_init h) p) (there i) = In-initial kept l p i
In-initial kept l (pair (typed_body h) p) i = In-initial kept l p i
In-initial {s = s} {f = f} {b = b} kept l Rattle.lists.specs.Pairwise.none i = elim i [ ]

-- what is an object's own is made
own_made : (s : Sheet) (os : List Object) → SoundStore s os → (h b : ℕ) → h < length os → In b (own_values usable s h (object_at os h)) → b < length os
own_made s os all h b l (here e) = omega arith
own_made s os all h b l (there i) = go (In-cases (named_kept s (object_at os h)) (object_at os h).fields i)
  where
    go : In b (named_kept s (object_at os h)) ⊎ In b (object_at os h).fields → b < length os
    go (inl j) = values_made (all h l).kept (named_kept_lem s (object_at os h) j)
    go (inr j) = values_made (all h l).fields j

-- what a state's holders reach is made
Reaches-made : (s : Sheet) (σ : State) → Sound s σ → {h b : ℕ} → Reaches usable s σ h b → b < length σ.objects
Reaches-made s σ c (by_top e i) =
    values_made c.top.slots (places_in (λ v. code_names σ.top.code v || is_last σ.top v) σ.top.slots i)
Reaches-made s σ c (by_slot q) = slot_made (below_frames c.below) q
Reaches-made s σ c {h} {b} (by_own r i) = own_made s σ.objects c.store h b (resource_made s σ.objects h r) i

module _ (s : Sheet) (t : Typed s) (σ : State) (c : Sound s σ) where
  new-Gains : (is : List Instr) (f : ℕ) (ss : List ℕ) → σ.top.code ≡ new f ss ∷ is → f < length s.forms → Pairwise (SlotFits s c.rows) ss (form_at s f).keeps
      → Gains s σ (creates (length σ.objects) (slot_values σ.top.slots ss)) (with_new s σ is f (slot_values σ.top.slots ss))
  new-Gains is f ss code form fit h b p New-is = go (moved s σ c os g (new f ss) is code number p.reaches)
    where
      kept : List ℕ
      kept = slot_values σ.top.slots ss

      x : Object
      x = made s f kept

      os : List Object
      os = σ.objects ++ (x ∷ [])

      number : ℕ
      number = length σ.objects

      g : Grows σ.objects os
      g = Grows-append σ.objects x

      l : length os ≡ number + 1
      l = length-append σ.objects (x ∷ [])

      -- b was there before: it was a resource, and reached if it is reached now
      before : (o : ℕ) → o < number → T (is_resource s os o) → T (is_resource s σ.objects o)
      before o k r = subst T (resource_same s σ.objects os g o k) r

      old : Reaches usable s σ h b → Gain s σ h b (creates number kept)
      old r = absurd (New-is (record { resource = before b (Reaches-made s σ c r) p.resource; reaches = r }))

      -- a kept value comes from the maker's authority: the `new` names its slot
      held : In b kept → T (holds s σ (top_holder s σ) b)
      held i =
          let q = In-values σ.top.slots fit i in
          let r : Reaches usable s σ (top_holder s σ) b = subst (Reaches usable s σ (top_holder s σ)) (sym q.3) (top_named s σ c (new f ss) is code q.0 q.2 q.1) in
          is_holds usable s σ (top_holder s σ) b c.places (record { resource = before b (Reaches-made s σ c r) p.resource; reaches = r })

      from-maker : h ≡ number → In b kept → Gain s σ h b (creates number kept)
      from-maker e i = endowed e (In-contains kept b i) (held i)

      kept-length : length kept ≡ length (form_at s f).keeps
      kept-length = length-map ss (λ v. get_or σ.top.slots v 0) ∙ Pairwise-length fit

      -- what is the new object's own
      fresh : h ≡ number → In b (own_values usable s number x) → Gain s σ h b (creates number kept)
      fresh e (here k) = itself e k
      fresh e (there i) = pick (In-cases (named_kept s x) x.fields i)
        where
          pick : In b (named_kept s x) ⊎ In b x.fields → Gain s σ h b (creates number kept)
          pick (inl j) = from-maker e (named_kept_lem s x j)
          pick (inr j) = from-maker e (In-initial kept kept-length (t.forms (form_at s f) (In-get_or s.forms f no_form form)).parts j)

      own : T (is_resource s os h) → In b (own_values usable s h (object_at os h)) → Dec (suc h ≤ number) → Gain s σ h b (creates number kept)
      own r i (yes k) =
          old (by_own (before h k r) (subst (λ (y : Object). In b (own_values usable s h y)) (get_or-append σ.objects (x ∷ []) no_object h k) i))
      own r i (no k) =
          let e : h ≡ number = omega (arith, resource_made s os h r, l) in
          fresh e (subst (λ (y : Object). In b (own_values usable s number y)) (get_or-append_seam σ.objects x [] no_object)
          (subst (λ (y : ℕ). In b (own_values usable s y (object_at os y))) e i))

      go : Moved s σ os number h b → Gain s σ h b (creates number kept)
      go (Moved.before q) = old q
      go (filler e k) = maker e k
      go (own_now r i) = own r i (dec_le (suc h) number)

  pub new-GainsNext : (is : List Instr) (f : ℕ) (ss : List ℕ) → σ.top.code ≡ new f ss ∷ is → f < length s.forms → Pairwise (SlotFits s c.rows) ss (form_at s f).keeps
      → GainsNext s σ (new_step s σ is f (slot_values σ.top.slots ss))
  new-GainsNext is f ss code form fit = go (ltb (length σ.objects) store_limit)
    where
      kept : List ℕ
      kept = slot_values σ.top.slots ss

      go : (b : Bool) → GainsNext s σ (cond b (step (creates (length σ.objects) kept) (with_new s σ is f kept)) store_full)
      go true = its_step (new-Gains is f ss code form fit)
      go false = its_store tt
