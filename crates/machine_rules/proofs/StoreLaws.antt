-- Laws of the store: what an object is stays so while the store grows, and new and changed objects are sound. Assumes nothing.
use Prim.Native.Nat.{ℕ, suc, ◌+◌, ◌≤◌, ◌<◌}
use native.Mathlib.Omega.{arith}
use native.Mathlib.Decide.{dec_le, ℕ_discrete}
use mathlib.Core.Path.{◌≡◌, refl, sym, ap, ◌∙◌, subst}
use mathlib.Core.List.{List, [], ◌∷◌, ◌++◌}
use mathlib.Core.Option.{Option}
use lib.Dec.{T}
use lib.ListN.{length, get_or, set, length-append, length-set, get_or-append}
use lib.Seq.{get_or_at, get_or-set_same, get_or-set_other}
use Rattle.lists.specs.In.{In, here, there}
use Rattle.lists.specs.Pairwise.{Pairwise, pair}
use Rattle.lists.proofs.PairwiseLaws.{Pairwise-length, Pairwise-map, Pairwise-at}
use Rattle.sheet_rules.specs.declared.Member.{Member}
use Rattle.sheet_rules.specs.Sheet.{Part, Form, Sheet, form_at}
use Rattle.type_rules.specs.Fit.{fits}
use Rattle.type_rules.specs.SlotRows.{Own}
use Rattle.type_rules.specs.Typed.{SlotFits, PartTyped, typed_init, typed_body}
use Rattle.type_rules.proofs.FitLaws.{fits_trans}
use Rattle.machine_rules.specs.State.{Object, Frame, no_object, object_at, initial_fields}
use Rattle.machine_rules.specs.Step.{slot_values}
use Rattle.machine_rules.specs.Sound.{row_of_object, Is, field_rows, SoundObject, Receives, main, object, SoundFrame, SoundBelow, bottom, waits}

-- the store grows: objects stay, each with its form
pub record Grows (os os' : List Object) : Type 0 where
  pub more : length os ≤ length os'
  pub same : (o : ℕ) → o < length os → (object_at os' o).form ≡ (object_at os o).form

pub Grows-refl : (os : List Object) → Grows os os
Grows-refl os = record { more = omega arith; same = λ o h. refl }

pub Grows-append : (os : List Object) (x : Object) → Grows os (os ++ (x ∷ []))
Grows-append os x =
    record { more = rw length-append (omega arith); same = λ o h. ap (λ (y : Object). y.form) (get_or-append os (x ∷ []) no_object o h) }

pub Grows-set : (os : List Object) (i : ℕ) (x : Object) → x.form ≡ (object_at os i).form → Grows os (set os i x)
Grows-set os i x e = record { more = rw length-set (omega arith); same = λ o h. go o h (ℕ_discrete o i) }
  where
    go : (o : ℕ) → o < length os → Dec (o ≡ i) → (object_at (set os i x) o).form ≡ (object_at os o).form
    go o h (yes p) =
        let k : i < length os = omega arith in
        subst (λ (j : ℕ). (object_at (set os i x) j).form ≡ (object_at os j).form) (sym p) (ap (λ (y : Object). y.form) (get_or-set_same os i x no_object k) ∙ e)
    go o h (no p) = ap (λ (y : Object). y.form) (get_or-set_other os i o x no_object p)

-- THE STORE GROWS

module _ (s : Sheet) (os os' : List Object) (g : Grows os os') where
  row_grows : (o : ℕ) → o < length os → row_of_object s os o ≡ row_of_object s os' o
  row_grows o h = ap (λ (f : ℕ). (form_at s f).row) (sym (g.same o h))

  pub Is-grows : (o a : ℕ) → Is s os o a → Is s os' o a
  Is-grows o a i = record { made = omega (arith, i.made, g.more); fit = subst (λ (b : ℕ). T (fits s.rows b a)) (row_grows o i.made) i.fit }

  Receives-grows : {own : Option ℕ} {a result : Option ℕ} → Receives s os own a result → Receives s os' own a result
  Receives-grows main = main
  Receives-grows (object {o = o} h e) = object {o = o} (omega (arith, g.more)) (e ∙ row_grows o h)

  pub frame_grows : {f : Frame} {own : Own} {result : Option ℕ} {rows : List ℕ} → SoundFrame s os f own result rows → SoundFrame s os' f own result rows
  frame_grows f = record { receives = Receives-grows f.receives; slots = Pairwise-map Is-grows f.slots }

  pub below_grows : {result : Option ℕ} {fs : List Frame} → SoundBelow s os result fs → SoundBelow s os' result fs
  below_grows bottom = bottom
  below_grows (waits r f c l t b) = waits r (frame_grows f) c l t (below_grows b)

  pub object_grows : (x : Object) → SoundObject s os x → SoundObject s os' x
  object_grows x h = record { form = h.form; kept = Pairwise-map Is-grows h.kept; fields = Pairwise-map Is-grows h.fields }

-- every object is sound
abbrev pub SoundStore : Sheet → List Object → Type 0
SoundStore s os = (o : ℕ) → o < length os → SoundObject s os (object_at os o)

pub store_append : (s : Sheet) (os : List Object) (x : Object) → SoundStore s os → SoundObject s os x → SoundStore s (os ++ (x ∷ []))
store_append s os x all h o k = object_grows s os (os ++ (x ∷ [])) (Grows-append os x) (object_at (os ++ (x ∷ [])) o) (go (dec_le (suc o) (length os)))
  where
    l : length (os ++ (x ∷ [])) ≡ length os + 1
    l = length-append os (x ∷ [])

    go : Dec (suc o ≤ length os) → SoundObject s os (object_at (os ++ (x ∷ [])) o)
    go (yes p) = subst (SoundObject s os) (sym (get_or-append os (x ∷ []) no_object o p)) (all o p)
    go (no p) = subst (SoundObject s os) (sym (get_or_at os x [] no_object o (omega (arith, l)))) h

pub store_set : (s : Sheet) (os : List Object) (i : ℕ) (x : Object) → x.form ≡ (object_at os i).form → SoundStore s os → SoundObject s os x
    → SoundStore s (set os i x)
store_set s os i x e all h o k = object_grows s os (set os i x) (Grows-set os i x e) (object_at (set os i x) o) (go (ℕ_discrete o i))
  where
    l : length (set os i x) ≡ length os
    l = length-set os i x

    go : Dec (o ≡ i) → SoundObject s os (object_at (set os i x) o)
    go (yes p) =
        let b : i < length os = omega (arith, l) in
        subst (λ (j : ℕ). SoundObject s os (object_at (set os i x) j)) (sym p) (subst (SoundObject s os) (sym (get_or-set_same os i x no_object b)) h)
    go (no p) = subst (SoundObject s os) (sym (get_or-set_other os i o x no_object p)) (all o (omega (arith, l)))

-- SLOTS

-- what a sound list of values holds is made
pub values_made : {s : Sheet} {os : List Object} {b : ℕ} {xs rows : List ℕ} → Pairwise (Is s os) xs rows → In b xs → b < length os
values_made {os = os} (pair i p) (here e) = subst (λ (x : ℕ). x < length os) (sym e) i.made
values_made (pair i p) (there j) = values_made p j
values_made {s = s} {os = os} {b = b} Rattle.lists.specs.Pairwise.none x4 = elim x4 [ ]

module _ (s : Sheet) (os : List Object) where
  -- what fits a row also fits the rows that this row fits
  pub Is-fits : (o a b : ℕ) → Is s os o a → T (fits s.rows a b) → Is s os o b
  Is-fits o a b i t = record { made = i.made; fit = fits_trans s.rows (row_of_object s os o) a b i.fit t }

  -- the value of a filled slot fits the row of the slot
  pub slot_is : (slots rows : List ℕ) (v : ℕ) → Pairwise (Is s os) slots rows → v < length rows → Is s os (get_or slots v 0) (get_or rows v 0)
  slot_is slots rows v p h = Pairwise-at slots rows v 0 0 p (omega (arith, Pairwise-length p))

  -- the value of a slot that fits a place fits that place
  pub slot_fits : (slots rows : List ℕ) (v b : ℕ) → Pairwise (Is s os) slots rows → SlotFits s rows v b → Is s os (get_or slots v 0) b
  slot_fits slots rows v b p h = Is-fits (get_or slots v 0) (get_or rows v 0) b (slot_is slots rows v p h.filled) h.fit

  pub values_fit : (slots rows : List ℕ) (ss bs : List ℕ) → Pairwise (Is s os) slots rows → Pairwise (SlotFits s rows) ss bs
      → Pairwise (Is s os) (slot_values slots ss) bs
  values_fit slots rows [] [] p Pairwise.none = Pairwise.none
  values_fit slots rows (v ∷ ss) (b ∷ bs) p (pair h r) = pair (slot_fits slots rows v b p h) (values_fit slots rows ss bs p r)
  values_fit slots rows [] (b ∷ bs) p x4 = elim x4 [ ]
  values_fit slots rows (v ∷ ss) [] p x4 = elim x4 [ ]

  -- the fields that a new object starts with fit their rows
  pub initial_fit : (f : Form) (kept : List ℕ) → Pairwise (Is s os) kept f.keeps → {ms : List Member} {ps : List Part}
      → Pairwise (PartTyped s f) ms ps → Pairwise (Is s os) (initial_fields ps kept) (field_rows ms)
  unfolding initial_fields field_rows
  initial_fit f kept k Pairwise.none = Pairwise.none
  initial_fit f kept k (pair (typed_init {r = r} {k = i} h) p) = pair (slot_fits kept f.keeps i r k h) (initial_fit f kept k p)
  initial_fit f kept k (pair (typed_body c) p) = initial_fit f kept k p
