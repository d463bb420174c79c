-- An object's own values by the numbers of the buffer: how many fields it has, and what is marked of it. Assumes nothing.
use Prim.Native.Nat.{ℕ, suc, ◌+◌, ◌≤◌, ◌<◌}
use native.Mathlib.Omega.{arith}
use mathlib.Core.Path.{◌≡◌, refl, sym, ap, ◌∙◌, subst}
use mathlib.Core.List.{List, [], ◌∷◌, ◌++◌}
use lib.Dec.{eqb}
use lib.ListN.{length, get_or, take}
use lib.Seq.{take-length}
use Rattle.std.proofs.lemmas.List.{take_more}
use Rattle.lists.specs.Tab.{tab}
use Rattle.lists.specs.AtPlaces.{at_places}
use Rattle.lists.proofs.TabLaws.{tab_ext, length-tab, get_or-tab}
use Rattle.lists.proofs.AtPlacesLaws.{places_same}
use Rattle.sheet_rules.specs.declared.Member.{Member}
use Rattle.sheet_rules.specs.declared.Member.TheVariants.{Method, Field}
use Rattle.sheet_rules.specs.Sheet.{Sheet, no_member, row_at, form_at, form_names}
use Rattle.machine_rules.specs.State.{Object, no_object, object_at}
use Rattle.machine_rules.specs.Sound.{field_rows}
use Rattle.authority_rules.specs.Counted.{named_kept, usable}
use Rattle.authority_rules.specs.Authority.{own_values}
use Rattle.table.specs.Layout.{object_address, state_end, code_notes_at, form_notes_address, work_size, kept_address, field_address}
use Rattle.table.specs.View.{cell, sheet_in}
use Rattle.table.specs.Whole.{Whole}
use Rattle.machine_places.specs.Placed.{fields_after}
use Rattle.machine_state.specs.Held.{kept_count, field_count, object_in, objects_in}
use Rattle.slot_notes.specs.Noted.{is_noted, FormsNoted}
use Rattle.slot_notes.proofs.FormNoteLaws.{form_small}
use Rattle.authority_marks.specs.Marked.{Added, numbers_from, noted_from, Small}
use Rattle.authority_marks.proofs.MarkLaws.{Added-after}
use Rattle.authority.specs.Laid.{Stored, OwnSmall}

-- HOW MANY FIELDS

fields_snoc : (ms : List Member) (m : Member) → length (field_rows (ms ++ (m ∷ []))) ≡ fields_after m (length (field_rows ms))
unfolding field_rows
fields_snoc [] (Method k a r) = refl
fields_snoc [] (Field k r) = refl
fields_snoc (Method k a r ∷ ms) m = fields_snoc ms m
fields_snoc (Field k r ∷ ms) (Method j a q) = ap suc (fields_snoc ms (Method j a q))
fields_snoc (Field k r ∷ ms) (Field j q) = let e = fields_snoc ms (Field j q) in omega arith

-- the loop over a row's members has counted `fields` fields
pub record Counting (ms : List Member) (fields j : ℕ) : Type 0 where
  pub counted : fields ≡ length (field_rows (take j ms))
  pub few : fields ≤ j

pub Counting-start : (ms : List Member) → Counting ms 0 0
unfolding field_rows
Counting-start ms = record { counted = refl; few = omega arith }

pub Counting-next : (ms : List Member) (fields j : ℕ) → j < length ms → Counting ms fields j → (m : Member) → m ≡ get_or ms j no_member → (r : ℕ) → r ≡ fields_after m fields → Counting ms r (j + 1)
Counting-next ms fields j l c m em r er =
    record {
      counted =
          er
          ∙ (λ i. fields_after (em i) (c.counted i))
          ∙ sym (ap (λ (xs : List Member). length (field_rows xs)) (take_more ms j no_member l) ∙ fields_snoc (take j ms) (get_or ms j no_member));
      few = few m er;
    }
  where
    few : (x : Member) → r ≡ fields_after x fields → r ≤ j + 1
    few (Method k a q) e = omega (arith, c.few)
    few (Field k q) e = omega (arith, c.few)

pub Counting-end : (s : Sheet) (form row : ℕ) → row ≡ (form_at s form).row → (fields j : ℕ) → Counting (row_at s.rows row).members fields j → j ≡ length (row_at s.rows row).members → j ≤ 8
    → (fields ≡ field_count s form) × (fields ≤ 8)
Counting-end s form row er fields j c e few =
    let ms = (row_at s.rows row).members in (
      c.counted ∙ ap (λ (xs : List Member). length (field_rows xs)) (ap (λ (n : ℕ). take n ms) e ∙ take-length ms) ∙ ap (λ (x : ℕ). length (field_rows (row_at s.rows x).members)) er,
      omega (arith, c.few),
    )

-- the same of the buffer that the sheet was read in
pub fields_of : {v w : List ℕ} (form : ℕ) {fields : ℕ} → v ≡ w → (fields ≡ field_count (sheet_in v) form) × (fields ≤ 8) → (fields ≡ field_count (sheet_in w) form) × (fields ≤ 8)
fields_of form e p = (p.0 ∙ ap (λ (x : List ℕ). field_count (sheet_in x) form) e, p.1)

-- WHAT IS MARKED

-- an object's form is there
module _ {w : List ℕ} {n : ℕ} (s : Stored w n) {h : ℕ} (l : h < n) {form : ℕ} (ef : form ≡ cell w (object_address h)) where
  pub own_form : Whole w × (form < length (sheet_in w).forms)
  own_form = (s.whole, subst (λ (x : ℕ). x < length (sheet_in w).forms) (sym ef) (s.forms h l))

  pub own_form_small : form < 64
  own_form_small = form_small s.whole own_form.1

module _ {w : List ℕ} {n : ℕ} (s : Stored w n) {h : ℕ} (l : h < n) (own : OwnSmall w h) (noted : FormsNoted w) {form : ℕ} (ef : form ≡ cell w (object_address h))
    {kept : ℕ} (ek : (kept ≡ kept_count (sheet_in w) form) × (kept ≤ 8)) {fields : ℕ} (el : (fields ≡ field_count (sheet_in w) form) × (fields ≤ 8)) where
  pub own_small : h < 256
  own_small = omega (arith, s.few)

  object_is : object_at (objects_in (sheet_in w) w n) h ≡ object_in (sheet_in w) w h
  object_is = get_or-tab (object_in (sheet_in w) w) n h no_object l

  -- the object's kept values begin at oa, its fields at oa₂, and its form's notes at fa
  module _ {w₁ : List ℕ} (a₁ : Added w (h ∷ []) w₁) {oa : ℕ} (at : oa ≡ kept_address h 0) {fa : ℕ} (af : (fa ≡ form_notes_address form) × (fa ≤ 30544)) where
    kept_place : (i : ℕ) → i < kept → cell w₁ (oa + i) ≡ cell w (kept_address h i)
    kept_place i k =
        let p : oa + i ≡ kept_address h i = omega (arith, own_small, ek.1) in
        a₁.only.below (oa + i) (omega (arith, own_small, ek.1)) ∙ ap (cell w) p

    pub kept_asks : (oa + kept ≤ state_end) × Small w₁ oa kept × (code_notes_at ≤ fa + 2) × (fa + 2 + kept ≤ work_size) × (work_size ≤ length w₁)
    kept_asks = (
      omega (arith, own_small, ek.1),
      λ i k. subst (λ (x : ℕ). x < 256) (sym (kept_place i k)) (own.kept i (omega (arith, ek.0, ap (kept_count (sheet_in w)) ef))),
      omega (arith, af.0),
      omega (arith, af.1, ek.1),
      omega (arith, a₁.only.size, s.whole.size),
    )

    -- the note of kept value i tells whether some body names its slot
    noted_is : (i : ℕ) → i < kept → is_noted w₁ (fa + 2) i ≡ form_names (form_at (sheet_in w) form) (2 + i)
    noted_is i k =
        let p : fa + 2 + i ≡ form_notes_address form + (2 + i) = omega (arith, af.0) in
        ap (λ (x : ℕ). eqb x 1) (a₁.only.above (fa + 2 + i) (omega (arith, af.0)) ∙ ap (cell w) p)
        ∙ noted form (2 + i) (own_form s l ef).1 (omega (arith, ek.1))

    kept_are : noted_from w₁ oa (fa + 2) kept ≡ named_kept (sheet_in w) (object_at (objects_in (sheet_in w) w n) h)
    unfolding object_in
    kept_are =
        places_same (is_noted w₁ (fa + 2)) (λ i. form_names (form_at (sheet_in w) form) (2 + i)) (numbers_from w₁ oa kept)
        (λ i k. noted_is i (omega (arith, length-tab (λ j. cell w₁ (oa + j)) kept)))
        ∙ ap (at_places (λ i. form_names (form_at (sheet_in w) form) (2 + i)))
        (tab_ext (λ i. cell w₁ (oa + i)) (λ i. cell w (kept_address h i)) kept kept_place
        ∙ ap (λ (m : ℕ). tab (λ i. cell w (kept_address h i)) m) (ek.0 ∙ ap (kept_count (sheet_in w)) ef))
        ∙ ap (λ (x : ℕ). at_places (λ i. form_names (form_at (sheet_in w) x) (2 + i)) (tab (λ i. cell w (kept_address h i)) (kept_count (sheet_in w) (cell w (object_address h))))) ef
        ∙ sym (ap (named_kept (sheet_in w)) object_is)

    module _ {w₂ : List ℕ} (a₂ : Added w₁ (noted_from w₁ oa (fa + 2) kept) w₂) {oa₂ : ℕ} (from : oa₂ ≡ field_address h 0) where
      field_place : (i : ℕ) → i < fields → cell w₂ (oa₂ + i) ≡ cell w (field_address h i)
      field_place i k =
          let p : oa₂ + i ≡ field_address h i = omega (arith, own_small, el.1) in
          let u : oa₂ + i < state_end = omega (arith, own_small, el.1) in
          a₂.only.below (oa₂ + i) u ∙ a₁.only.below (oa₂ + i) u ∙ ap (cell w) p

      pub fields_asks : (oa₂ + fields ≤ state_end) × Small w₂ oa₂ fields × (work_size ≤ length w₂)
      fields_asks = (
        omega (arith, own_small, el.1),
        λ i k. subst (λ (x : ℕ). x < 256) (sym (field_place i k)) (own.fields i (omega (arith, el.0, ap (field_count (sheet_in w)) ef))),
        omega (arith, a₂.only.size, a₁.only.size, s.whole.size),
      )

      fields_are : numbers_from w₂ oa₂ fields ≡ (object_at (objects_in (sheet_in w) w n) h).fields
      unfolding object_in
      fields_are =
          tab_ext (λ i. cell w₂ (oa₂ + i)) (λ i. cell w (field_address h i)) fields field_place
          ∙ ap (λ (m : ℕ). tab (λ i. cell w (field_address h i)) m) (el.0 ∙ ap (field_count (sheet_in w)) ef)
          ∙ sym (ap (λ (x : Object). x.fields) object_is)

      pub own_marked : {w₃ : List ℕ} → Added w₂ (numbers_from w₂ oa₂ fields) w₃ → Added w (own_values usable (sheet_in w) h (object_at (objects_in (sheet_in w) w n) h)) w₃
      own_marked {w₃} a₃ =
          subst (λ (xs : List ℕ). Added w xs w₃) (λ i. h ∷ (kept_are i ++ fields_are i))
          (Added-after w w₂ w₃ (h ∷ noted_from w₁ oa (fa + 2) kept) (numbers_from w₂ oa₂ fields)
          (Added-after w w₁ w₂ (h ∷ []) (noted_from w₁ oa (fa + 2) kept) a₁ a₂) a₃)
