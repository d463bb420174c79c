-- Resources, holders of frames, and the slots that a frame adds, by the numbers of the buffer. Assumes nothing.
use Prim.Native.Nat.{ℕ, suc, ◌+◌, ◌-◌, ◌≤◌, ◌<◌}
use native.Mathlib.Omega.{arith}
use mathlib.Core.Path.{◌≡◌, refl, sym, ap, ◌∙◌, subst}
use mathlib.Core.Bool.{Bool, true, false, cond, ◌&&◌, ◌||◌}
use mathlib.Core.List.{List, [], ◌∷◌}
use lib.Dec.{eqb}
use lib.ListN.{length}
use borrow.Author.Tests.{lt-ltb, le-ltb, eq-eqb, ne_eqb}
use Rattle.lists.specs.Tab.{tab}
use Rattle.lists.specs.AtPlaces.{at_places}
use Rattle.lists.proofs.TabLaws.{length-tab, get_or-tab, tab-suc, tab_ext}
use Rattle.lists.proofs.AtPlacesLaws.{places_same, places_none, places_last}
use Rattle.sheet_rules.specs.declared.Kind.{Kind}
use Rattle.sheet_rules.specs.declared.Kind.TheVariants.{Pure, Resource}
use Rattle.sheet_rules.specs.Sheet.{form_at, row_at, row_of_form, code_names}
use Rattle.machine_rules.specs.State.{Object, Frame, no_object, object_at}
use Rattle.authority_rules.specs.Counted.{is_last, top_slots, waiting_slots}
use Rattle.authority_rules.specs.Authority.{main_holder, is_resource_kind, is_resource, frame_holder, slots_if}
use Rattle.table.specs.Layout.{object_address, state_end, code_notes_at, work_size, slot_address}
use Rattle.table.specs.View.{cell, instr_in, instrs_in, sheet_in}
use Rattle.machine_state.specs.declared.Top.{Top}
use Rattle.machine_state.specs.Held.{object_in, objects_in, slots_in, own_from, frame_from}
use Rattle.slot_notes.specs.Noted.{is_noted, CodeNoted}
use Rattle.authority_marks.specs.Marked.{Added, numbers_from, noted_from, Small}
use Rattle.authority_marks.proofs.MarkLaws.{Added-none, Added-or, Added-noted}
use Rattle.authority.specs.Laid.{Stored, Slots, FrameMarked, last_slot, TopMarked}
use Rattle.authority.proofs.BelowLaws.{marks_frame, marks_slots}

pub not_resource : (k : Kind) → (k ≡ Resource → ⊥) → false ≡ is_resource_kind k
not_resource Pure d = refl
not_resource Resource d = absurd (d refl)

module _ {w : List ℕ} {n : ℕ} (s : Stored w n) where
  -- a number that no object has
  pub resource_missing : (o : ℕ) → n ≤ o → false ≡ is_resource (sheet_in w) (objects_in (sheet_in w) w n) o
  unfolding is_resource
  resource_missing o h =
      let l : length (objects_in (sheet_in w) w n) ≡ n = length-tab (object_in (sheet_in w) w) n in
      sym (ap (λ (b : Bool). b && is_resource_kind (row_of_form (sheet_in w) (object_at (objects_in (sheet_in w) w n) o).form).kind) (le-ltb o (length (objects_in (sheet_in w) w n)) (omega arith)))

  pub object_small : (o : ℕ) → o < n → o < 256
  object_small o h = omega (arith, s.few)

  -- the kind of an object's row
  pub resource_there : (o : ℕ) → o < n → {v : List ℕ} → v ≡ w → {f : ℕ} → f ≡ cell w (object_address o) → {r : ℕ} → r ≡ (form_at (sheet_in v) f).row → {q : ℕ} → q ≡ r → {k : Kind} → k ≡ (row_at (sheet_in v).rows q).kind
      → is_resource_kind k ≡ is_resource (sheet_in w) (objects_in (sheet_in w) w n) o
  unfolding is_resource object_in
  resource_there o h ev {f} ef {r} er {q} eq ek =
      let l : length (objects_in (sheet_in w) w n) ≡ n = length-tab (object_in (sheet_in w) w) n in
      let form : f ≡ (object_at (objects_in (sheet_in w) w n) o).form = ef ∙ sym (ap (λ (x : Object). x.form) (get_or-tab (object_in (sheet_in w) w) n o no_object h)) in
      ap is_resource_kind (ek ∙ ap (λ (x : List ℕ). (row_at (sheet_in x).rows q).kind) ev
      ∙ ap (λ (x : ℕ). (row_at (sheet_in w).rows x).kind) (eq ∙ er ∙ ap (λ (x : List ℕ). (form_at (sheet_in x) f).row) ev ∙ ap (λ (x : ℕ). (form_at (sheet_in w) x).row) form))
      ∙ sym (ap (λ (b : Bool). b && is_resource_kind (row_of_form (sheet_in w) (object_at (objects_in (sheet_in w) w n) o).form).kind) (lt-ltb o (length (objects_in (sheet_in w) w n)) (omega arith)))

  -- main is a holder; any other number is one if it is a resource

  pub holder_main : (h : ℕ) → h ≡ 256 → true ≡ (eqb h main_holder || is_resource (sheet_in w) (objects_in (sheet_in w) w n) h)
  holder_main h e = sym (ap (λ (b : Bool). b || is_resource (sheet_in w) (objects_in (sheet_in w) w n) h) (eq-eqb h 256 e))

  pub holder_object : (h : ℕ) → (h ≡ 256 → ⊥) → {b : Bool} → b ≡ is_resource (sheet_in w) (objects_in (sheet_in w) w n) h
      → b ≡ (eqb h main_holder || is_resource (sheet_in w) (objects_in (sheet_in w) w n) h)
  holder_object h d {b} e = e ∙ sym (ap (λ (x : Bool). x || is_resource (sheet_in w) (objects_in (sheet_in w) w n) h) (ne_eqb h 256 d))

  -- whose a frame is

  pub main_holds : (own beneath : ℕ) → own ≡ 0 → 256 ≡ frame_holder (sheet_in w) (objects_in (sheet_in w) w n) (own_from own) beneath
  main_holds own beneath e = ap (λ (x : ℕ). frame_holder (sheet_in w) (objects_in (sheet_in w) w n) (own_from x) beneath) (sym e)

  object_frame : (own beneath : ℕ) (b : Bool) → (own ≡ 0 → ⊥) → b ≡ is_resource (sheet_in w) (objects_in (sheet_in w) w n) (own - 1)
      → frame_holder (sheet_in w) (objects_in (sheet_in w) w n) (own_from own) beneath ≡ cond b (own - 1) beneath
  object_frame own beneath b d e =
      let p : own ≡ suc (own - 1) = omega arith in
      ap (λ (x : ℕ). frame_holder (sheet_in w) (objects_in (sheet_in w) w n) (own_from x) beneath) p
      ∙ ap (λ (t : Bool). cond t (own - 1) beneath) (sym e)

  pub resource_holds : (own beneath : ℕ) {b : Bool} → (own ≡ 0 → ⊥) → b ≡ is_resource (sheet_in w) (objects_in (sheet_in w) w n) (own - 1) → b ≡ true
      → own - 1 ≡ frame_holder (sheet_in w) (objects_in (sheet_in w) w n) (own_from own) beneath
  resource_holds own beneath {b} d e t = sym (object_frame own beneath b d e ∙ ap (λ (x : Bool). cond x (own - 1) beneath) t)

  pub beneath_holds : (own beneath : ℕ) {b : Bool} → (own ≡ 0 → ⊥) → b ≡ is_resource (sheet_in w) (objects_in (sheet_in w) w n) (own - 1) → b ≡ false
      → beneath ≡ frame_holder (sheet_in w) (objects_in (sheet_in w) w n) (own_from own) beneath
  beneath_holds own beneath {b} d e t = sym (object_frame own beneath b d e ∙ ap (λ (x : Bool). cond x (own - 1) beneath) t)

  -- the slots that a frame adds

  module _ (f : ℕ) (t : Top) (beneath h : ℕ) {r : ℕ} (holder : r ≡ frame_holder (sheet_in w) (objects_in (sheet_in w) w n) (own_from t.own) beneath) where
    pub frame_other : (r ≡ h → ⊥) → FrameMarked w n f t beneath h w r
    frame_other d =
        record { holder = holder; marked = subst (λ (b : Bool). Added w (slots_if b (waiting_slots (frame_from w f t))) w) (sym (ne_eqb r h d)) (Added-none w) }

    -- the slots that its code names are noted in w₁, and its slots begin at `at`
    module _ (small : f < 64) (slots : Slots w f t.filled) {w₁ : List ℕ} (noted : CodeNoted w (instrs_in w t.next (t.end - t.next)) w₁) {at : ℕ} (e : at ≡ slot_address f 0) where
      place : (v : ℕ) → v < t.filled → cell w₁ (at + v) ≡ cell w (slot_address f v)
      place v k = let p : at + v ≡ slot_address f v = omega (arith, slots.few) in noted.only.below (at + v) (omega (arith, slots.few)) ∙ ap (cell w) p

      pub frame_asks : (at + t.filled ≤ state_end) × Small w₁ at t.filled × (code_notes_at ≤ 27728) × (27728 + t.filled ≤ work_size) × (work_size ≤ length w₁)
      frame_asks = (
        omega (arith, slots.few),
        λ v k. subst (λ (x : ℕ). x < 256) (sym (place v k)) (slots.small v k),
        omega arith,
        omega (arith, slots.few),
        omega (arith, noted.only.size, s.whole.size),
      )

      noted_are : noted_from w₁ at code_notes_at t.filled ≡ waiting_slots (frame_from w f t)
      noted_are =
          places_same (is_noted w₁ code_notes_at) (code_names (instrs_in w t.next (t.end - t.next))) (numbers_from w₁ at t.filled)
          (λ v l. noted.told v (omega (arith, slots.few, length-tab (λ x. cell w₁ (at + x)) t.filled)))
          ∙ ap (at_places (code_names (instrs_in w t.next (t.end - t.next)))) (tab_ext (λ v. cell w₁ (at + v)) (λ v. cell w (slot_address f v)) t.filled place)

      pub frame_own : r ≡ h → {w' : List ℕ} → Added w₁ (noted_from w₁ at 27728 t.filled) w' → FrameMarked w n f t beneath h w' r
      frame_own same {w'} a =
          record {
            holder = holder;
            marked =
                subst (λ (b : Bool). Added w (slots_if b (waiting_slots (frame_from w f t))) w') (sym (eq-eqb r h same))
                (subst (λ (xs : List ℕ). Added w xs w') noted_are (Added-noted noted.only a));
          }

-- THE LAST SLOT

module _ (w : List ℕ) (f : ℕ) (t : Top) where
  -- slot v is the last one of a frame, by its numbers
  last_is : (v : ℕ) → is_last (frame_from w f t) v ≡ eqb (suc v) (t.filled + (t.end - t.next))
  last_is v i = eqb (suc v) (length-tab (λ x. cell w (slot_address f x)) t.filled i + length-tab (λ k. instr_in w (t.next + k)) (t.end - t.next) i)

  not_last : (v : ℕ) → (suc v ≡ t.filled + (t.end - t.next) → ⊥) → is_last (frame_from w f t) v ≡ false
  not_last v d = last_is v ∙ ne_eqb (suc v) (t.filled + (t.end - t.next)) d

  -- an instruction is left: it is not filled
  pub last_left : t.next < t.end → Added w (last_slot w f t) w
  last_left l =
      subst (λ (xs : List ℕ). Added w xs w)
      (sym (places_none (is_last (frame_from w f t)) (slots_in w f t.filled) (λ v k. not_last v (λ e. omega (arith, length-tab (λ x. cell w (slot_address f x)) t.filled)))))
      (Added-none w)

  -- no slot is filled
  pub last_none : t.filled ≡ 0 → Added w (last_slot w f t) w
  unfolding tab at_places
  last_none e = subst (λ (n : ℕ). Added w (at_places (is_last (frame_from w f t)) (slots_in w f n)) w) (sym e) (Added-none w)

  module _ (few : t.filled ≤ 42) (end : t.end ≤ t.next) (some : t.filled ≡ 0 → ⊥) where
    last_one : last_slot w f t ≡ cell w (slot_address f (t.filled - 1)) ∷ []
    last_one =
        let e : t.filled ≡ suc (t.filled - 1) = omega arith in
        let n : length (slots_in w f (t.filled - 1)) ≡ t.filled - 1 = length-tab (λ x. cell w (slot_address f x)) (t.filled - 1) in
        ap (at_places (is_last (frame_from w f t))) (ap (slots_in w f) e ∙ tab-suc (λ x. cell w (slot_address f x)) (t.filled - 1))
        ∙ places_last (is_last (frame_from w f t)) (slots_in w f (t.filled - 1)) (cell w (slot_address f (t.filled - 1)))
        (λ v k. not_last v (λ q. omega arith))
        (last_is (length (slots_in w f (t.filled - 1))) ∙ eq-eqb (suc (length (slots_in w f (t.filled - 1)))) (t.filled + (t.end - t.next)) (omega arith))

    pub last_marked : {v u : ℕ} → v ≡ cell w (slot_address f (t.filled - 1)) → u ≡ v → {w' : List ℕ} → Added w (u ∷ []) w' → Added w (last_slot w f t) w'
    last_marked ev eu {w'} a = subst (λ (xs : List ℕ). Added w xs w') (ap (λ (x : ℕ). x ∷ []) (eu ∙ ev) ∙ sym last_one) a

-- THE TOP FRAME

module _ {w : List ℕ} {n : ℕ} {f : ℕ} {t : Top} {beneath h : ℕ} {w₁ : List ℕ} {r : ℕ} (m : FrameMarked w n f t beneath h w₁ r) where
  pub top_other : (r ≡ h → ⊥) → TopMarked w n f t beneath h w₁
  top_other d =
      subst (λ (x : ℕ). Added w (slots_if (eqb x h) (top_slots (frame_from w f t))) w₁) m.holder
      (subst (λ (b : Bool). Added w (slots_if b (top_slots (frame_from w f t))) w₁) (sym (ne_eqb r h d))
      (subst (λ (b : Bool). Added w (slots_if b (waiting_slots (frame_from w f t))) w₁) (ne_eqb r h d) m.marked))

  pub top_asks : Stored w n → f < 64 → Slots w f t.filled → (f < 64) × Slots w₁ f t.filled × (work_size ≤ length w₁)
  top_asks s l slots = (l, marks_slots w w₁ m.marked.only f t.filled slots, omega (arith, m.marked.only.size, s.whole.size))

  pub top_own : r ≡ h → {w₂ : List ℕ} → Added w₁ (last_slot w₁ f t) w₂ → TopMarked w n f t beneath h w₂
  top_own e {w₂} a =
      subst (λ (x : ℕ). Added w (slots_if (eqb x h) (top_slots (frame_from w f t))) w₂) m.holder
      (subst (λ (b : Bool). Added w (slots_if b (top_slots (frame_from w f t))) w₂) (sym (eq-eqb r h e))
      (Added-or (code_names (instrs_in w t.next (t.end - t.next))) (is_last (frame_from w f t)) (slots_in w f t.filled)
      (subst (λ (b : Bool). Added w (slots_if b (waiting_slots (frame_from w f t))) w₁) (eq-eqb r h e) m.marked)
      (subst (λ (x : Frame). Added w₁ (at_places (is_last x) x.slots) w₂) (marks_frame w w₁ m.marked.only f t) a)))
