-- All that a holder can reach, marked. Assumes nothing.
use Prim.Native.Nat.{ℕ, zero, suc, pred, ◌<◌}
use native.Mathlib.Omega.{arith}
use native.Mathlib.Decide.{ℕ_discrete}
use mathlib.Core.Path.{◌≡◌, refl, sym, ap, ◌∙◌, subst}
use mathlib.Core.Bool.{Bool, true, cond, ◌||◌}
use mathlib.Core.List.{List, [], ◌∷◌, ◌++◌}
use lib.Dec.{T, eqb}
use lib.ListN.{length, get_or}
use borrow.Author.Tests.{eq-eqb, ne_eqb}
use Rattle.lists.specs.In.{In}
use Rattle.lists.specs.Tab.{tab}
use Rattle.lists.proofs.InLaws.{In-get_or}
use Rattle.lists.proofs.Tests.{T→true}
use Rattle.lists.proofs.TabLaws.{length-tab, get_or-tab}
use Rattle.sheet_rules.specs.Sheet.{Sheet}
use Rattle.machine_rules.specs.declared.Tally.{Tally}
use Rattle.machine_rules.specs.State.{Object, State, object_at}
use Rattle.machine_rules.proofs.BoundsLaws.{BoundedObject, frame_bounded, object_bounded}
use Rattle.authority_rules.specs.Counted.{top_slots, waiting_slots, usable}
use Rattle.authority_rules.specs.Authority.{is_resource, is_holder, frame_holder, holder_of, top_holder, slots_if, slots_of, held_slots, own_values, reached_by}
use Rattle.authority_rules.proofs.HoldingLaws.{resource_made}
use Rattle.table.specs.Layout.{object_address, kept_address, field_address, slot_address}
use Rattle.table.specs.View.{cell, sheet_in}
use Rattle.machine_state.specs.declared.Top.{Top}
use Rattle.machine_state.specs.Held.{kept_count, field_count, object_in, objects_in, slots_in, own_from, frame_from, top_in, below_in, state_in}
use Rattle.table.proofs.ViewLaws.{Only-trans}
use Rattle.machine_state.proofs.HeldLaws.{objects_count, slots_count}
use Rattle.machine_steps.specs.Running.{Running}
use Rattle.machine_steps.proofs.FacingLaws.{frames_few, objects_few, object_is}
use Rattle.machine_steps.proofs.OwnLaws.{form_there}
use Rattle.slot_notes.specs.Noted.{FormsNoted}
use Rattle.slot_notes.proofs.FormNoteLaws.{FormsNoted-kept}
use Rattle.authority_marks.specs.Marked.{MarksOnly, Added}
use Rattle.authority_marks.proofs.MarkLaws.{Added-before}
use Rattle.authority.specs.Laid.{Prepared, Stored, Slots, TopMarked, Below, BelowMarked, OwnSmall}
use Rattle.authority.proofs.BelowLaws.{marks_sheet, marks_objects, marks_frame, marks_stored, marks_slots}

-- what a running state has in range

below_in_lem : (w : List ℕ) (d f : ℕ) → f < d → In (frame_from w f (top_in w f)) (below_in w d)
unfolding below_in
below_in_lem w zero f h = absurd (omega arith)
below_in_lem w (suc d) f h = go (ℕ_discrete f d) (below_in_lem w d f)
  where
    go : Dec (f ≡ d) → (f < d → In (frame_from w f (top_in w f)) (below_in w d)) → In (frame_from w f (top_in w f)) (frame_from w d (top_in w d) ∷ below_in w d)
    go (yes e) more = In.here (ap (λ (x : ℕ). frame_from w x (top_in w x)) e)
    go (no n) more = In.there (more (omega arith))

module _ (w : List ℕ) (t : Top) (k : Tally) (r : Running w t k) (o : ℕ) (h : o < k.objects) where
  kept_of : (object_at (objects_in (sheet_in w) w k.objects) o).kept ≡ tab (λ j. cell w (kept_address o j)) (kept_count (sheet_in w) (cell w (object_address o)))
  unfolding object_in
  kept_of = ap (λ (x : Object). x.kept) (object_is w t k r o h)

  fields_of : (object_at (objects_in (sheet_in w) w k.objects) o).fields ≡ tab (λ j. cell w (field_address o j)) (field_count (sheet_in w) (cell w (object_address o)))
  unfolding object_in
  fields_of = ap (λ (x : Object). x.fields) (object_is w t k r o h)

module _ (w : List ℕ) (t : Top) (k : Tally) (r : Running w t k) where
  pub run_stored : Stored w k.objects
  run_stored = record { whole = r.accepted.whole; few = objects_few w t k r; forms = λ o h. form_there w t k r o h }

  frame_slots : (f : ℕ) (x : Top) → In (frame_from w f x) (frame_from w (pred k.frames) t ∷ below_in w (pred k.frames)) → Slots w f x.filled
  frame_slots f x i =
      let b = frame_bounded (sheet_in w) r.accepted.whole.sheet (state_in (sheet_in w) w t k) r.sound (frame_from w f x) i in
      record {
        few = omega (arith, b.slots, slots_count w f x.filled);
        small = λ v h.
            (let there : get_or (slots_in w f x.filled) v 0 ≡ cell w (slot_address f v) = get_or-tab (λ j. cell w (slot_address f j)) x.filled v 0 h in
            let made = b.values (get_or (slots_in w f x.filled) v 0) (In-get_or (slots_in w f x.filled) v 0 (omega (arith, slots_count w f x.filled))) in
            omega (arith, there, made, objects_count (sheet_in w) w k.objects, objects_few w t k r));
      }

  pub run_top : Slots w (pred k.frames) t.filled
  run_top = frame_slots (pred k.frames) t (In.here refl)

  pub run_below : Below w (pred k.frames)
  run_below f h = frame_slots f (top_in w f) (In.there (below_in_lem w (pred k.frames) f h))

  pub run_own : (o : ℕ) → o < k.objects → OwnSmall w o
  run_own o h =
      record {
        kept = λ i l. value (λ (x : Object). x.kept) (λ j. cell w (kept_address o j)) (kept_count (sheet_in w) (cell w (object_address o))) kept-are (λ b q. bounds.kept_values b q) i l;
        fields = λ i l. value (λ (x : Object). x.fields) (λ j. cell w (field_address o j)) (field_count (sheet_in w) (cell w (object_address o))) fields-are (λ b q. bounds.field_values b q) i l;
      }
    where
      bounds : BoundedObject (sheet_in w) (objects_in (sheet_in w) w k.objects) (object_at (objects_in (sheet_in w) w k.objects) o)
      bounds = object_bounded (sheet_in w) r.accepted.whole.sheet (state_in (sheet_in w) w t k) r.sound o (omega (arith, objects_count (sheet_in w) w k.objects))

      kept-are : (object_at (objects_in (sheet_in w) w k.objects) o).kept ≡ tab (λ j. cell w (kept_address o j)) (kept_count (sheet_in w) (cell w (object_address o)))
      kept-are = kept_of w t k r o h

      fields-are : (object_at (objects_in (sheet_in w) w k.objects) o).fields ≡ tab (λ j. cell w (field_address o j)) (field_count (sheet_in w) (cell w (object_address o)))
      fields-are = fields_of w t k r o h

      value : (part : Object → List ℕ) (g : ℕ → ℕ) (m : ℕ) → part (object_at (objects_in (sheet_in w) w k.objects) o) ≡ tab g m
          → ((b : ℕ) → In b (part (object_at (objects_in (sheet_in w) w k.objects) o)) → b < length (objects_in (sheet_in w) w k.objects)) → (i : ℕ) → i < m → g i < 256
      value part g m e all i l =
          let there : get_or (tab g m) i 0 ≡ g i = get_or-tab g m i 0 l in
          let made = all (get_or (tab g m) i 0) (subst (In (get_or (tab g m) i 0)) (sym e) (In-get_or (tab g m) i 0 (omega (arith, length-tab g m)))) in
          omega (arith, there, made, objects_count (sheet_in w) w k.objects, objects_few w t k r)

-- WHAT IS REACHED

top_holder_lem : (w : List ℕ) (t : Top) (k : Tally)
    → frame_holder (sheet_in w) (objects_in (sheet_in w) w k.objects) (own_from t.own) (holder_of (sheet_in w) (objects_in (sheet_in w) w k.objects) (below_in w (pred k.frames)))
    ≡ top_holder (sheet_in w) (state_in (sheet_in w) w t k)
unfolding holder_of
top_holder_lem w t k = refl

reached_main : (s : Sheet) (σ : State) (h : ℕ) → h ≡ 256 → reached_by usable s σ h ≡ held_slots usable s σ h
unfolding reached_by
reached_main s σ h e =
    ap (λ (b : Bool). cond b (held_slots usable s σ h) (cond (is_resource s σ.objects h) (own_values usable s h (object_at σ.objects h) ++ held_slots usable s σ h) [])) (eq-eqb h 256 e)

reached_object : (s : Sheet) (σ : State) (h : ℕ) → (h ≡ 256 → ⊥) → is_resource s σ.objects h ≡ true → reached_by usable s σ h ≡ own_values usable s h (object_at σ.objects h) ++ held_slots usable s σ h
unfolding reached_by
reached_object s σ h d e =
    (λ i. cond (ne_eqb h 256 d i) (held_slots usable s σ h) (cond (e i) (own_values usable s h (object_at σ.objects h) ++ held_slots usable s σ h) []))

module _ {w : List ℕ} {t : Top} {k : Tally} (p : Prepared w t k) (h : ℕ) {d : ℕ} (ed : d ≡ pred k.frames) where
  d_small : d < 64
  d_small = omega (arith, frames_few w t k p.running, p.running.ending.frames)

  pub reach_below : Stored w k.objects × (d < 64) × Below w d
  reach_below = (run_stored w t k p.running, d_small, λ f l. run_below w t k p.running f (omega arith))

  module _ {w₂ : List ℕ} {b : ℕ} (m : BelowMarked w k.objects h d w₂ b) where
    only₂ : MarksOnly w w₂
    only₂ = m.marked.only

    pub reach_top : Stored w₂ k.objects × (d < 64) × Slots w₂ d t.filled
    reach_top = (
      marks_stored w w₂ only₂ k.objects (run_stored w t k p.running),
      d_small,
      marks_slots w w₂ only₂ d t.filled (subst (λ (x : ℕ). Slots w x t.filled) (sym ed) (run_top w t k p.running)),
    )

    module _ {w₃ : List ℕ} (f : TopMarked w₂ k.objects d t b h w₃) where
      only₃ : MarksOnly w w₃
      only₃ = Only-trans only₂ f.only

      holder_is : frame_holder (sheet_in w₂) (objects_in (sheet_in w₂) w₂ k.objects) (own_from t.own) b ≡ top_holder (sheet_in w) (state_in (sheet_in w) w t k)
      holder_is =
          (λ i. frame_holder (marks_sheet w w₂ only₂ i) (marks_objects w w₂ only₂ k.objects i) (own_from t.own)
          ((m.holder ∙ ap (λ (x : ℕ). holder_of (sheet_in w) (objects_in (sheet_in w) w k.objects) (below_in w x)) ed) i))
          ∙ top_holder_lem w t k

      slots_added : Added w (held_slots usable (sheet_in w) (state_in (sheet_in w) w t k) h) w₃
      slots_added =
          subst (λ (xs : List ℕ). Added w xs w₃)
          (λ i. slots_if (eqb (holder_is i) h) (top_slots ((marks_frame w w₂ only₂ d t ∙ ap (λ (x : ℕ). frame_from w x t) ed) i)) ++ slots_of waiting_slots (sheet_in w) (objects_in (sheet_in w) w k.objects) h (below_in w (ed i)))
          (Added-before w w₂ w₃ (slots_of waiting_slots (sheet_in w) (objects_in (sheet_in w) w k.objects) h (below_in w d))
          (slots_if (eqb (frame_holder (sheet_in w₂) (objects_in (sheet_in w₂) w₂ k.objects) (own_from t.own) b) h) (top_slots (frame_from w₂ d t))) m.marked f)

      pub reach_main : h ≡ 256 → Added w (reached_by usable (sheet_in w) (state_in (sheet_in w) w t k) h) w₃
      reach_main e = subst (λ (xs : List ℕ). Added w xs w₃) (sym (reached_main (sheet_in w) (state_in (sheet_in w) w t k) h e)) slots_added

      module _ (holder : T (is_holder (sheet_in w) (objects_in (sheet_in w) w k.objects) h)) (other : h ≡ 256 → ⊥) where
        resource : T (is_resource (sheet_in w) (objects_in (sheet_in w) w k.objects) h)
        resource = subst (λ (x : Bool). T (x || is_resource (sheet_in w) (objects_in (sheet_in w) w k.objects) h)) (ne_eqb h 256 other) holder

        made : h < k.objects
        made = omega (arith, resource_made (sheet_in w) (objects_in (sheet_in w) w k.objects) h resource, objects_count (sheet_in w) w k.objects)

        pub reach_own : Stored w₃ k.objects × (h < k.objects) × OwnSmall w₃ h × FormsNoted w₃
        reach_own = (
          marks_stored w w₃ only₃ k.objects (run_stored w t k p.running),
          made,
          record {
            kept = λ i l. subst (λ (x : ℕ). x < 256) (sym (only₃.below (kept_address h i) (omega arith)))
                ((run_own w t k p.running h made).kept i (subst (λ (x : ℕ). i < x) (λ j. kept_count (marks_sheet w w₃ only₃ j) (only₃.below (object_address h) (omega arith) j)) l));
            fields = λ i l. subst (λ (x : ℕ). x < 256) (sym (only₃.below (field_address h i) (omega arith)))
                ((run_own w t k p.running h made).fields i (subst (λ (x : ℕ). i < x) (λ j. field_count (marks_sheet w w₃ only₃ j) (only₃.below (object_address h) (omega arith) j)) l));
          },
          FormsNoted-kept only₃ (omega arith) (omega arith) p.noted,
        )

        pub reach_object : {w₄ : List ℕ} → Added w₃ (own_values usable (sheet_in w₃) h (object_at (objects_in (sheet_in w₃) w₃ k.objects) h)) w₄ → Added w (reached_by usable (sheet_in w) (state_in (sheet_in w) w t k) h) w₄
        reach_object {w₄} a =
            subst (λ (xs : List ℕ). Added w xs w₄)
            ((λ i. own_values usable (marks_sheet w w₃ only₃ i) h (object_at (marks_objects w w₃ only₃ k.objects i) h) ++ held_slots usable (sheet_in w) (state_in (sheet_in w) w t k) h)
            ∙ sym (reached_object (sheet_in w) (state_in (sheet_in w) w t k) h other (T→true (is_resource (sheet_in w) (objects_in (sheet_in w) w k.objects) h) resource)))
            (Added-before w w₃ w₄ (held_slots usable (sheet_in w) (state_in (sheet_in w) w t k) h) (own_values usable (sheet_in w₃) h (object_at (objects_in (sheet_in w₃) w₃ k.objects) h)) slots_added a)
