-- The own object's field of a name, by the numbers of the buffer: where `get` and `put` reach it. Assumes nothing.
use Prim.Native.Nat.{ℕ, zero, suc, pred, ◌+◌, ◌-◌, ◌≤◌, ◌<◌}
use native.Mathlib.Omega.{arith}
use mathlib.Core.Path.{◌≡◌, sym, ap, ◌∙◌, subst}
use mathlib.Core.List.{List}
use mathlib.Core.Option.{some}
use lib.ListN.{length, get_or, set}
use Rattle.lists.proofs.Tests.{clash}
use Rattle.lists.proofs.TabLaws.{length-tab, get_or-tab}
use Rattle.sheet_rules.specs.Sheet.{get, put, copy, row_of_form}
use Rattle.machine_rules.specs.declared.Tally.{Tally}
use Rattle.machine_rules.specs.State.{Object, object_at}
use Rattle.machine_rules.specs.Step.{works, step, moved_on, field_place, with_field}
use Rattle.machine_rules.specs.Steps.{worked}
use Rattle.machine_rules.proofs.BoundsLaws.{object_bounded}
use Rattle.machine_rules.proofs.TakenLaws.{take_copy, take_get, take_put}
use Rattle.machine_rules.proofs.ReadyLaws.{OwnReady, ready_copy, ready_get, ready_put}
use Rattle.table.specs.Layout.{object_address, frame_address, place_address, field_address, slot_address}
use Rattle.table.specs.View.{cell, instrs_in, sheet_in}
use Rattle.table.proofs.ViewLaws.{Only-refl, Only-widen}
use Rattle.machine_state.specs.declared.Top.{Top}
use Rattle.machine_state.specs.Held.{field_count, object_in, objects_in, slots_in, own_from, past, filled, state_in}
use Rattle.machine_state.proofs.HeldLaws.{objects_count, slots_count}
use Rattle.machine_state.proofs.ObjectLaws.{field_only, field_put}
use Rattle.machine_steps.specs.Running.{Running, Facing, Took}
use Rattle.machine_steps.proofs.FacingLaws.{objects_few, size, slot_is, object_is, Took-moved, code_is, filled_small}

own_from_lem : (x o : ℕ) → own_from x ≡ some o → x ≡ suc o
own_from_lem zero o e = clash (cc)
own_from_lem (suc x) o e = cc

module _ (w : List ℕ) (t : Top) (k : Tally) (r : Running w t k) where
  -- an object that is made: its form, and its fields
  pub form_is : (o : ℕ) → o < k.objects → (object_at (objects_in (sheet_in w) w k.objects) o).form ≡ cell w (object_address o)
  unfolding object_in
  form_is o h = ap (λ (x : Object). x.form) (object_is w t k r o h)

  pub form_there : (o : ℕ) → o < k.objects → cell w (object_address o) < length (sheet_in w).forms
  form_there o h =
      subst (λ (f : ℕ). f < length (sheet_in w).forms) (form_is o h)
      (object_bounded (sheet_in w) r.accepted.whole.sheet (state_in (sheet_in w) w t k) r.sound o (omega (arith, objects_count (sheet_in w) w k.objects))).form

  pub form_small : (o : ℕ) → o < k.objects → cell w (object_address o) < 64
  form_small o h = omega (arith, form_there o h, r.accepted.whole.sheet.few_forms)

  fields_are : (o : ℕ) → o < k.objects → (object_at (objects_in (sheet_in w) w k.objects) o).fields ≡ (object_in (sheet_in w) w o).fields
  fields_are o h = ap (λ (x : Object). x.fields) (object_is w t k r o h)

  fields_count : (o : ℕ) → length (object_in (sheet_in w) w o).fields ≡ field_count (sheet_in w) (cell w (object_address o))
  unfolding object_in
  fields_count o = length-tab (λ i. cell w (field_address o i)) (field_count (sheet_in w) (cell w (object_address o)))

  field_is : (o i : ℕ) → i < field_count (sheet_in w) (cell w (object_address o)) → get_or (object_in (sheet_in w) w o).fields i 0 ≡ cell w (field_address o i)
  unfolding object_in
  field_is o i h = get_or-tab (λ j. cell w (field_address o j)) (field_count (sheet_in w) (cell w (object_address o))) i 0 h

  fields_few : (o : ℕ) → o < k.objects → field_count (sheet_in w) (cell w (object_address o)) ≤ 8
  fields_few o h =
      let few = (object_bounded (sheet_in w) r.accepted.whole.sheet (state_in (sheet_in w) w t k) r.sound o (omega (arith, objects_count (sheet_in w) w k.objects))).fields in
      omega (arith, few, ap length (fields_are o h), fields_count o)

  -- the own object's field of name n
  module _ (n : ℕ) (q : OwnReady (sheet_in w) (state_in (sheet_in w) w t k) n) where
    own_is : t.own ≡ suc q.own
    own_is = own_from_lem t.own q.own q.is_own

    own_made : q.own < k.objects
    own_made = omega (arith, q.made, objects_count (sheet_in w) w k.objects)

    pub own_some : 0 < t.own
    own_some = omega (arith, own_is)

    pub name_small : n < 64
    name_small = omega (arith, q.name)

    module _ (o : ℕ) (eo : o ≡ t.own - 1) where
      o_is : o ≡ q.own
      o_is = omega (arith, own_is)

      pub o_made : o < k.objects
      o_made = omega (arith, own_made, o_is)

      pub o_small : o < 256
      o_small = omega (arith, o_made, objects_few w t k r)

      looked_up : field_place (row_of_form (sheet_in w) (cell w (object_address o))).members n ≡ some q.place
      looked_up =
          subst (λ (f : ℕ). field_place (row_of_form (sheet_in w) f).members n ≡ some q.place) (form_is q.own own_made ∙ ap (λ (x : ℕ). cell w (object_address x)) (sym o_is)) q.looked_up

      module _ (f : ℕ) (ef : f ≡ cell w (object_address o)) where
        pub f_small : f < 64
        f_small = omega (arith, ef, form_small o o_made)

        module _ (p : ℕ) (ep : p ≡ cell w (place_address f n)) where
          p_is : p ≡ q.place
          p_is = ep ∙ ap (λ (x : ℕ). cell w (place_address x n)) ef ∙ r.located.fields (cell w (object_address o)) n q.place (form_there o o_made) looked_up

          p_inside : p < field_count (sheet_in w) (cell w (object_address o))
          p_inside =
              omega (arith, p_is, q.inside, ap length (fields_are q.own own_made), fields_count q.own, ap (λ (x : ℕ). field_count (sheet_in w) (cell w (object_address x))) o_is)

          pub p_small : p < 8
          p_small = omega (arith, p_inside, fields_few o o_made)

          field_value : get_or (object_at (objects_in (sheet_in w) w k.objects) q.own).fields q.place 0 ≡ cell w (field_address o p)
          field_value =
              (λ x. get_or (object_at (objects_in (sheet_in w) w k.objects) (sym o_is x)).fields (sym p_is x) 0)
              ∙ ap (λ (xs : List ℕ). get_or xs p 0) (fields_are o o_made)
              ∙ field_is o p p_inside

          putting : (v : ℕ) → set (objects_in (sheet_in w) w k.objects) q.own (with_field (object_at (objects_in (sheet_in w) w k.objects) q.own) q.place v)
              ≡ objects_in (sheet_in w) (set w (field_address o p) v) k.objects
          putting v =
              (λ x. set (objects_in (sheet_in w) w k.objects) (sym o_is x) (with_field (object_at (objects_in (sheet_in w) w k.objects) (sym o_is x)) (sym p_is x) v))
              ∙ ap (λ (y : Object). set (objects_in (sheet_in w) w k.objects) o (with_field y p v)) (object_is w t k r o o_made)
              ∙ sym (field_put (sheet_in w) w o p v o_small p_inside (fields_few o o_made) (size w t k r) k.objects o_made (objects_few w t k r))

-- what each step finds ready

module _ (w : List ℕ) (t : Top) (k : Tally) where
  module _ (v : ℕ) (a : Facing w t k (copy v)) where
    pub copy_filled : v < t.filled
    copy_filled =
        omega (arith, slots_count w (pred k.frames) t.filled, ready_copy (sheet_in w) (state_in (sheet_in w) w t k) a.running.sound (instrs_in w (t.next + 1) (t.end - (t.next + 1))) v (code_is w t k (copy v) a))

  module _ (n : ℕ) (a : Facing w t k (get n)) where
    pub get_ready : OwnReady (sheet_in w) (state_in (sheet_in w) w t k) n
    get_ready =
        ready_get (sheet_in w) a.running.accepted.whole.sheet (state_in (sheet_in w) w t k) a.running.sound (instrs_in w (t.next + 1) (t.end - (t.next + 1))) n (code_is w t k (get n) a)

  module _ (n v : ℕ) (a : Facing w t k (put n v)) where
    both : OwnReady (sheet_in w) (state_in (sheet_in w) w t k) n × (v < length (slots_in w (pred k.frames) t.filled))
    both =
        ready_put (sheet_in w) a.running.accepted.whole.sheet (state_in (sheet_in w) w t k) a.running.sound (instrs_in w (t.next + 1) (t.end - (t.next + 1))) n v (code_is w t k (put n v) a)

    pub put_ready : OwnReady (sheet_in w) (state_in (sheet_in w) w t k) n
    put_ready = both.0

    pub put_filled : v < t.filled
    put_filled = omega (arith, both.1, slots_count w (pred k.frames) t.filled)

-- THE STEPS, each with the numbers that the code reads and the buffer that it leaves

module _ (w : List ℕ) (t : Top) (k : Tally) (f : ℕ) (ef : f ≡ pred k.frames) (w' : List ℕ) (t' : Top) (et : t' ≡ filled (past t)) where
  -- `copy`
  module _ (v : ℕ) (a : Facing w t k (copy v)) where
    pub copy_took : (x : ℕ) → x ≡ cell w (slot_address f v) → w' ≡ set w (slot_address f t.filled) x → Took w t k w' t' (worked k)
    copy_took x ex ew =
        subst (λ (y : Top). Took w t k w' y (worked k)) (sym et)
        (Took-moved w t k a.running w w' x (Only-refl (object_address 0) (frame_address 0) w) (ew ∙ ap (λ (g : ℕ). set w (slot_address g t.filled) x) ef) (filled_small w t k (copy v) a) k.objects (suc k.steps) works
        (take_copy (sheet_in w) (state_in (sheet_in w) w t k) (instrs_in w (t.next + 1) (t.end - (t.next + 1))) v (code_is w t k (copy v) a)
        ∙ ap (λ (y : ℕ). step works (moved_on (objects_in (sheet_in w) w k.objects) (state_in (sheet_in w) w t k) (instrs_in w (t.next + 1) (t.end - (t.next + 1))) y))
        (slot_is w t k a.running v (copy_filled w t k v a) ∙ sym (ex ∙ ap (λ (g : ℕ). cell w (slot_address g v)) ef))))

  -- `get`
  module _ (n : ℕ) (a : Facing w t k (get n)) where
    pub get_took : (o : ℕ) (eo : o ≡ t.own - 1) (form : ℕ) (em : form ≡ cell w (object_address o)) (p : ℕ) (ep : p ≡ cell w (place_address form n))
        → (x : ℕ) → x ≡ cell w (field_address o p) → w' ≡ set w (slot_address f t.filled) x → Took w t k w' t' (worked k)
    get_took o eo form em p ep x ex ew =
        subst (λ (y : Top). Took w t k w' y (worked k)) (sym et)
        (Took-moved w t k a.running w w' x (Only-refl (object_address 0) (frame_address 0) w) (ew ∙ ap (λ (g : ℕ). set w (slot_address g t.filled) x) ef) (filled_small w t k (get n) a) k.objects (suc k.steps) works
        (take_get (sheet_in w) (state_in (sheet_in w) w t k) (instrs_in w (t.next + 1) (t.end - (t.next + 1))) n (get_ready w t k n a).own (get_ready w t k n a).place (code_is w t k (get n) a) (get_ready w t k n a).is_own (get_ready w t k n a).looked_up
        ∙ ap (λ (y : ℕ). step works (moved_on (objects_in (sheet_in w) w k.objects) (state_in (sheet_in w) w t k) (instrs_in w (t.next + 1) (t.end - (t.next + 1))) y))
        (field_value w t k a.running n (get_ready w t k n a) o eo form em p ep ∙ sym ex)))

  -- `put`
  module _ (n v : ℕ) (a : Facing w t k (put n v)) where
    pub put_took : (o : ℕ) (eo : o ≡ t.own - 1) (form : ℕ) (em : form ≡ cell w (object_address o)) (p : ℕ) (ep : p ≡ cell w (place_address form n))
        → (x : ℕ) → x ≡ cell w (slot_address f v) → (w₁ : List ℕ) → w₁ ≡ set w (field_address o p) x → w' ≡ set w₁ (slot_address f t.filled) x → Took w t k w' t' (worked k)
    put_took o eo form em p ep x ex w₁ e₁ ew =
        subst (λ (y : Top). Took w t k w' y (worked k)) (sym et)
        (Took-moved w t k a.running (set w (field_address o p) x) w' x
        (Only-widen (omega arith) (omega arith)
        (field_only (sheet_in w) w o p x (o_small w t k a.running n (put_ready w t k n v a) o eo) (p_inside w t k a.running n (put_ready w t k n v a) o eo form em p ep) (fields_few w t k a.running o (o_made w t k a.running n (put_ready w t k n v a) o eo)) (size w t k a.running)))
        (ew ∙ (λ i. set (e₁ i) (slot_address (ef i) t.filled) x)) (filled_small w t k (put n v) a) k.objects (suc k.steps) works
        (take_put (sheet_in w) (state_in (sheet_in w) w t k) (instrs_in w (t.next + 1) (t.end - (t.next + 1))) n v (put_ready w t k n v a).own (put_ready w t k n v a).place (code_is w t k (put n v) a) (put_ready w t k n v a).is_own (put_ready w t k n v a).looked_up
        ∙ (λ i. step works (moved_on (set (objects_in (sheet_in w) w k.objects) (put_ready w t k n v a).own (with_field (object_at (objects_in (sheet_in w) w k.objects) (put_ready w t k n v a).own) (put_ready w t k n v a).place (value i))) (state_in (sheet_in w) w t k) (instrs_in w (t.next + 1) (t.end - (t.next + 1))) (value i)))
        ∙ ap (λ (os : List Object). step works (moved_on os (state_in (sheet_in w) w t k) (instrs_in w (t.next + 1) (t.end - (t.next + 1))) x)) (putting w t k a.running n (put_ready w t k n v a) o eo form em p ep x)))
      where
        value : get_or (slots_in w (pred k.frames) t.filled) v 0 ≡ x
        value = slot_is w t k a.running v (put_filled w t k n v a) ∙ sym (ex ∙ ap (λ (g : ℕ). cell w (slot_address g v)) ef)
