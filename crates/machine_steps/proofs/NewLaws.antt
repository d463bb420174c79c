-- The step of `new`, with the numbers that the code reads and the buffer that each of its stores leaves. Assumes nothing.
use Prim.Native.Nat.{ℕ, zero, suc, pred, ◌+◌, ◌-◌, ◌≤◌, ◌<◌}
use native.Mathlib.Omega.{arith}
use native.Mathlib.Nat.{zero-add}
use mathlib.Core.Path.{◌≡◌, refl, sym, ap, ◌∙◌, subst}
use mathlib.Core.List.{List, [], ◌∷◌, ◌++◌, map}
use lib.ListN.{length, get_or, set, length-map}
use lib.Seq.{get_or-set_same}
use Rattle.lists.specs.In.{In}
use Rattle.lists.proofs.InLaws.{In-get_or}
use Rattle.lists.proofs.TabLaws.{length-tab}
use Rattle.sheet_rules.specs.Sheet.{Sheet, new, Part, init, form_at}
use Rattle.machine_rules.specs.declared.Tally.{Tally}
use Rattle.machine_rules.specs.State.{made}
use Rattle.machine_rules.specs.Step.{creates, step, moved_on, slot_values}
use Rattle.machine_rules.specs.Steps.{created}
use Rattle.machine_rules.proofs.TakenLaws.{take_new}
use Rattle.machine_rules.proofs.ReadyLaws.{NewReady, ready_new}
use Rattle.table.specs.Layout.{form_address, object_address, work_size, kept_address, field_address, slot_address}
use Rattle.table.specs.View.{cell, instrs_in, part_in, parts_in, sheet_in}
use Rattle.table.specs.Told.{new_slots}
use Rattle.table.specs.Only.{Only}
use Rattle.table.proofs.ViewLaws.{SameTable, Only-trans, Only-widen, Only-set, only→same, part_in_same, sheet_in_same, new_slots_same}
use Rattle.table.proofs.SheetLaws.{form_well, parts_are, parts-Pairwise, parts-length, part_there}
use Rattle.machine_state.specs.declared.Top.{Top}
use Rattle.machine_state.specs.Held.{objects_in, slots_in, past, filled, state_in}
use Rattle.machine_state.proofs.HeldLaws.{objects_count, slots_count}
use Rattle.machine_state.proofs.ObjectLaws.{MadeAt, made_there, objects_more}
use Rattle.machine_steps.specs.Running.{Facing, Took}
use Rattle.machine_steps.specs.Created.{Keepable, KeptFrom, FormStarts, fields_started}
use Rattle.machine_steps.proofs.FacingLaws.{frames_few, size, slot_is, Took-moved, code_is, next_small, filled_small, fill_asks}
use Rattle.machine_steps.proofs.CreationLaws.{started_only, starts_few, starts_count, started_at}

-- a value of a mapped list
map_at : (f : ℕ → ℕ) (xs : List ℕ) (i : ℕ) → i < length xs → get_or (map f xs) i 0 ≡ f (get_or xs i 0)
map_at f [] i h = absurd (omega arith)
map_at f (x ∷ xs) zero h = refl
map_at f (x ∷ xs) (suc i) h = map_at f xs i (omega arith)

module _ (w : List ℕ) (t : Top) (k : Tally) (form : ℕ) (a : Facing w t k (new form (new_slots w t.next))) (few : k.objects < 256) where
  abbrev named : List ℕ
  named = new_slots w t.next

  -- the kept values of the new object, and the parts of its form
  abbrev kept : List ℕ
  kept = slot_values (slots_in w (pred k.frames) t.filled) named

  abbrev parts : List Part
  parts = (form_at (sheet_in w) form).parts

  ready : NewReady (sheet_in w) (state_in (sheet_in w) w t k) form named
  ready =
      ready_new (sheet_in w) a.running.accepted.whole.sheet (state_in (sheet_in w) w t k) a.running.sound (instrs_in w (t.next + 1) (t.end - (t.next + 1))) form named
      (code_is w t k (new form named) a)

  -- its form is there, by any name of its number
  pub form_in : (g : ℕ) → g ≡ form → g < length (sheet_in w).forms
  form_in g eg = subst (λ (x : ℕ). x < length (sheet_in w).forms) (sym eg) ready.form

  slot_filled : (i : ℕ) → i < length named → get_or named i 0 < t.filled
  slot_filled i h = omega (arith, ready.filled i h, slots_count w (pred k.frames) t.filled)

  kept_count : length kept ≡ length named
  kept_count = length-map named (λ v. get_or (slots_in w (pred k.frames) t.filled) v 0)

  parts_few : length parts ≤ 8
  parts_few =
      let members = (a.running.accepted.whole.sheet.rows (form_at (sheet_in w) form).row).few in
      omega (arith, parts-length w a.running.accepted.whole form ready.form, members)

  module _ (f : ℕ) (ef : f ≡ pred k.frames) (o : ℕ) (eo : o ≡ k.objects) (w₁ : List ℕ) (e₁ : w₁ ≡ set w (object_address o) form) where
    only₁ : Only (object_address o) (object_address o + 1) w w₁
    only₁ =
        subst (Only (object_address o) (object_address o + 1) w) (sym e₁)
        (Only-set (object_address o) (object_address o + 1) w (object_address o) form (omega arith) (omega arith))

    named₁ : new_slots w₁ t.next ≡ named
    named₁ = new_slots_same w w₁ (only→same _ _ w w₁ (omega arith) only₁) t.next

    -- the form is stored, and the values can be kept
    pub keeps : (g : ℕ) → g ≡ form → (count : ℕ) → (count ≡ length (form_at (sheet_in w) g).keeps) × (count ≤ 8) → Keepable w₁ f t.next o count
    keeps g eg count c =
        record {
          frame = omega (arith, ef, frames_few w t k a.running, a.running.ending.frames);
          place = next_small w t k (new form named) a;
          object = omega arith;
          counted = c.0 ∙ ap (λ (x : ℕ). length (form_at (sheet_in w) x).keeps) eg ∙ sym ready.count ∙ ap length (sym named₁);
          few = c.1;
          slots = λ i h.
              omega (arith, slot_filled i (omega (arith, ap length named₁)), ap (λ (xs : List ℕ). get_or xs i 0) named₁, filled_small w t k (new form named) a);
          size = omega (arith, only₁.size, size w t k a.running);
        }

    module _ (w₂ : List ℕ) (h₂ : KeptFrom w₁ f t.next o w₂) (g : ℕ) (eg : g ≡ form) where
      only₂ : Only (object_address o) (object_address o + 17) w w₂
      only₂ = Only-trans (Only-widen (omega arith) (omega arith) only₁) (Only-widen (omega arith) (omega arith) h₂.only)

      same₂ : SameTable w w₂
      same₂ = only→same _ _ w w₂ (omega arith) only₂

      -- the parts are those that the loop goes over
      parts₂ : parts_in w₂ g (cell w₂ (form_address g + 2)) ≡ parts
      parts₂ =
          ap (λ (x : ℕ). parts_in w₂ x (cell w₂ (form_address x + 2))) eg
          ∙ sym (parts_are w₂ form (subst (λ (s : Sheet). form < length s.forms) (sym (sheet_in_same w w₂ same₂)) ready.form))
          ∙ ap (λ (s : Sheet). (form_at s form).parts) (sheet_in_same w w₂ same₂)

      parts_count : cell w₂ (form_address g + 2) ≡ length parts
      parts_count = sym (length-tab (part_in w₂ g) (cell w₂ (form_address g + 2))) ∙ ap length parts₂

      part_is : (j : ℕ) → j < length parts → get_or parts j (init 0) ≡ part_in w₂ g j
      part_is j h = part_there w a.running.accepted.whole form ready.form j h ∙ sym (part_in_same w w₂ same₂ form j) ∙ ap (λ (x : ℕ). part_in w₂ x j) (sym eg)

      -- the values are kept, and the fields can be started
      pub starts : FormStarts w₂ g o
      starts =
          record {
            form = omega (arith, eg, ready.form, a.running.accepted.whole.sheet.few_forms);
            object = omega arith;
            parts = omega (arith, parts_count, parts_few);
            kept = λ j i h e.
                (let l : j < length parts = omega (arith, parts_count) in
                let there : In (init i) parts = subst (λ (x : Part). In x parts) (part_is j l ∙ e) (In-get_or parts j (init 0) l) in
                omega (arith, ready.starts i there, (form_well w a.running.accepted.whole form ready.form).few));
            size = omega (arith, only₂.size, size w t k a.running);
          }

      module _ (w₃ : List ℕ) (e₃ : w₃ ≡ fields_started w₂ o (parts_in w₂ g (cell w₂ (form_address g + 2))) 0) where
        started : w₃ ≡ fields_started w₂ o parts 0
        started = e₃ ∙ ap (λ (ps : List Part). fields_started w₂ o ps 0) parts₂

        Only-fields : Only (field_address o 0) (object_address o + 17) w₂ w₃
        Only-fields = subst (Only (field_address o 0) (object_address o + 17) w₂) (sym started) (started_only w₂ o parts 0)

        only₃ : Only (object_address o) (object_address o + 17) w w₃
        only₃ = Only-trans only₂ (Only-widen (omega arith) (omega arith) Only-fields)

        -- the fields are started, and the slot can be filled
        pub fills : (f < 64) × (t.filled < 42) × (t.next < 1024) × (work_size ≤ length w₃)
        fills = fill_asks w t k (new form named) a f ef w₃ only₃.size

        kept₂ : (i : ℕ) → i < length kept → cell w₂ (kept_address o i) ≡ get_or kept i 0
        kept₂ i h =
            let l : i < length named = omega (arith, kept_count) in
            h₂.values i (omega (arith, ap length named₁))
            ∙ ap (λ (xs : List ℕ). cell w₁ (slot_address f (get_or xs i 0))) named₁
            ∙ only₁.above (slot_address f (get_or named i 0)) (omega arith)
            ∙ ap (λ (x : ℕ). cell w (slot_address x (get_or named i 0))) ef
            ∙ sym (slot_is w t k a.running (get_or named i 0) (slot_filled i l))
            ∙ sym (map_at (λ v. get_or (slots_in w (pred k.frames) t.filled) v 0) named i l)

        -- the object is the one that the rules make
        made_at : MadeAt (sheet_in w) w₃ o form kept
        made_at =
            record {
              form =
                  Only-fields.below (object_address o) (omega arith)
                  ∙ h₂.only.below (object_address o) (omega arith)
                  ∙ ap (λ (x : List ℕ). cell x (object_address o)) e₁
                  ∙ get_or-set_same w (object_address o) form 0 (omega (arith, size w t k a.running));
              count = kept_count ∙ ready.count;
              values = λ i h. Only-fields.below (kept_address o i) (omega arith) ∙ kept₂ i h;
              fields = starts_count kept (parts-Pairwise w a.running.accepted.whole form ready.form);
              starts = λ i h.
                  (ap (λ (x : List ℕ). cell x (field_address o i)) started
                  ∙ ap (λ (x : ℕ). cell (fields_started w₂ o parts 0) (field_address o x)) (sym (zero-add i))
                  ∙ started_at o kept w₂ parts 0 (omega (arith, only₂.size, size w t k a.running)) kept₂
                  (λ j q. omega (arith, ready.starts j q, ready.count, kept_count)) (omega (arith, starts_few parts kept, parts_few)) i h);
            }

        objects : objects_in (sheet_in w) w k.objects ++ (made (sheet_in w) form kept ∷ []) ≡ objects_in (sheet_in w) w₃ (suc k.objects)
        objects =
            ap (λ (n : ℕ). objects_in (sheet_in w) w n ++ (made (sheet_in w) form kept ∷ [])) (sym eo)
            ∙ sym (objects_more (sheet_in w) w w₃ o (made (sheet_in w) form kept) (omega arith) only₃ (made_there (sheet_in w) w₃ o form kept made_at))
            ∙ ap (λ (n : ℕ). objects_in (sheet_in w) w₃ (suc n)) eo

        -- the step
        pub new_took : (w' : List ℕ) (t' : Top) → t' ≡ filled (past t) → w' ≡ set w₃ (slot_address f t.filled) k.objects → Took w t k w' t' (created k)
        new_took w' t' et ew =
            subst (λ (y : Top). Took w t k w' y (created k)) (sym et)
            (Took-moved w t k a.running w₃ w' k.objects (Only-widen (omega arith) (omega arith) only₃) (ew ∙ ap (λ (x : ℕ). set w₃ (slot_address x t.filled) k.objects) ef)
            (filled_small w t k (new form named) a) (suc k.objects) (suc k.steps) (creates (length (objects_in (sheet_in w) w k.objects)) kept)
            (take_new (sheet_in w) (state_in (sheet_in w) w t k) (instrs_in w (t.next + 1) (t.end - (t.next + 1))) form named (code_is w t k (new form named) a)
            (omega (arith, objects_count (sheet_in w) w k.objects))
            ∙ (λ i. step (creates (length (objects_in (sheet_in w) w k.objects)) kept)
            (moved_on (objects i) (state_in (sheet_in w) w t k) (instrs_in w (t.next + 1) (t.end - (t.next + 1))) (objects_count (sheet_in w) w k.objects i)))))
