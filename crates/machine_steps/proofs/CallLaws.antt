-- The call, by the numbers of the buffer: what it finds ready, and the state that it leaves. Assumes nothing.
use Prim.Native.Nat.{ℕ, zero, suc, pred, ◌+◌, ◌-◌, ◌≤◌, ◌<◌}
use native.Mathlib.Omega.{arith}
use native.Mathlib.Numerals.{add-one}
use native.Mathlib.Decide.{dec_le}
use mathlib.Core.Path.{◌≡◌, sym, ap, ◌∙◌, subst}
use mathlib.Core.Bool.{Bool, cond}
use mathlib.Core.List.{List, ◌∷◌}
use mathlib.Core.Option.{Option, some}
use lib.ListN.{length, get_or}
use borrow.Author.Tests.{ne_eqb}
use Rattle.lists.proofs.TabLaws.{length-tab, get_or-tab, tab_is}
use Rattle.sheet_rules.specs.Sheet.{call, form_at, row_of_form}
use Rattle.machine_rules.specs.declared.Tally.{Tally}
use Rattle.machine_rules.specs.State.{Object, object_at}
use Rattle.machine_rules.specs.Step.{calls, step, body_in, entered, next_step}
use Rattle.machine_rules.specs.Steps.{called}
use Rattle.machine_rules.specs.Sound.{Receives}
use Rattle.machine_rules.proofs.TakenLaws.{take_call}
use Rattle.machine_rules.proofs.ReadyLaws.{CallReady, ready_call}
use Rattle.table.specs.Layout.{part_address, place_address, object_address, frame_address, state_end, work_size, kept_address, slot_address}
use Rattle.table.specs.View.{cell, instrs_in, sheet_in}
use Rattle.table.specs.Only.{Only}
use Rattle.table.specs.Pool.{FormEnds}
use Rattle.table.proofs.SheetLaws.{forms-length}
use Rattle.table.proofs.ViewLaws.{SameTable, Only-trans, Only-widen, instrs_in_same}
use Rattle.machine_places.specs.Located.{BodyAt}
use Rattle.machine_state.specs.declared.Top.{Top}
use Rattle.machine_state.specs.Held.{kept_count, object_in, objects_in, own_from, slots_in, frame_from, top_in, past, below_in, state_in, saved_put}
use Rattle.machine_state.proofs.HeldLaws.{objects_same, frame_same, top_same, below_same, objects_count, slots_count, saved_only, saved_top}
use Rattle.machine_steps.specs.Entered.{Entered}
use Rattle.machine_steps.specs.Running.{Facing, Took}
use Rattle.machine_steps.proofs.FacingLaws.{frames_are, frames_few, objects_few, size, slot_is, object_is, code_is, next_small, filled_small}
use Rattle.machine_steps.proofs.OwnLaws.{form_is, form_there, form_small}

own_bounded : (x : ℕ) {s : _} {os : List Object} {own result : Option ℕ} → Receives s os (own_from x) own result → x ≤ length os
own_bounded zero r = omega arith
own_bounded (suc o) (Receives.object h e) = h

module _ (w : List ℕ) (t : Top) (k : Tally) (v n a : ℕ) (x : Facing w t k (call v n a)) where
  ready : CallReady (sheet_in w) (state_in (sheet_in w) w t k) v n a
  ready =
      ready_call (sheet_in w) x.running.accepted.whole.sheet x.running.accepted.typed (state_in (sheet_in w) w t k) x.running.sound (instrs_in w (t.next + 1) (t.end - (t.next + 1))) v n a (code_is w t k (call v n a) x)

  pub object_filled : v < t.filled
  object_filled = omega (arith, ready.object, slots_count w (pred k.frames) t.filled)

  pub argument_filled : a < t.filled
  argument_filled = omega (arith, ready.argument, slots_count w (pred k.frames) t.filled)

  pub name_small : n < 64
  name_small = omega (arith, ready.name)

  -- so that the frame in hand can be kept
  pub save_asks : (f : ℕ) → f ≡ pred k.frames
      → (f < 64) × (t.own < 65536) × (t.filled < 65536) × (t.next + 1 < 65536) × (t.end < 65536) × (work_size ≤ length w)
  save_asks f e =
      let own = own_bounded t.own x.running.sound.top.receives in (
        omega (arith, frames_few w t k x.running, x.running.ending.frames),
        omega (arith, own, objects_count (sheet_in w) w k.objects, objects_few w t k x.running),
        omega (arith, filled_small w t k (call v n a) x),
        omega (arith, next_small w t k (call v n a) x),
        omega (arith, x.running.ending.top),
        size w t k x.running,
      )

  -- the receiver and its form
  module _ (f : ℕ) (ef : f ≡ pred k.frames) (own : ℕ) (eo : own ≡ cell w (slot_address f v)) where
    own_is : get_or (slots_in w (pred k.frames) t.filled) v 0 ≡ own
    own_is = slot_is w t k x.running v object_filled ∙ sym (eo ∙ ap (λ (g : ℕ). cell w (slot_address g v)) ef)

    pub own_made : own < k.objects
    own_made = omega (arith, ready.made, own_is, objects_count (sheet_in w) w k.objects)

    pub own_small : own < 256
    own_small = omega (arith, own_made, objects_few w t k x.running)

    -- so that its frame can be entered
    pub enter_asks : (kept : ℕ) → kept ≤ 8 → (w₁ : List ℕ) → w₁ ≡ saved_put w f (past t) → k.frames < 64
        → (f + 1 < 64) × (own < 256) × (kept ≤ 8) × (work_size ≤ length w₁)
    enter_asks kept few w₁ e₁ room = (
      omega (arith, x.running.ending.frames),
      own_small,
      few,
      omega (arith, ap length e₁, (saved_only w f (past t) (size w t k x.running)).size, size w t k x.running),
    )

    module _ (form : ℕ) (em : form ≡ cell w (object_address own)) where
      pub callee_small : form < 64
      callee_small = omega (arith, em, form_small w t k x.running own own_made)

      pub form_in : form < length (sheet_in w).forms
      form_in = subst (λ (y : ℕ). y < length (sheet_in w).forms) (sym em) (form_there w t k x.running own own_made)

      callee_is : (object_at (objects_in (sheet_in w) w k.objects) (get_or (slots_in w (pred k.frames) t.filled) v 0)).form ≡ form
      callee_is = ap (λ (y : ℕ). (object_at (objects_in (sheet_in w) w k.objects) y).form) own_is ∙ form_is w t k x.running own own_made ∙ sym em

      looked_up : body_in (row_of_form (sheet_in w) form).members (form_at (sheet_in w) form).parts n ≡ some ready.code
      looked_up =
          subst (λ (y : ℕ). body_in (row_of_form (sheet_in w) y).members (form_at (sheet_in w) y).parts n ≡ some ready.code) callee_is ready.looked_up

      -- the body
      module _ (part : ℕ) (ep : part ≡ cell w (place_address form n)) where
        body_at : BodyAt w form part ready.code
        body_at = subst (λ (y : ℕ). BodyAt w form y ready.code) (sym ep) (x.running.located.bodies form n ready.code form_in looked_up)

        form_ends : FormEnds w form 1024
        form_ends = x.running.accepted.placed.forms form (omega (arith, form_in, forms-length w))

        pub part_small : part < 8
        part_small = omega (arith, body_at.inside, form_ends.few)

        module _ (start : ℕ) (es : start ≡ cell w (part_address form part + 1)) (count : ℕ) (ec : count ≡ cell w (part_address form part + 2)) where
          pub body_ends : start + count ≤ 1024
          body_ends =
              let sum : cell w (part_address form part + 1) + cell w (part_address form part + 2) ≤ 1024 =
              subst (λ (b : Bool). cond b 0 (cell w (part_address form part + 1) + cell w (part_address form part + 2)) ≤ 1024) (ne_eqb (cell w (part_address form part)) 0 body_at.tag) (form_ends.ends part body_at.inside) in
              omega (arith, es, ec)

          code_there : instrs_in w start (start + count - start) ≡ ready.code
          code_there =
              let e : start + count - start ≡ count = omega arith in
              ap (instrs_in w start) e ∙ (λ i. instrs_in w (es i) (ec i)) ∙ body_at.code

          -- the buffer after it
          module _ (argument : ℕ) (ea : argument ≡ cell w (slot_address f a)) (kept : ℕ) (ek : kept ≡ kept_count (sheet_in w) form) (few : kept ≤ 8)
              (w₁ : List ℕ) (e₁ : w₁ ≡ saved_put w f (past t)) (w' : List ℕ) (e : Entered w₁ w' (f + 1) own argument kept) (room : k.frames < 64) where
            saved : Only (frame_address f) (frame_address f + 4) w w₁
            saved = subst (Only (frame_address f) (frame_address f + 4) w) (sym e₁) (saved_only w f (past t) (size w t k x.running))

            small : f < 63
            small = omega (arith, x.running.ending.frames)

            kept_same : (i : ℕ) → i < frame_address 0 → cell w' i ≡ cell w i
            kept_same i h = e.only.below i (omega arith) ∙ saved.below i (omega arith)

            only : Only (object_address 0) state_end w w'
            only = Only-trans (Only-widen (omega arith) (omega arith) saved) (Only-widen (omega arith) (omega arith) e.only)

            same : SameTable w w'
            same i h = kept_same i (omega arith)

            -- the numbers of the frames up to this one
            up_to : (i : ℕ) → i < frame_address f + 48 → cell w' i ≡ cell w₁ i
            up_to i h = e.only.below i (omega (arith, small))

            kept_top : top_in w' f ≡ past t
            kept_top =
                top_same w₁ w' (λ i h. up_to i (omega arith)) f (λ i l u. up_to i (omega arith))
                ∙ ap (λ (y : List ℕ). top_in y f) e₁ ∙ saved_top w f (past t) (size w t k x.running)

            waiting : frame_from w' f (top_in w' f) ≡ frame_from w f (past t)
            waiting = ap (frame_from w' f) kept_top ∙ frame_same w w' same f (past t) (λ i l u. up_to i (omega arith) ∙ saved.above i (omega arith))

            abbrev values : List ℕ
            values = (object_in (sheet_in w) w own).kept

            values_count : length values ≡ kept
            unfolding object_in
            values_count = length-tab (λ i. cell w (kept_address own i)) (kept_count (sheet_in w) (cell w (object_address own))) ∙ ap (kept_count (sheet_in w)) (sym em) ∙ sym ek

            value_is : (i : ℕ) → i < kept → get_or values i 0 ≡ cell w (kept_address own i)
            unfolding object_in
            value_is i h =
                get_or-tab (λ j. cell w (kept_address own j)) (kept_count (sheet_in w) (cell w (object_address own))) i 0 (omega (arith, ek, ap (kept_count (sheet_in w)) em))

            slots_are : slots_in w' (f + 1) (2 + kept) ≡ own ∷ argument ∷ values
            slots_are =
                let l = values_count in
                tab_is (λ i. cell w' (slot_address (f + 1) i)) (2 + kept) (own ∷ argument ∷ values) 0 (omega arith) each
              where
                each : (i : ℕ) → i < 2 + kept → get_or (own ∷ argument ∷ values) i 0 ≡ cell w' (slot_address (f + 1) i)
                each zero h = sym e.first
                each (suc zero) h = sym e.second
                each (suc (suc i)) h =
                    let l : i < kept = omega arith in
                    let q : 2 + i ≡ suc (suc i) = omega arith in
                    value_is i l
                    ∙ sym (ap (λ (j : ℕ). cell w' (slot_address (f + 1) j)) (sym q) ∙ e.values i l ∙ saved.below (kept_address own i) (omega arith))

            frames_next : k.frames ≡ suc f
            frames_next = omega (arith, x.running.ending.frames)

            top_is : frame_from w' k.frames (record { own = own + 1; filled = 2 + kept; next = start; end = start + count })
                ≡ record { own = some own; slots = own ∷ argument ∷ (object_at (objects_in (sheet_in w) w k.objects) own).kept; code = ready.code }
            top_is = λ p. record { own = ap own_from (add-one own) p; slots = slots p; code = code p }
              where
                slots : slots_in w' k.frames (2 + kept) ≡ own ∷ argument ∷ (object_at (objects_in (sheet_in w) w k.objects) own).kept
                slots =
                    ap (λ (g : ℕ). slots_in w' g (2 + kept)) (frames_next ∙ sym (add-one f)) ∙ slots_are
                    ∙ ap (λ (y : Object). own ∷ argument ∷ y.kept) (sym (object_is w t k x.running own own_made))

                code : instrs_in w' start (start + count - start) ≡ ready.code
                code = instrs_in_same w w' same start (start + count - start) ∙ code_there

            below_is : below_in w' k.frames ≡ frame_from w (pred k.frames) (past t) ∷ below_in w (pred k.frames)
            unfolding below_in
            below_is =
                ap (below_in w') frames_next
                ∙ (λ p. waiting p ∷ below_same w w' same f (omega (arith, small)) (λ i l u. up_to i (omega (arith, small)) ∙ saved.below i (omega (arith, small))) p)
                ∙ (λ p. frame_from w (ef p) (past t) ∷ below_in w (ef p))

            left : entered (state_in (sheet_in w) w t k) (instrs_in w (t.next + 1) (t.end - (t.next + 1))) own argument ready.code
                ≡ state_in (sheet_in w) w' (record { own = own + 1; filled = 2 + kept; next = start; end = start + count }) (called k)
            left = sym (λ p. record { objects = objects_same (sheet_in w) w w' k.objects (λ i l u. kept_same i u) p; top = top_is p; below = below_is p })

            argument_is : get_or (slots_in w (pred k.frames) t.filled) a 0 ≡ argument
            argument_is = slot_is w t k x.running a argument_filled ∙ sym (ea ∙ ap (λ (g : ℕ). cell w (slot_address g a)) ef)

            next : next_step (sheet_in w) (state_in (sheet_in w) w t k)
                ≡ step (calls own argument) (state_in (sheet_in w) w' (record { own = own + 1; filled = 2 + kept; next = start; end = start + count }) (called k))
            next =
                take_call (sheet_in w) (state_in (sheet_in w) w t k) (instrs_in w (t.next + 1) (t.end - (t.next + 1))) v n a ready.code (code_is w t k (call v n a) x) (omega (arith, frames_are w t k x.running)) ready.looked_up
                ∙ (λ p. step (calls (own_is p) (argument_is p)) (entered (state_in (sheet_in w) w t k) (instrs_in w (t.next + 1) (t.end - (t.next + 1))) (own_is p) (argument_is p) ready.code))
                ∙ ap (step (calls own argument)) left

            waits : (g : ℕ) → suc g < suc k.frames → Dec (suc g ≤ f) → cell w' (frame_address g + 3) ≤ 1024
            waits g h (yes p) =
                subst (λ (y : ℕ). y ≤ 1024) (sym (up_to (frame_address g + 3) (omega (arith, small)) ∙ saved.below (frame_address g + 3) (omega (arith, small)))) (x.running.ending.below g (omega (arith, frames_next)))
            waits g h (no p) =
                let q : g ≡ f = omega (arith, frames_next) in
                subst (λ (y : ℕ). cell w' (frame_address y + 3) ≤ 1024) (sym q)
                (subst (λ (y : ℕ). y ≤ 1024) (sym (ap (λ (y : Top). y.end) kept_top)) x.running.ending.top)

            pub call_took : Took w t k w' (record { own = own + 1; filled = 2 + kept; next = start; end = start + count }) (called k)
            call_took =
                record {
                  action = calls own argument;
                  next = next;
                  only = only;
                  ending = record { frames = omega arith; top = body_ends; below = λ g h. waits g h (dec_le (suc g) f) };
                }
