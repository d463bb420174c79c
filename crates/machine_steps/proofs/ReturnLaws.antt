-- The return, by the numbers of the buffer. Assumes nothing.
use Prim.Native.Nat.{ℕ, suc, pred, ◌+◌, ◌-◌, ◌≤◌, ◌<◌}
use native.Mathlib.Omega.{arith}
use mathlib.Core.Path.{◌≡◌, refl, sym, ap, ◌∙◌, subst}
use mathlib.Core.List.{List, ◌∷◌}
use lib.ListN.{set}
use lib.Seq.{get_or-set_same, get_or-set_other}
use Rattle.lists.specs.In.{In}
use Rattle.machine_rules.specs.declared.Tally.{Tally}
use Rattle.machine_rules.specs.State.{last_of, filled as with_slot}
use Rattle.machine_rules.specs.Step.{returns, step}
use Rattle.machine_rules.specs.Steps.{returned}
use Rattle.machine_rules.proofs.BoundsLaws.{frame_bounded}
use Rattle.machine_rules.proofs.TakenLaws.{take_return}
use Rattle.machine_rules.proofs.ReadyLaws.{ready_end}
use Rattle.table.specs.Layout.{object_address, frame_address, state_end, slot_address}
use Rattle.table.specs.View.{cell, sheet_in}
use Rattle.table.specs.Only.{Only}
use Rattle.table.proofs.ViewLaws.{SameTable, Only-set}
use Rattle.machine_state.specs.declared.Top.{Top}
use Rattle.machine_state.specs.Held.{objects_in, slots_in, frame_from, top_in, filled, below_in, state_in}
use Rattle.machine_state.proofs.HeldLaws.{objects_same, below_same, slot_added, code_end, below_next, slots_count}
use Rattle.machine_steps.specs.Running.{Running, Took}
use Rattle.machine_steps.proofs.FacingLaws.{frames_few, size, last_is}

module _ (w : List ℕ) (t : Top) (k : Tally) (r : Running w t k) (ended : t.end ≤ t.next) (more : 1 < k.frames) where
  pub last_filled : 0 < t.filled
  last_filled =
      omega (arith, slots_count w (pred k.frames) t.filled, ready_end (sheet_in w) (state_in (sheet_in w) w t k) r.sound (code_end w t.next t.end ended))

  pub last_small : t.filled ≤ 42
  last_small =
      omega (arith, (frame_bounded (sheet_in w) r.accepted.whole.sheet (state_in (sheet_in w) w t k) r.sound (frame_from w (pred k.frames) t) (In.here refl)).slots, slots_count w (pred k.frames) t.filled)

  -- the frame below, and those below it
  module _ (d : ℕ) (is_below : pred k.frames ≡ suc d) where
    below_are : below_in w (pred k.frames) ≡ frame_from w d (top_in w d) ∷ below_in w d
    below_are = below_next w (pred k.frames) d is_below

    d_small : d < 63
    d_small = omega (arith, is_below, frames_few w t k r)

    pub below_small : (top_in w d).filled ≤ 42
    below_small =
        let b = frame_bounded (sheet_in w) r.accepted.whole.sheet (state_in (sheet_in w) w t k) r.sound (frame_from w d (top_in w d))
        (In.there (subst (In (frame_from w d (top_in w d))) (sym below_are) (In.here refl))) in
        omega (arith, b.slots, slots_count w d (top_in w d).filled)

    module _ (v : ℕ) (ev : v ≡ cell w (slot_address (pred k.frames) (t.filled - 1))) (w' : List ℕ) (ew : w' ≡ set w (slot_address d (top_in w d).filled) v) where
      found : cell w' (slot_address d (top_in w d).filled) ≡ v
      found =
          ap (λ (x : List ℕ). cell x (slot_address d (top_in w d).filled)) ew
          ∙ get_or-set_same w (slot_address d (top_in w d).filled) v 0 (omega (arith, size w t k r))

      other : (i : ℕ) → (i ≡ slot_address d (top_in w d).filled → ⊥) → cell w' i ≡ cell w i
      other i n = ap (λ (x : List ℕ). cell x i) ew ∙ get_or-set_other w (slot_address d (top_in w d).filled) i v 0 n

      only : Only (object_address 0) state_end w w'
      only = subst (Only (object_address 0) state_end w) (sym ew) (Only-set (object_address 0) state_end w (slot_address d (top_in w d).filled) v (omega arith) (omega arith))

      same : SameTable w w'
      same i h = only.below i (omega arith)

      depth : pred (pred k.frames) ≡ d
      depth = omega (arith, is_below)

      -- the state after it
      left : record { objects = objects_in (sheet_in w) w k.objects; top = with_slot (frame_from w d (top_in w d)) (last_of (slots_in w (pred k.frames) t.filled)); below = below_in w d }
          ≡ state_in (sheet_in w) w' (filled (top_in w d)) (returned k)
      left =
          sym (λ p. record {
            objects = objects_same (sheet_in w) w w' k.objects (λ i l u. other i (omega arith)) p;
            top = (ap (λ (x : ℕ). frame_from w' x (filled (top_in w d))) depth ∙ slot_added w w' same d (top_in w d) (last_of (slots_in w (pred k.frames) t.filled)) (omega (arith, below_small)) (λ i l u n. other i n) (found ∙ ev ∙ sym (last_is w t k r last_filled))) p;
            below = (ap (below_in w') depth ∙ below_same w w' same d (omega (arith, d_small)) (λ i l u. other i (omega (arith, d_small)))) p;
          })

      pub return_took : (t' : Top) → t' ≡ filled (top_in w d) → Took w t k w' t' (returned k)
      return_took t' et =
          subst (λ (x : Top). Took w t k w' x (returned k)) (sym et)
          (record {
            action = returns (last_of (slots_in w (pred k.frames) t.filled));
            next = take_return (sheet_in w) (state_in (sheet_in w) w t k) (frame_from w d (top_in w d)) (below_in w d) (code_end w t.next t.end ended) below_are ∙ ap (step (returns (last_of (slots_in w (pred k.frames) t.filled)))) left;
            only = only;
            ending =
                record {
                  frames = omega arith;
                  top = r.ending.below d (omega (arith, is_below));
                  below = λ f h. (let g : suc f < pred k.frames = h in subst (λ (x : ℕ). x ≤ 1024) (sym (other (frame_address f + 3) (omega (arith, d_small, is_below)))) (r.ending.below f (omega arith)));
                };
          })

  -- the same for the numbers that the code has in hand: the frame's number f, and where the frame below stood
  module _ (f : ℕ) (ef : f ≡ pred k.frames) where
    pub f_some : 1 ≤ f
    f_some = omega arith

    pub f_small : f < 64
    f_small = omega (arith, frames_few w t k r)

    is_next : pred k.frames ≡ suc (f - 1)
    is_next = omega arith

    module _ (b : Top) (eb : b ≡ top_in w (f - 1)) where
      pub b_small : b.filled ≤ 42
      b_small = subst (λ (x : Top). x.filled ≤ 42) (sym eb) (below_small (f - 1) is_next)

      pub returned-Took : (v : ℕ) → v ≡ cell w (slot_address f (t.filled - 1)) → (w' : List ℕ) → w' ≡ set w (slot_address (f - 1) b.filled) v → Took w t k w' (filled b) (returned k)
      returned-Took v ev w' ew =
          return_took (f - 1) is_next v (ev ∙ ap (λ (x : ℕ). cell w (slot_address x (t.filled - 1))) ef) w' (ew ∙ ap (λ (x : Top). set w (slot_address (f - 1) x.filled) v) eb) (filled b) (ap filled eb)
