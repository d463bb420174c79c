-- What a frame with an instruction left has ready, by the numbers of the buffer; and a step that fills one slot. Assumes nothing.
use Prim.Native.Nat.{ℕ, pred, ◌+◌, ◌-◌, ◌≤◌, ◌<◌}
use native.Mathlib.Omega.{arith}
use mathlib.Core.Path.{◌≡◌, sym, ap, ◌∙◌, subst}
use mathlib.Core.List.{List, ◌∷◌}
use lib.ListN.{length, get_or, set}
use lib.Seq.{get_or-set_same, get_or-set_other}
use Rattle.lists.proofs.TabLaws.{get_or-tab}
use Rattle.sheet_rules.specs.Sheet.{Instr}
use Rattle.machine_rules.specs.declared.Tally.{Tally}
use Rattle.machine_rules.specs.State.{frame_count, no_object, object_at, last_of, filled as with_slot}
use Rattle.machine_rules.specs.Step.{Action, step, next_step, moved_on}
use Rattle.machine_rules.proofs.FoundLaws.{last_of_at}
use Rattle.table.specs.Layout.{object_address, frame_address, state_end, work_size, slot_address}
use Rattle.table.specs.View.{cell, instrs_in, sheet_in}
use Rattle.table.specs.Only.{Only}
use Rattle.table.proofs.ViewLaws.{SameTable, Only-trans, Only-widen, Only-set}
use Rattle.machine_state.specs.declared.Top.{Top}
use Rattle.machine_state.specs.Held.{object_in, objects_in, slots_in, frame_from, below_in, past, filled, state_in}
use Rattle.machine_state.proofs.HeldLaws.{objects_same, below_same, slot_added, code_next, objects_count, slots_count, code_count, below_count}
use Rattle.machine_steps.specs.Running.{Running, Facing, Took}

-- any running state

module _ (w : List ℕ) (t : Top) (k : Tally) (r : Running w t k) where
  -- how many frames there are, and objects
  pub frames_are : frame_count (state_in (sheet_in w) w t k) ≡ k.frames
  frames_are = let c = below_count w (pred k.frames) in let p = r.ending.frames in omega arith

  pub frames_few : k.frames ≤ 64
  frames_few = omega (arith, frames_are, r.sound.height)

  pub objects_few : k.objects ≤ 256
  objects_few = omega (arith, objects_count (sheet_in w) w k.objects, r.sound.places)

  pub room : t.filled + (t.end - t.next) ≤ 42
  room = omega (arith, slots_count w (pred k.frames) t.filled, code_count w t.next t.end, r.sound.room)

  pub size : work_size ≤ length w
  size = r.accepted.whole.size

  -- a filled slot, and that it holds an object
  pub slot_is : (v : ℕ) → v < t.filled → get_or (slots_in w (pred k.frames) t.filled) v 0 ≡ cell w (slot_address (pred k.frames) v)
  slot_is v h = get_or-tab (λ i. cell w (slot_address (pred k.frames) i)) t.filled v 0 h

  -- the last filled slot: the body's value
  pub last_is : 0 < t.filled → last_of (slots_in w (pred k.frames) t.filled) ≡ cell w (slot_address (pred k.frames) (t.filled - 1))
  last_is h =
      let n : pred (length (slots_in w (pred k.frames) t.filled)) ≡ t.filled - 1 = omega (arith, slots_count w (pred k.frames) t.filled) in
      last_of_at (slots_in w (pred k.frames) t.filled)
      ∙ ap (λ (i : ℕ). get_or (slots_in w (pred k.frames) t.filled) i 0) n
      ∙ slot_is (t.filled - 1) (omega arith)

  -- an object that is made
  pub object_is : (o : ℕ) → o < k.objects → object_at (objects_in (sheet_in w) w k.objects) o ≡ object_in (sheet_in w) w o
  object_is o h = get_or-tab (object_in (sheet_in w) w) k.objects o no_object h

  -- a slot more in the frame in hand, after the objects alone were changed
  module _ (w₁ w' : List ℕ) (v : ℕ) (only : Only (object_address 0) (frame_address 0) w w₁) (stored : w' ≡ set w₁ (slot_address (pred k.frames) t.filled) v)
      (few : t.filled < 42) where
    here : cell w' (slot_address (pred k.frames) t.filled) ≡ v
    here =
        ap (λ (x : List ℕ). cell x (slot_address (pred k.frames) t.filled)) stored
        ∙ get_or-set_same w₁ (slot_address (pred k.frames) t.filled) v 0 (omega (arith, only.size, size))

    other : (i : ℕ) → (i ≡ slot_address (pred k.frames) t.filled → ⊥) → cell w' i ≡ cell w₁ i
    other i n = ap (λ (x : List ℕ). cell x i) stored ∙ get_or-set_other w₁ (slot_address (pred k.frames) t.filled) i v 0 n

    pub stored_only : Only (object_address 0) state_end w w'
    stored_only =
        Only-trans (Only-widen (omega arith) (omega arith) only)
        (subst (Only (object_address 0) state_end w₁) (sym stored) (Only-set (object_address 0) state_end w₁ (slot_address (pred k.frames) t.filled) v (omega arith) (omega arith)))

    same : SameTable w w'
    same i h = stored_only.below i (omega arith)

    above : (i : ℕ) → frame_address 0 ≤ i → (i ≡ slot_address (pred k.frames) t.filled → ⊥) → cell w' i ≡ cell w i
    above i h n = other i n ∙ only.above i h

    -- the state is the one that moved on, with as many objects as there are now
    moved_on_lem : (n steps : ℕ)
        → moved_on (objects_in (sheet_in w) w₁ n) (state_in (sheet_in w) w t k) (instrs_in w (t.next + 1) (t.end - (t.next + 1))) v
        ≡ state_in (sheet_in w) w' (filled (past t)) (record { steps = steps; objects = n; frames = k.frames })
    moved_on_lem n steps = sym (λ p. record { objects = objects p; top = top p; below = below p })
      where
        objects : objects_in (sheet_in w) w' n ≡ objects_in (sheet_in w) w₁ n
        objects = objects_same (sheet_in w) w₁ w' n (λ i l u. other i (omega arith))

        top : frame_from w' (pred k.frames) (filled (past t)) ≡ with_slot (frame_from w (pred k.frames) (past t)) v
        top = slot_added w w' same (pred k.frames) (past t) v (omega arith) (λ i l u n. above i (omega arith) n) here

        below : below_in w' (pred k.frames) ≡ below_in w (pred k.frames)
        below =
            below_same w w' same (pred k.frames) (omega (arith, frames_few))
            (λ i l u. above i l (let q = frames_few in omega arith))

    pub Took-moved : (n steps : ℕ) (a : Action)
        → next_step (sheet_in w) (state_in (sheet_in w) w t k) ≡ step a (moved_on (objects_in (sheet_in w) w₁ n) (state_in (sheet_in w) w t k) (instrs_in w (t.next + 1) (t.end - (t.next + 1))) v)
        → Took w t k w' (filled (past t)) (record { steps = steps; objects = n; frames = k.frames })
    Took-moved n steps a e =
        record {
          action = a;
          next = e ∙ ap (step a) (moved_on_lem n steps);
          only = stored_only;
          ending =
              record {
                frames = r.ending.frames;
                top = r.ending.top;
                below = λ f h. subst (λ (x : ℕ). x ≤ 1024) (sym (above (frame_address f + 3) (omega arith) (let q = frames_few in omega arith))) (r.ending.below f h);
              };
        }

-- an instruction left

module _ (w : List ℕ) (t : Top) (k : Tally) (i : Instr) (a : Facing w t k i) where
  pub code_is : instrs_in w t.next (t.end - t.next) ≡ i ∷ instrs_in w (t.next + 1) (t.end - (t.next + 1))
  code_is =
      code_next w t.next t.end a.left
      ∙ ap (λ (x : Instr). x ∷ instrs_in w (t.next + 1) (t.end - (t.next + 1))) a.instr

  pub next_small : t.next < 1024
  next_small = omega (arith, a.left, a.running.ending.top)

  pub filled_small : t.filled < 42
  filled_small = omega (arith, a.left, room w t k a.running)

  -- so that the next slot of the frame in hand can be filled, in any buffer as long as this
  pub fill_asks : (f : ℕ) → f ≡ pred k.frames → (w₁ : List ℕ) → length w₁ ≡ length w → (f < 64) × (t.filled < 42) × (t.next < 1024) × (work_size ≤ length w₁)
  fill_asks f e w₁ l =
      (omega (arith, e, frames_few w t k a.running, a.running.ending.frames), filled_small, next_small, omega (arith, l, size w t k a.running))

  -- and a filled slot read
  pub slot_asks : (f : ℕ) → f ≡ pred k.frames → (v : ℕ) → v < t.filled → (f < 64) × (v < 44) × (work_size ≤ length w)
  slot_asks f e v h =
      (omega (arith, e, frames_few w t k a.running, a.running.ending.frames), omega (arith, h, filled_small), size w t k a.running)
