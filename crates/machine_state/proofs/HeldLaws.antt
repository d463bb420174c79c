-- Laws of the state that the buffer holds: what depends on which numbers, one slot more, and what is left of a frame's code.
-- Assumes nothing.
use Prim.Native.Nat.{ℕ, zero, suc, ◌+◌, ◌-◌, ◌*◌, ◌≤◌, ◌<◌}
use native.Mathlib.Omega.{arith}
use native.Mathlib.Numerals.{add-one}
use mathlib.Core.Path.{◌≡◌, refl, ap, ◌∙◌}
use mathlib.Core.List.{List, [], ◌∷◌, ◌++◌}
use lib.ListN.{length, set, length-set}
use lib.Seq.{get_or-set_same, get_or-set_other}
use Rattle.lists.specs.Tab.{tab}
use Rattle.lists.proofs.TabLaws.{tab-suc, tab_ext, tab-cons, length-tab}
use Rattle.sheet_rules.specs.Sheet.{Sheet}
use Rattle.machine_rules.specs.State.{filled as with_slot}
use Rattle.table.specs.Layout.{object_address, frame_address, work_size, kept_address, field_address, slot_address}
use Rattle.table.specs.View.{cell, instr_in, instrs_in}
use Rattle.table.specs.Only.{Only}
use Rattle.table.proofs.ViewLaws.{SameFrom, SameTable, instrs_in_same, Only-trans, Only-set}
use Rattle.machine_state.specs.declared.Top.{Top}
use Rattle.machine_state.specs.Held.{kept_count, field_count, object_in, objects_in, slots_in, own_from, frame_from, top_in, filled, below_in, saved_put}

-- an object depends on the 17 numbers of its block alone

module _ (s : Sheet) (w w' : List ℕ) where
  pub object_same : (o : ℕ) → SameFrom (object_address o) 17 w w' → object_in s w' o ≡ object_in s w o
  unfolding object_in
  object_same o h = λ p. record { form = form p; kept = kept p; fields = fields p }
    where
      form : cell w' (object_address o) ≡ cell w (object_address o)
      form = h (object_address o) (omega arith) (omega arith)

      kept : tab (λ i. cell w' (kept_address o i)) (kept_count s (cell w' (object_address o))) ≡ tab (λ i. cell w (kept_address o i)) (kept_count s (cell w (object_address o)))
      kept =
          ap (λ (f : ℕ). tab (λ i. cell w' (kept_address o i)) (kept_count s f)) form
          ∙ tab_ext (λ i. cell w' (kept_address o i)) (λ i. cell w (kept_address o i)) (kept_count s (cell w (object_address o))) (λ i k. h (kept_address o i) (omega arith) (omega arith))

      fields : tab (λ i. cell w' (field_address o i)) (field_count s (cell w' (object_address o))) ≡ tab (λ i. cell w (field_address o i)) (field_count s (cell w (object_address o)))
      fields =
          ap (λ (f : ℕ). tab (λ i. cell w' (field_address o i)) (field_count s f)) form
          ∙ tab_ext (λ i. cell w' (field_address o i)) (λ i. cell w (field_address o i)) (field_count s (cell w (object_address o))) (λ i k. h (field_address o i) (omega arith) (omega arith))

  pub objects_same : (n : ℕ) → ((i : ℕ) → object_address 0 ≤ i → i < frame_address 0 → cell w' i ≡ cell w i) → objects_in s w' n ≡ objects_in s w n
  objects_same n h = tab_ext (object_in s w') (object_in s w) n (λ o k. object_same o (λ i l u. h i (omega arith) (omega arith)))

-- a frame depends on its slots and on the table; where it stood when it was kept, on the four numbers before them

module _ (w w' : List ℕ) (table : SameTable w w') where
  pub slots_same : (f n : ℕ) → SameFrom (frame_address f + 4) 44 w w' → slots_in w' f n ≡ slots_in w f n
  slots_same f n h = tab_ext (λ v. cell w' (slot_address f v)) (λ v. cell w (slot_address f v)) n (λ v k. h (slot_address f v) (omega arith) (omega arith))

  pub frame_same : (f : ℕ) (t : Top) → SameFrom (frame_address f + 4) 44 w w' → frame_from w' f t ≡ frame_from w f t
  frame_same f t h =
      λ p. record { own = own_from t.own; slots = slots_same f t.filled h p; code = instrs_in_same w w' table t.next (t.end - t.next) p }

  pub top_same : (f : ℕ) → SameFrom (frame_address f) 4 w w' → top_in w' f ≡ top_in w f
  top_same f h =
      λ p. record {
        own = h (frame_address f) (omega arith) (omega arith) p;
        filled = h (frame_address f + 1) (omega arith) (omega arith) p;
        next = h (frame_address f + 2) (omega arith) (omega arith) p;
        end = h (frame_address f + 3) (omega arith) (omega arith) p;
      }

  pub below_same : (d : ℕ) → d ≤ 64 → ((i : ℕ) → frame_address 0 ≤ i → i < 24400 + 48 * d → cell w' i ≡ cell w i) → below_in w' d ≡ below_in w d
  unfolding below_in
  below_same zero l h = refl
  below_same (suc d) l h =
      let each : SameFrom (frame_address d) 48 w w' = λ i k u. h i (omega arith) (omega arith) in
      let first : frame_from w' d (top_in w' d) ≡ frame_from w d (top_in w d) = ap (frame_from w' d) (top_same d (λ i k u. each i k (omega arith))) ∙ frame_same d (top_in w d) (λ i k u. each i (omega arith) (omega arith)) in
      λ p. first p ∷ below_same d (omega arith) (λ i k u. h i k (omega arith)) p

  -- one slot more
  pub slot_added : (f : ℕ) (t : Top) (v : ℕ) → t.filled < 44
      → ((i : ℕ) → frame_address f ≤ i → i < frame_address f + 48 → (i ≡ slot_address f t.filled → ⊥) → cell w' i ≡ cell w i)
      → cell w' (slot_address f t.filled) ≡ v → frame_from w' f (filled t) ≡ with_slot (frame_from w f t) v
  slot_added f t v few rest here =
      λ p. record { own = own_from t.own; slots = slots p; code = instrs_in_same w w' table t.next (t.end - t.next) p }
    where
      slots : slots_in w' f (t.filled + 1) ≡ slots_in w f t.filled ++ (v ∷ [])
      slots =
          ap (slots_in w' f) (add-one t.filled)
          ∙ tab-suc (λ i. cell w' (slot_address f i)) t.filled
          ∙ (λ p. tab_ext (λ i. cell w' (slot_address f i)) (λ i. cell w (slot_address f i)) t.filled (λ i k. rest (slot_address f i) (omega arith) (omega arith) (omega arith)) p ++ (here p ∷ []))

-- what is left of a frame's code

pub code_next : (w : List ℕ) (p e : ℕ) → p < e → instrs_in w p (e - p) ≡ instr_in w p ∷ instrs_in w (p + 1) (e - (p + 1))
code_next w p e h =
    let count : e - p ≡ suc (e - (p + 1)) = omega arith in
    let first : p + 0 ≡ p = omega arith in
    ap (instrs_in w p) count
    ∙ tab-cons (λ k. instr_in w (p + k)) (e - (p + 1))
    ∙ (λ x. instr_in w (first x) ∷ tab_ext (λ k. instr_in w (p + suc k)) (λ k. instr_in w (p + 1 + k)) (e - (p + 1)) (λ k u. ap (instr_in w) (omega arith)) x)

pub code_end : (w : List ℕ) (p e : ℕ) → e ≤ p → instrs_in w p (e - p) ≡ []
unfolding tab
code_end w p e h = let none : e - p ≡ 0 = omega arith in ap (instrs_in w p) none

-- the frames below: none, or one and those below it

pub below_none : (w : List ℕ) (n : ℕ) → n ≡ 0 → below_in w n ≡ []
unfolding below_in
below_none w n e = ap (below_in w) e

pub below_next : (w : List ℕ) (n d : ℕ) → n ≡ suc d → below_in w n ≡ frame_from w d (top_in w d) ∷ below_in w d
unfolding below_in
below_next w n d e = ap (below_in w) e

-- how many of everything there are

pub objects_count : (s : Sheet) (w : List ℕ) (n : ℕ) → length (objects_in s w n) ≡ n
objects_count s w n = length-tab (object_in s w) n

pub slots_count : (w : List ℕ) (f n : ℕ) → length (slots_in w f n) ≡ n
slots_count w f n = length-tab (λ v. cell w (slot_address f v)) n

pub code_count : (w : List ℕ) (p e : ℕ) → length (instrs_in w p (e - p)) ≡ e - p
code_count w p e = length-tab (λ k. instr_in w (p + k)) (e - p)

pub below_count : (w : List ℕ) (d : ℕ) → length (below_in w d) ≡ d
unfolding below_in
below_count w zero = refl
below_count w (suc d) = ap suc (below_count w d)

-- a frame that is kept

module _ (w : List ℕ) (f : ℕ) (t : Top) (size : work_size ≤ length w) where
  pub saved_only : Only (frame_address f) (frame_address f + 4) w (saved_put w f t)
  unfolding saved_put
  saved_only =
      Only-trans (Only-trans (Only-trans
      (Only-set (frame_address f) (frame_address f + 4) w (frame_address f) t.own (omega arith) (omega arith))
      (Only-set (frame_address f) (frame_address f + 4) _ (frame_address f + 1) t.filled (omega arith) (omega arith)))
      (Only-set (frame_address f) (frame_address f + 4) _ (frame_address f + 2) t.next (omega arith) (omega arith)))
      (Only-set (frame_address f) (frame_address f + 4) _ (frame_address f + 3) t.end (omega arith) (omega arith))

  pub saved_top : top_in (saved_put w f t) f ≡ t
  unfolding saved_put
  saved_top = λ p. record { own = own p; filled = filled_is p; next = next p; end = end p }
    where
      w₁ : List ℕ
      w₁ = set w (frame_address f) t.own

      w₂ : List ℕ
      w₂ = set w₁ (frame_address f + 1) t.filled

      w₃ : List ℕ
      w₃ = set w₂ (frame_address f + 2) t.next

      size₁ : work_size ≤ length w₁
      size₁ = omega (arith, length-set w (frame_address f) t.own)

      size₂ : work_size ≤ length w₂
      size₂ = omega (arith, size₁, length-set w₁ (frame_address f + 1) t.filled)

      size₃ : work_size ≤ length w₃
      size₃ = omega (arith, size₂, length-set w₂ (frame_address f + 2) t.next)

      end : cell (set w₃ (frame_address f + 3) t.end) (frame_address f + 3) ≡ t.end
      end = get_or-set_same w₃ (frame_address f + 3) t.end 0 (omega (arith, size₃))

      next : cell (set w₃ (frame_address f + 3) t.end) (frame_address f + 2) ≡ t.next
      next =
          get_or-set_other w₃ (frame_address f + 3) (frame_address f + 2) t.end 0 (omega arith)
          ∙ get_or-set_same w₂ (frame_address f + 2) t.next 0 (omega (arith, size₂))

      filled_is : cell (set w₃ (frame_address f + 3) t.end) (frame_address f + 1) ≡ t.filled
      filled_is =
          get_or-set_other w₃ (frame_address f + 3) (frame_address f + 1) t.end 0 (omega arith)
          ∙ get_or-set_other w₂ (frame_address f + 2) (frame_address f + 1) t.next 0 (omega arith)
          ∙ get_or-set_same w₁ (frame_address f + 1) t.filled 0 (omega (arith, size₁))

      own : cell (set w₃ (frame_address f + 3) t.end) (frame_address f) ≡ t.own
      own =
          get_or-set_other w₃ (frame_address f + 3) (frame_address f) t.end 0 (omega arith)
          ∙ get_or-set_other w₂ (frame_address f + 2) (frame_address f) t.next 0 (omega arith)
          ∙ get_or-set_other w₁ (frame_address f + 1) (frame_address f) t.filled 0 (omega arith)
          ∙ get_or-set_same w (frame_address f) t.own 0 (omega arith)
