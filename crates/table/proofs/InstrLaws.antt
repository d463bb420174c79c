-- The instruction at a place of the pool, and its slots, by the numbers that the accessors read. Assumes nothing.
use Prim.Native.Nat.{ℕ, ◌+◌, ◌-◌, ◌≤◌, ◌<◌, min}
use native.Mathlib.Omega.{arith}
use mathlib.Core.Path.{◌≡◌, refl, sym, ap, ◌∙◌}
use mathlib.Core.Bool.{Bool, cond}
use mathlib.Core.List.{List}
use lib.ListN.{length, get_or, take, drop, length-take, length-drop, get_or-eq_default}
use lib.Seq.{get_or-take, get_or-drop}
use borrow.Author.Tests.{ne_eqb}
use Rattle.lists.specs.Tab.{tab}
use Rattle.lists.proofs.TabLaws.{length-tab, get_or-tab}
use Rattle.sheet_rules.specs.Sheet.{Instr, new, call, get, put, copy}
use Rattle.sheet_rules.specs.Reader.{nth}
use Rattle.table.specs.Layout.{instr_address, number_count_address, number_address, slot_row_address}
use Rattle.table.specs.View.{cell, numbers_in, instr_from, instr_in}
use Rattle.table.specs.Told.{new_slots, slot_rows_in}

-- an instruction, read from its block's first place

module _ (w : List ℕ) (p b : ℕ) (place : b ≡ instr_address p) where
  number : (k : ℕ) → k < 9 → cell w (b + (2 + k)) ≡ nth (numbers_in w p) k
  number k h = ap (λ (x : ℕ). cell w (x + (2 + k))) place ∙ sym (get_or-tab (λ j. cell w (instr_address p + (2 + j))) 9 k 0 h)

  coded : (c : ℕ) → cell w b ≡ c → instr_from c (cell w (instr_address p + 1)) (numbers_in w p) ≡ instr_in w p
  unfolding instr_in
  coded c e = ap (λ (x : ℕ). instr_from x (cell w (instr_address p + 1)) (numbers_in w p)) (sym e ∙ ap (cell w) place)

  pub instr_new : cell w b ≡ 0 → new (cell w (b + 2)) (new_slots w p) ≡ instr_in w p
  unfolding instr_from new_slots
  instr_new e = ap (λ (f : ℕ). new f (new_slots w p)) (number 0 (omega arith)) ∙ coded 0 e

  pub instr_call : cell w b ≡ 1 → call (cell w (b + 2)) (cell w (b + 3)) (cell w (b + 4)) ≡ instr_in w p
  unfolding instr_from
  instr_call e = (λ x. call (number 0 (omega arith) x) (number 1 (omega arith) x) (number 2 (omega arith) x)) ∙ coded 1 e

  pub instr_get : cell w b ≡ 2 → get (cell w (b + 2)) ≡ instr_in w p
  unfolding instr_from
  instr_get e = ap get (number 0 (omega arith)) ∙ coded 2 e

  pub instr_put : cell w b ≡ 3 → put (cell w (b + 2)) (cell w (b + 3)) ≡ instr_in w p
  unfolding instr_from
  instr_put e = (λ x. put (number 0 (omega arith) x) (number 1 (omega arith) x)) ∙ coded 3 e

  pub instr_copy : (cell w b ≡ 0 → ⊥) → (cell w b ≡ 1 → ⊥) → (cell w b ≡ 2 → ⊥) → (cell w b ≡ 3 → ⊥) → copy (cell w (b + 2)) ≡ instr_in w p
  unfolding instr_from
  instr_copy n c g u =
      ap copy (number 0 (omega arith))
      ∙ sym (λ x. chosen (ne_eqb (cell w b) 0 n x) (ne_eqb (cell w b) 1 c x) (ne_eqb (cell w b) 2 g x) (ne_eqb (cell w b) 3 u x))
      ∙ coded (cell w b) refl
    where
      chosen : Bool → Bool → Bool → Bool → Instr
      chosen a b c d =
          cond a (new (nth (numbers_in w p) 0) (drop 1 (take (cell w (instr_address p + 1)) (numbers_in w p))))
          (cond b (call (nth (numbers_in w p) 0) (nth (numbers_in w p) 1) (nth (numbers_in w p) 2))
          (cond c (get (nth (numbers_in w p) 0)) (cond d (put (nth (numbers_in w p) 0) (nth (numbers_in w p) 1)) (copy (nth (numbers_in w p) 0)))))

-- the slots of a `new`

module _ (w : List ℕ) (p : ℕ) where
  pub slots_length : length (new_slots w p) ≡ min (cell w (number_count_address p)) 9 - 1
  unfolding new_slots
  slots_length =
      length-drop 1 (take (cell w (number_count_address p)) (numbers_in w p))
      ∙ ap (λ (n : ℕ). n - 1) (length-take (cell w (number_count_address p)) (numbers_in w p) ∙ ap (min (cell w (number_count_address p))) (length-tab (λ j. cell w (number_address p j)) 9))

  pub slot_there : (k : ℕ) → k < length (new_slots w p) → cell w (instr_address p + (3 + k)) ≡ get_or (new_slots w p) k 0
  unfolding new_slots
  slot_there k h =
      let l = slots_length in
      let e : instr_address p + (3 + k) ≡ number_address p (1 + k) = omega arith in
      ap (cell w) e ∙ sym (get_or-tab (λ j. cell w (number_address p j)) 9 (1 + k) 0 (omega arith))
      ∙ sym (get_or-take (cell w (number_count_address p)) (numbers_in w p) (1 + k) 0 (omega arith))
      ∙ sym (get_or-drop 1 (take (cell w (number_count_address p)) (numbers_in w p)) k 0)

  -- a place beyond the pool has the instruction of its last one
  same_place : instr_address (min p 1023) ≡ instr_address p
  same_place = omega arith

  pub instr_within : instr_in w (min p 1023) ≡ instr_in w p
  unfolding instr_in
  instr_within = ap (λ (a : ℕ). instr_from (cell w a) (cell w (a + 1)) (tab (λ k. cell w (a + (2 + k))) 9)) same_place

  pub slots_within : new_slots w (min p 1023) ≡ new_slots w p
  unfolding new_slots
  slots_within = ap (λ (a : ℕ). drop 1 (take (cell w (a + 1)) (tab (λ k. cell w (a + (2 + k))) 9))) same_place

pub slot_missing : (ss : List ℕ) (k : ℕ) → length ss ≤ k → 0 ≡ get_or ss k 0
slot_missing ss k h = sym (get_or-eq_default ss 0 h)

-- the row of a slot
pub slot_row_there : (w : List ℕ) (filled v : ℕ) → filled ≤ 64 → v < filled → cell w (slot_row_address v) ≡ get_or (slot_rows_in w filled) v 0
slot_row_there w filled v h l = sym (get_or-tab (λ i. cell w (slot_row_address i)) filled v 0 l)

pub slot_row_missing : (w : List ℕ) (filled v : ℕ) → filled ≤ v → 0 ≡ get_or (slot_rows_in w filled) v 0
slot_row_missing w filled v h = slot_missing (slot_rows_in w filled) v (omega (arith, length-tab (λ i. cell w (slot_row_address i)) filled))
