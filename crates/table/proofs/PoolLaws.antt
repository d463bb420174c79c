-- Laws of a buffer that grows by parts and forms: what came before is as it was. Assumes nothing.
use Prim.Native.Nat.{ℕ, ◌+◌, ◌*◌, ◌≤◌, ◌<◌}
use native.Mathlib.Omega.{arith}
use mathlib.Core.Path.{◌≡◌, refl, ap, ◌∙◌}
use mathlib.Core.Bool.{Bool, false, cond}
use mathlib.Core.List.{List}
use lib.Dec.{eqb}
use Rattle.table.specs.Layout.{form_count_at, main_start_at, main_count_at, row_address, form_address, part_address, instr_address, table_end}
use Rattle.table.specs.View.{cell, instr_in, part_in, form_in, row_in}
use Rattle.table.specs.Only.{Only}
use Rattle.table.specs.Pool.{OnlyFrom, part_end, FormEnds, Placed}
use Rattle.table.proofs.ViewLaws.{SameFrom, SameTable, instr_same, part_same, form_same, row_same}

-- OnlyFrom: reflexive, composes while the pool grows, and follows from Only

pub from_refl : (lo p : ℕ) (w : List ℕ) → OnlyFrom lo p w w
from_refl lo p w = record { size = refl; below = λ i h. refl; pool = λ i h k. refl; above = λ i h. refl }

pub from_trans : {lo lo' p p' : ℕ} {w w' w'' : List ℕ} → lo ≤ lo' → p ≤ p' → OnlyFrom lo p w w' → OnlyFrom lo' p' w' w'' → OnlyFrom lo p w w''
from_trans l m f g =
    record {
      size = g.size ∙ f.size;
      below = λ i h. g.below i (omega arith) ∙ f.below i h;
      pool = λ i h k. g.pool i h (omega arith) ∙ f.pool i h k;
      above = λ i h. g.above i h ∙ f.above i h;
    }

pub from→only : (lo p : ℕ) {w w' : List ℕ} → OnlyFrom lo p w w' → Only lo table_end w w'
from→only lo p f = record { size = f.size; below = f.below; above = f.above }

-- below the pool
pub only→from : {lo hi : ℕ} {w w' : List ℕ} (p : ℕ) → hi ≤ instr_address 0 → Only lo hi w w' → OnlyFrom lo p w w'
only→from p h o =
    record { size = o.size; below = o.below; pool = λ i l u. o.above i (omega arith); above = λ i l. o.above i (omega arith) }

-- in the pool
pub instrs→from : {lo : ℕ} {w w' : List ℕ} (p count : ℕ) → lo ≤ instr_address 0 → 1 ≤ count → p + count ≤ 1024
    → Only (instr_address p) (instr_address p + 11 * count) w w' → OnlyFrom lo p w w'
instrs→from p count l s h o =
    record { size = o.size; below = λ i u. o.below i (omega arith); pool = λ i k u. o.below i (omega arith); above = λ i k. o.above i (omega arith) }

-- where a form's parts end depends on its block alone

pub end_same : (w w' : List ℕ) (f j : ℕ) → SameFrom (part_address f j) 3 w w' → part_end w' f j ≡ part_end w f j
end_same w w' f j h =
    λ x. cond (eqb (h (part_address f j) (omega arith) (omega arith) x) 0) 0
    (h (part_address f j + 1) (omega arith) (omega arith) x + h (part_address f j + 2) (omega arith) (omega arith) x)

pub ends_same : (w w' : List ℕ) (f p : ℕ) → SameFrom (form_address f) 36 w w' → FormEnds w f p → FormEnds w' f p
ends_same w w' f p h e =
    let n : cell w' (form_address f + 2) ≡ cell w (form_address f + 2) = h (form_address f + 2) (omega arith) (omega arith) in
    record {
      few = omega (arith, e.few);
      ends = λ j k. (let a = end_same w w' f j (λ i l u. h i (omega arith) (omega arith)) in let b = e.ends j (omega arith) in omega arith);
    }

pub ends_more : (w : List ℕ) (f p q : ℕ) → p ≤ q → FormEnds w f p → FormEnds w f q
ends_more w f p q l e = record { few = e.few; ends = λ j k. (let b = e.ends j k in omega arith) }

-- what came before

module _ (lo p : ℕ) (w w' : List ℕ) (o : OnlyFrom lo p w w') (few : p ≤ 1024) where
  pub instr_kept : (k : ℕ) → k < p → instr_in w' k ≡ instr_in w k
  instr_kept k h = instr_same w w' k (λ i l u. o.pool i (omega arith) (omega arith))

  pub row_kept : row_address 63 + 36 ≤ lo → (i : ℕ) → row_in w' i ≡ row_in w i
  row_kept l i = row_same w w' i (λ k h u. o.below k (omega arith))

  pub end_kept : (f j : ℕ) → part_address f j + 3 ≤ lo → part_end w' f j ≡ part_end w f j
  end_kept f j h = end_same w w' f j (λ k l u. o.below k (omega arith))

  pub part_kept : (f j : ℕ) → part_address f j + 3 ≤ lo → part_end w f j ≤ p → part_in w' f j ≡ part_in w f j
  part_kept f j h e =
      part_same w w' f j (λ k l u. o.below k (omega arith))
      (λ k l u d. instr_kept k (let z = body_end d in omega arith))
    where
      body_end : eqb (cell w (part_address f j)) 0 ≡ false → part_end w f j ≡ cell w (part_address f j + 1) + cell w (part_address f j + 2)
      body_end d = ap (λ (b : Bool). cond b 0 (cell w (part_address f j + 1) + cell w (part_address f j + 2))) d

  pub form_kept : (f : ℕ) → form_address f + 36 ≤ lo → FormEnds w f p → form_in w' f ≡ form_in w f
  form_kept f h e =
      form_same w w' f (λ k l u. o.below k (omega arith))
      (λ j u. part_kept f j (omega arith) (e.ends j u))

  pub FormEnds-kept : (f q : ℕ) → p ≤ q → form_address f + 36 ≤ lo → FormEnds w f p → FormEnds w' f q
  FormEnds-kept f q l h e = ends_more w' f p q l (ends_same w w' f p (λ k a u. o.below k (omega arith)) e)

-- what stands in the pool depends on the table alone
pub Placed-same : (w w' : List ℕ) → SameTable w w' → Placed w → Placed w'
Placed-same w w' h p =
    record {
      forms = λ f l. ends_same w w' f 1024 (λ k a u. h k (omega arith)) (p.forms f (let b = h form_count_at (omega arith) in omega arith));
      main = (let a = h main_start_at (omega arith) in let b = h main_count_at (omega arith) in let c = p.main in omega arith);
    }
