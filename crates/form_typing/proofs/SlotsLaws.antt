-- The rows of a body's first slots, put in place. Assumes nothing.
use Prim.Native.Nat.{ℕ, zero, suc, ◌+◌, ◌≤◌, ◌<◌}
use native.Mathlib.Omega.{arith}
use native.Mathlib.Decide.{dec_le}
use mathlib.Core.Path.{◌≡◌, refl, sym, ap, ◌∙◌, subst}
use mathlib.Core.List.{List}
use lib.ListN.{length, get_or, set}
use lib.Seq.{get_or-set_same, get_or-set_other, ext_get_or}
use Rattle.lists.proofs.TabLaws.{length-tab, get_or-tab}
use Rattle.sheet_rules.specs.Sheet.{Sheet, form_at}
use Rattle.type_rules.specs.SlotRows.{body_rows}
use Rattle.table.specs.Layout.{slot_row_address, work_size}
use Rattle.table.specs.View.{cell, sheet_in}
use Rattle.table.specs.Told.{slot_rows_in}
use Rattle.table.proofs.ViewLaws.{Only-refl, Only-set, Only-trans}
use Rattle.code_typing.specs.Told.{OnlySlots}
use Rattle.code_typing.proofs.CodeLaws.{slots_sheet}
use Rattle.form_typing.specs.Told.{KeepsPut, SlotsFilled}

-- the row of one slot set
pub slot_only : (w : List ℕ) (v r : ℕ) → OnlySlots w (set w (slot_row_address v) r)
slot_only w v r = Only-set (slot_row_address 0) (slot_row_address 63 + 1) w (slot_row_address v) r (omega arith) (omega arith)

-- the loop over kept rows
pub keeps_start : {f : ℕ} {w₀ : List ℕ} → KeepsPut f 0 w₀ w₀
keeps_start {w₀ = w₀} = record { kept = λ i h. absurd (omega arith); first = λ i h. refl; only = Only-refl (slot_row_address 0) (slot_row_address 63 + 1) w₀ }

pub keeps_next : {f : ℕ} {w₀ w : List ℕ} {k : ℕ} → KeepsPut f k w₀ w → k < 8 → work_size ≤ length w₀ → {v : List ℕ} → v ≡ w → {r : ℕ} → r ≡ get_or (form_at (sheet_in v) f).keeps k 0
    → {w' : List ℕ} → w' ≡ set w (slot_row_address (2 + k)) r → KeepsPut f (k + 1) w₀ w'
keeps_next {f} {w₀} {w} {k} g few size {v} same {r} e {w'} s =
    record {
      kept = kept;
      first = λ i h. ap (λ (x : List ℕ). cell x (slot_row_address i)) s ∙ get_or-set_other w (slot_row_address (2 + k)) (slot_row_address i) r 0 (λ c. omega arith) ∙ g.first i h;
      only = Only-trans g.only (subst (OnlySlots w) (sym s) (slot_only w (2 + k) r));
    }
  where
    kept : (i : ℕ) → i < k + 1 → cell w' (slot_row_address (2 + i)) ≡ get_or (form_at (sheet_in w₀) f).keeps i 0
    kept i h = go (dec_le (suc i) k)
      where
        go : Dec (suc i ≤ k) → cell w' (slot_row_address (2 + i)) ≡ get_or (form_at (sheet_in w₀) f).keeps i 0
        go (yes m) =
            ap (λ (x : List ℕ). cell x (slot_row_address (2 + i))) s
            ∙ get_or-set_other w (slot_row_address (2 + k)) (slot_row_address (2 + i)) r 0 (λ c. omega arith) ∙ g.kept i m
        go (no m) =
            let q : k ≡ i = omega arith in
            subst (λ (j : ℕ). cell w' (slot_row_address (2 + j)) ≡ get_or (form_at (sheet_in w₀) f).keeps j 0) q
            (ap (λ (x : List ℕ). cell x (slot_row_address (2 + k))) s ∙ get_or-set_same w (slot_row_address (2 + k)) r 0 (omega (arith, g.only.size))
            ∙ e ∙ ap (λ (x : Sheet). get_or (form_at x f).keeps k 0) (ap sheet_in same ∙ slots_sheet g.only))

-- all first slots
module _ (f argument : ℕ) (w : List ℕ) (size : work_size ≤ length w) {v : List ℕ} (same : v ≡ w) {row count : ℕ} (row_is : row ≡ (form_at (sheet_in v) f).row)
    (count-is : count ≡ length (form_at (sheet_in v) f).keeps) (few : count ≤ 8) {w₁ : List ℕ} (e₁ : w₁ ≡ set w (slot_row_address 0) row)
    {w₂ : List ℕ} (e₂ : w₂ ≡ set w₁ (slot_row_address 1) argument) where
  only_first : OnlySlots w w₁
  only_first = subst (OnlySlots w) (sym e₁) (slot_only w 0 row)

  pub two_only : OnlySlots w w₂
  two_only = Only-trans only_first (subst (OnlySlots w₁) (sym e₂) (slot_only w₁ 1 argument))

  slot_0 : cell w₂ (slot_row_address 0) ≡ (form_at (sheet_in w) f).row
  slot_0 =
      ap (λ (x : List ℕ). cell x (slot_row_address 0)) e₂ ∙ get_or-set_other w₁ (slot_row_address 1) (slot_row_address 0) argument 0 (λ c. omega arith)
      ∙ ap (λ (x : List ℕ). cell x (slot_row_address 0)) e₁ ∙ get_or-set_same w (slot_row_address 0) row 0 (omega arith) ∙ row_is ∙ ap (λ (x : List ℕ). (form_at (sheet_in x) f).row) same

  slot_1 : cell w₂ (slot_row_address 1) ≡ argument
  slot_1 = ap (λ (x : List ℕ). cell x (slot_row_address 1)) e₂ ∙ get_or-set_same w₁ (slot_row_address 1) argument 0 (omega (arith, only_first.size))

  pub slots_filled : {w' : List ℕ} → KeepsPut f count w₂ w' → SlotsFilled f argument w w' (2 + count)
  slots_filled {w'} k =
      record {
        rows =
            ext_get_or 0 (slot_rows_in w' (2 + count)) (body_rows (form_at (sheet_in w) f) argument) lengths
            (λ i h. get_or-tab (λ v. cell w' (slot_row_address v)) (2 + count) i 0 (omega (arith, length-tab (λ v. cell w' (slot_row_address v)) (2 + count))) ∙ each i (omega (arith, length-tab (λ v. cell w' (slot_row_address v)) (2 + count))));
        few = omega arith;
        only = Only-trans two_only k.only;
      }
    where
      lengths : length (slot_rows_in w' (2 + count)) ≡ length (body_rows (form_at (sheet_in w) f) argument)
      lengths = length-tab (λ v. cell w' (slot_row_address v)) (2 + count) ∙ omega (arith, count-is, ap (λ (x : List ℕ). length (form_at (sheet_in x) f).keeps) same)

      each : (i : ℕ) → i < 2 + count → cell w' (slot_row_address i) ≡ get_or (body_rows (form_at (sheet_in w) f) argument) i 0
      each zero h = k.first 0 (omega arith) ∙ slot_0
      each (suc zero) h = k.first 1 (omega arith) ∙ slot_1
      each (suc (suc i)) h =
          let p : suc (suc i) ≡ 2 + i = omega arith in
          ap (λ (x : ℕ). cell w' (slot_row_address x)) p ∙ k.kept i (omega arith)
          ∙ ap (λ (x : Sheet). get_or (form_at x f).keeps i 0) (slots_sheet two_only)
