-- Eleven numbers stored in the pool are an instruction. Assumes nothing.
use Prim.Native.Nat.{ℕ, suc, ◌+◌, ◌≤◌, ◌<◌}
use native.Mathlib.Omega.{arith}
use native.Mathlib.Decide.{dec_le}
use mathlib.Core.Path.{◌≡◌, sym, ap, ◌∙◌, subst}
use mathlib.Core.List.{List}
use lib.ListN.{length, get_or, set, length-set}
use lib.Seq.{get_or-set_same, get_or-set_other}
use Rattle.lists.proofs.TabLaws.{tab_is}
use Rattle.sheet_rules.specs.declared.Operation.{Operation}
use Rattle.table.specs.Layout.{instr_address, number_count_address, number_address, work_size}
use Rattle.table.specs.View.{cell, operation_code, numbers_in, instr_from, instr_in}
use Rattle.table.specs.Stores.{operation_put}
use Rattle.table.specs.Only.{Only}
use Rattle.table.proofs.ViewLaws.{Only-refl, Only-set, Only-trans, Only-widen}
use Rattle.instr_reader.specs.Reads.{StoredInstr}

-- the first k numbers of instruction p are stored, and nothing else has changed
pub record Storing (p k : ℕ) (ns : List ℕ) (w w' : List ℕ) : Type 0 where
  pub only : Only (number_address p 0) (number_address p k) w w'
  pub stored : (m : ℕ) → m < k → cell w' (number_address p m) ≡ get_or ns m 0

pub storing_start : (p : ℕ) (ns w : List ℕ) → Storing p 0 ns w w
storing_start p ns w = record { only = Only-refl (number_address p 0) (number_address p 0) w; stored = λ m h. absurd (omega arith) }

pub storing_next : {p k : ℕ} {ns w w' w'' : List ℕ} → Storing p k ns w w' → p < 1024 → k < 9 → work_size ≤ length w → w'' ≡ set w' (number_address p k) (get_or ns k 0) → Storing p (k + 1) ns w w''
storing_next {p} {k} {ns} {w} {w'} g hp hk size e =
    subst (Storing p (k + 1) ns w) (sym e)
    (record {
      only =
          Only-trans (Only-widen (omega arith) (omega arith) g.only)
          (Only-set (number_address p 0) (number_address p (k + 1)) w' (number_address p k) (get_or ns k 0) (omega arith) (omega arith));
      stored = λ m h. go m h (dec_le (suc m) k);
    })
  where
    go : (m : ℕ) → m < k + 1 → Dec (suc m ≤ k) → cell (set w' (number_address p k) (get_or ns k 0)) (number_address p m) ≡ get_or ns m 0
    go m h (yes l) = get_or-set_other w' (number_address p k) (number_address p m) (get_or ns k 0) 0 (λ x. omega arith) ∙ g.stored m l
    go m h (no l) =
        let i : k ≡ m = omega arith in
        subst (λ (j : ℕ). cell (set w' (number_address p k) (get_or ns k 0)) (number_address p j) ≡ get_or ns j 0) i
        (get_or-set_same w' (number_address p k) (get_or ns k 0) 0 (omega (arith, g.only.size, size)))

-- what storing leaves
pub stored_all : (operation : Operation) (count : ℕ) {w w₁ w' ns : List ℕ} {p : ℕ} → p < 1024 → work_size ≤ length w → length ns ≡ 9 → w₁ ≡ operation_put w p operation count → {k : ℕ} → 9 ≤ k → k ≤ 9
    → Storing p k ns w₁ w' → StoredInstr p (instr_from (operation_code operation) count ns) w w'
unfolding instr_in
stored_all operation count {w} {w₁} {w'} {ns} {p} hp size nine e {k} lo hi g =
    record {
      holds = λ x. instr_from (code x) (counted x) (numbers x);
      only =
          Only-trans (subst (Only (instr_address p) (instr_address p + 11) w) (sym e) head_only)
          (Only-widen (omega arith) (omega arith) g.only);
    }
  where
    head_only : Only (instr_address p) (instr_address p + 11) w (operation_put w p operation count)
    head_only =
        Only-trans (Only-set (instr_address p) (instr_address p + 11) w (instr_address p) (operation_code operation) (omega arith) (omega arith))
        (Only-set (instr_address p) (instr_address p + 11) (set w (instr_address p) (operation_code operation)) (number_count_address p) count (omega arith) (omega arith))

    code : cell w' (instr_address p) ≡ operation_code operation
    code =
        g.only.below (instr_address p) (omega arith) ∙ ap (λ (x : List ℕ). cell x (instr_address p)) e
        ∙ get_or-set_other (set w (instr_address p) (operation_code operation)) (number_count_address p) (instr_address p) count 0 (λ x. omega arith)
        ∙ get_or-set_same w (instr_address p) (operation_code operation) 0 (omega arith)

    counted : cell w' (number_count_address p) ≡ count
    counted =
        g.only.below (number_count_address p) (omega arith) ∙ ap (λ (x : List ℕ). cell x (number_count_address p)) e
        ∙ get_or-set_same (set w (instr_address p) (operation_code operation)) (number_count_address p) count 0 (omega (arith, length-set w (instr_address p) (operation_code operation)))

    numbers : numbers_in w' p ≡ ns
    numbers = tab_is (λ m. cell w' (number_address p m)) 9 ns 0 nine (λ m h. sym (g.stored m (omega arith)))
