-- What the numbers of a row's block tell, at the places where the code reads them: a law for each exit. Assumes nothing.
use Prim.Native.Nat.{ℕ, ◌+◌, ◌≤◌, ◌<◌}
use native.Mathlib.Omega.{arith}
use mathlib.Core.Path.{◌≡◌, ap, ◌∙◌, subst}
use mathlib.Core.List.{List}
use lib.ListN.{length, get_or}
use Rattle.lists.proofs.TabLaws.{length-tab, get_or-tab}
use Rattle.sheet_rules.specs.Limits.{member_limit}
use Rattle.sheet_rules.specs.Sheet.{Row, no_row, no_member, row_at}
use Rattle.sheet_rules.specs.WellFormed.{WellFormedRow}
use Rattle.table.specs.Layout.{row_count_at, row_address, work_size}
use Rattle.table.specs.View.{cell, member_in, row_in, rows_in, sheet_in}
use Rattle.table.specs.Only.{Only}
use Rattle.table.specs.Ready.{Ready}

-- the list of a row's members: how many they are, and which stands where

pub members-length : (w : List ℕ) (i : ℕ) → length (row_in w i).members ≡ cell w (row_address i + 1)
unfolding row_in
members-length w i = length-tab (member_in w i) (cell w (row_address i + 1))

pub members-get_or : (w : List ℕ) (i j : ℕ) → j < cell w (row_address i + 1) → get_or (row_in w i).members j no_member ≡ member_in w i j
unfolding row_in
members-get_or w i j h = get_or-tab (member_in w i) (cell w (row_address i + 1)) j no_member h

-- how many rows a sheet has
pub rows-length : (w : List ℕ) → length (sheet_in w).rows ≡ cell w row_count_at
unfolding sheet_in
rows-length w = length-tab (row_in w) (cell w row_count_at)

-- rows of a well-formed sheet, in a whole buffer
pub rows_ready : (n : ℕ) (w : List ℕ) → work_size ≤ length w → n ≤ 64 → ((i : ℕ) → WellFormedRow i (row_at (rows_in w n) i)) → Ready n w
rows_ready n w size h all = record { size = size; rows = h; few = few }
  where
    few : (i : ℕ) → i < n → cell w (row_address i + 1) ≤ 8
    few i k =
        subst (λ (m : ℕ). m ≤ member_limit) (ap (λ (a : Row). length a.members) (get_or-tab (row_in w) n i no_row k) ∙ members-length w i) (all i).few

-- and where the rows are as they were
pub Ready-kept : (n lo hi : ℕ) (w w' : List ℕ) → row_address 63 + 36 ≤ lo → Only lo hi w w' → Ready n w → Ready n w'
Ready-kept n lo hi w w' l o r =
    record {
      size = omega (arith, o.size, r.size);
      rows = r.rows;
      few = λ i h. (let a = o.below (row_address i + 1) (omega arith) in let b = r.few i h in omega arith);
    }
