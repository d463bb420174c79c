-- What the fit table tells, and the buffer after each step of filling it. Stands on the table's view and on the rule of fit.
use Rattle.std.specs.Prelude.{ℕ, zero, suc, ◌/◌, ◌%◌, ◌≤◌, ◌<◌, ◌≡◌, Bool, true, false, ◌&&◌, List, T, eqb, length, set}
use Rattle.sheet_rules.specs.declared.Member.{Member}
use Rattle.sheet_rules.specs.Answers.{is_yes}
use Rattle.sheet_rules.specs.RowLines.{name_of, mentions_below, same_member}
use Rattle.sheet_rules.specs.WellFormed.{WellFormedRow}
use Rattle.type_rules.specs.Fit.{matches, members_answer, row_answer, fits}
use Rattle.table.specs.Layout.{member_count_address, table_end, fit_address, slot_row_address, work_size}
use Rattle.table.specs.View.{cell, member_in, row_in, rows_in}
use Rattle.table.specs.Only.{Only}

-- two answers as one number: 1 for the first, 2 for the second
abbrev pub two_bits : Bool → Bool → ℕ
two_bits true true = 3
two_bits true false = 1
two_bits false true = 2
two_bits false false = 0

abbrev pub first_bit : ℕ → Bool
first_bit n = eqb (n % 2) 1

abbrev pub second_bit : ℕ → Bool
second_bit n = first_bit (n / 2)

-- the table's word on row a fitting row b: the first of the cell (a, b), and the second of the cell (b, a)
abbrev pub tells : List ℕ → ℕ → ℕ → Bool
tells w a b = first_bit (cell w (fit_address a b))

abbrev pub tells_back : List ℕ → ℕ → ℕ → Bool
tells_back w a b = second_bit (cell w (fit_address b a))

-- a whole buffer with n rows that were read
pub record Comparable (n : ℕ) (w : List ℕ) : Type 0 where
  pub size : work_size ≤ length w
  pub few : n ≤ 64
  pub rows : (i : ℕ) → i < n → WellFormedRow i (row_in w i)

-- the table says of every row below m that it fits itself
abbrev pub SelfFit : ℕ → List ℕ → Type 0
SelfFit m w = (a : ℕ) → a < m → cell w (fit_address a a) ≡ two_bits true true

-- rows m and k have n members or more, and the first n are the same
pub record Alike (w : List ℕ) (m k n : ℕ) : Type 0 where
  pub first : n ≤ cell w (member_count_address m)
  pub second : n ≤ cell w (member_count_address k)
  pub same : (t : ℕ) → t < n → member_in w m t ≡ member_in w k t

-- and these are all that they begin with: where both have one more, it is not the same
pub record AllAlike (w : List ℕ) (m k n : ℕ) : Type 0 where
  pub alike : Alike w m k n
  pub differ : n < cell w (member_count_address m) → n < cell w (member_count_address k) → same_member (member_in w m n) (member_in w k n) ≡ false

-- member i of row m and member j of row k are there, have one name, and mention rows that the table has
pub record MatchAt (w : List ℕ) (m i k j : ℕ) : Type 0 where
  pub size : work_size ≤ length w
  pub first : (m < 64) × (i < 8) × T (mentions_below 64 (member_in w m i))
  pub second : (k < 64) × (j < 8) × T (mentions_below 64 (member_in w k j))
  pub named : name_of (member_in w m i) ≡ name_of (member_in w k j)

-- r says whether x is the match of y, and y that of x
pub record BothMatch (w : List ℕ) (x y : Member) (r : ℕ) : Type 0 where
  pub first : first_bit r ≡ matches (tells w) x y
  pub second : second_bit r ≡ matches (tells_back w) y x

-- r has of two answers on rows m and k what their members allow: that each member of k has its match in m, and the other way round
pub record Walked (w : List ℕ) (m k before r : ℕ) : Type 0 where
  pub within : r ≤ before
  pub first : first_bit r ≡ (first_bit before && is_yes (members_answer (tells w) (row_in w m).members (row_in w k).members))
  pub second : second_bit r ≡ (second_bit before && is_yes (members_answer (tells_back w) (row_in w k).members (row_in w m).members))

-- the rule's word on rows m and k, where the table's is taken for the rows that their members mention
abbrev pub rule_tells : List ℕ → ℕ → ℕ → Bool
rule_tells w m k = is_yes (row_answer (tells w) (row_in w m) (row_in w k))

abbrev pub rule_tells_back : List ℕ → ℕ → ℕ → Bool
rule_tells_back w m k = is_yes (row_answer (tells_back w) (row_in w k) (row_in w m))

-- the cells (m, k) and (k, m) filled
unfoldable pub pair_filled : List ℕ → ℕ → ℕ → List ℕ
pair_filled w m k =
    set (set w (fit_address m k) (two_bits (rule_tells w m k) (rule_tells_back w m k))) (fit_address k m) (two_bits (rule_tells_back w m k) (rule_tells w m k))

-- the cells of row m with the rows below k filled
unfoldable pub pairs_filled : List ℕ → ℕ → ℕ → List ℕ
pairs_filled w m zero = w
pairs_filled w m (suc k) = pair_filled (pairs_filled w m k) m k

-- the cells of the rows below m filled, each row with itself and those below it
unfoldable pub rows_filled : List ℕ → ℕ → List ℕ
rows_filled w zero = w
rows_filled w (suc m) = pairs_filled (rows_filled w m) m (suc m)

-- the whole table of n rows is filled: each cell says whether its rows fit, there and back, and nothing outside the fit table is changed
pub record FitFilled (n : ℕ) (w w' : List ℕ) : Type 0 where
  pub only : Only table_end (slot_row_address 0) w w'
  pub cells : (a b : ℕ) → a < n → b < n → cell w' (fit_address a b) ≡ two_bits (fits (rows_in w n) a b) (fits (rows_in w n) b a)
