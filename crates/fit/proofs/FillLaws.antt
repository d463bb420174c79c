-- Filling the fit table in ascending order of the larger row settles each cell: what a cell is computed from is settled
-- before it. Assumes nothing.
use Prim.Native.Nat.{ℕ, zero, suc, ◌+◌, ◌≤◌, ◌<◌}
use native.Mathlib.Omega.{arith}
use native.Mathlib.Numerals.{add-one}
use native.Mathlib.Decide.{dec_le, ℕ_discrete}
use mathlib.Core.Path.{◌≡◌, sym, ap, ap₂, ◌∙◌, subst}
use mathlib.Core.Bool.{Bool}
use mathlib.Core.List.{List}
use lib.ListN.{length, get_or, set, length-set, get_or-eq_default}
use lib.Seq.{get_or-set_same, get_or-set_other}
use Rattle.lists.proofs.InLaws.{In-nil}
use Rattle.lists.proofs.TabLaws.{get_or-tab, length-tab}
use Rattle.lists.proofs.Tests.{T→true}
use Rattle.sheet_rules.specs.Answers.{is_yes}
use Rattle.sheet_rules.specs.Sheet.{Row, no_row, row_at}
use Rattle.sheet_rules.specs.WellFormed.{Mentions, LowerRows, WellFormedRow}
use Rattle.type_rules.specs.Fit.{row_answer, fits}
use Rattle.type_rules.proofs.FitLaws.{Agree, row_agree, fit_rule, fits_refl}
use Rattle.table.specs.Layout.{fit_address, table_end, slot_row_address, work_size}
use Rattle.table.specs.View.{cell, row_in, rows_in}
use Rattle.table.specs.Only.{Only}
use Rattle.table.proofs.ViewLaws.{Only-refl, Only-trans, Only-set, only→same, row_in_same}
use Rattle.fit.specs.Told.{two_bits, first_bit, second_bit, tells, tells_back, Comparable, SelfFit, rule_tells, rule_tells_back, pair_filled, pairs_filled, rows_filled, FitFilled}
use Rattle.fit.proofs.BitLaws.{first_bit_lem, second_bit_lem}

-- filling changes the fit table alone

-- w' is w but for the fit table
abbrev pub FitOnly : List ℕ → List ℕ → Type 0
FitOnly w w' = Only table_end (slot_row_address 0) w w'

pub pair_only : (w : List ℕ) (m k : ℕ) → FitOnly w (pair_filled w m k)
unfolding pair_filled
pair_only w m k =
    Only-trans
    (Only-set table_end (slot_row_address 0) w (fit_address m k) said (omega arith) (omega arith))
    (Only-set table_end (slot_row_address 0) (set w (fit_address m k) said) (fit_address k m) (two_bits (rule_tells_back w m k) (rule_tells w m k)) (omega arith) (omega arith))
  where
    said : ℕ
    said = two_bits (rule_tells w m k) (rule_tells_back w m k)

pub pairs_only : (w : List ℕ) (m k : ℕ) → FitOnly w (pairs_filled w m k)
unfolding pairs_filled
pairs_only w m zero = Only-refl table_end (slot_row_address 0) w
pairs_only w m (suc k) = Only-trans (pairs_only w m k) (pair_only (pairs_filled w m k) m k)

pub rows_only : (w : List ℕ) (m : ℕ) → FitOnly w (rows_filled w m)
unfolding rows_filled
rows_only w zero = Only-refl table_end (slot_row_address 0) w
rows_only w (suc m) = Only-trans (rows_only w m) (pairs_only (rows_filled w m) m (suc m))

-- so rows that could be compared stay so, all of them or fewer
pub Comparable-kept : (n m : ℕ) (w w' : List ℕ) → m ≤ n → Comparable n w → FitOnly w w' → Comparable m w'
Comparable-kept n m w w' h r o =
    record {
      size = (let e = o.size in let s = r.size in omega arith);
      few = (let s = r.few in omega arith);
      rows = λ i k. subst (WellFormedRow i) (sym (row_in_same w w' (only→same table_end (slot_row_address 0) w w' (omega arith) o) i)) (r.rows i (omega arith));
    }

-- the loops' equations, at the code's sums

pub pairs_next : (w : List ℕ) (m k : ℕ) → pair_filled (pairs_filled w m k) m k ≡ pairs_filled w m (k + 1)
unfolding pairs_filled
pairs_next w m k = ap (pairs_filled w m) (sym (add-one k))

pub rows_next : (w : List ℕ) (m : ℕ) → pairs_filled (rows_filled w m) m (m + 1) ≡ rows_filled w (m + 1)
unfolding rows_filled
rows_next w m = ap (pairs_filled (rows_filled w m) m) (add-one m) ∙ ap (rows_filled w) (sym (add-one m))

-- the two stores of a pair
pub pair_stored : (w w' w'' : List ℕ) (m k p q said back : ℕ) → said ≡ two_bits (rule_tells w m k) (rule_tells_back w m k)
    → back ≡ two_bits (rule_tells_back w m k) (rule_tells w m k) → p ≡ fit_address m k → w' ≡ set w p said → q ≡ fit_address k m → w'' ≡ set w' q back
    → w'' ≡ pair_filled w m k
unfolding pair_filled
pair_stored w w' w'' m k p q said back t b ep e eq e' =
    e'
    ∙ ap (λ (v : List ℕ). set v q back) e
    ∙ ap₂ (λ (i v : ℕ). set (set w i v) q back) ep t
    ∙ ap₂ (λ (i v : ℕ). set (set w (fit_address m k) (two_bits (rule_tells w m k) (rule_tells_back w m k))) i v) eq b

-- a cell tells what was put there

-- two stores: at the first's place stands the first, or the second where both are the same place and number
set_both : (w : List ℕ) (p q x y : ℕ) → p < length w → (p ≡ q → x ≡ y) → get_or (set (set w p x) q y) p 0 ≡ x
set_both w p q x y h s = go (ℕ_discrete p q)
  where
    go : Dec (p ≡ q) → get_or (set (set w p x) q y) p 0 ≡ x
    go (yes e) =
        subst (λ (r : ℕ). get_or (set (set w p x) r y) p 0 ≡ y) e (get_or-set_same (set w p x) p y 0 (subst (λ (l : ℕ). p < l) (sym (length-set w p x)) h))
        ∙ sym (s e)
    go (no d) = get_or-set_other (set w p x) q p y 0 d ∙ get_or-set_same w p x 0 h

set_neither : (w : List ℕ) (p q r x y : ℕ) → (r ≡ p → ⊥) → (r ≡ q → ⊥) → get_or (set (set w p x) q y) r 0 ≡ get_or w r 0
set_neither w p q r x y d e = get_or-set_other (set w p x) q r y 0 e ∙ get_or-set_other w p r x 0 d

-- which cells are settled: those of the rows below m, and those of row m with the rows below k
pub record Settled (rows : List Row) (w : List ℕ) (m k : ℕ) : Type 0 where
  pub lower : (a b : ℕ) → a < m → b < m → cell w (fit_address a b) ≡ two_bits (fits rows a b) (fits rows b a)
  pub across : (b : ℕ) → b < k → cell w (fit_address m b) ≡ two_bits (fits rows m b) (fits rows b m)
  pub down : (a : ℕ) → a < k → cell w (fit_address a m) ≡ two_bits (fits rows a m) (fits rows m a)

-- the rule's word is right where that on the rows below is
rule_right : (rows : List Row) → LowerRows rows → (f : ℕ → ℕ → Bool) (w : List ℕ) (m a b : ℕ) → ((x y : ℕ) → x < m → y < m → f x y ≡ fits rows x y)
    → a ≤ m → b ≤ m → row_in w a ≡ row_at rows a → row_in w b ≡ row_at rows b → is_yes (row_answer f (row_in w a) (row_in w b)) ≡ fits rows a b
unfolding fits
rule_right rows low f w m a b told p q e g =
    ap₂ (λ (x y : Row). is_yes (row_answer f x y)) e g
    ∙ ap is_yes (row_agree f (fits rows) a b agree (row_at rows a) (row_at rows b) (low a) (low b))
    ∙ ap is_yes (sym (fit_rule rows low a b))
  where
    agree : Agree f (fits rows) a b
    agree x y u v = (told x y (omega arith) (omega arith), told y x (omega arith) (omega arith))

-- and where the rows below are settled, either way
lower_told : (rows : List Row) (w : List ℕ) (m k : ℕ) → Settled rows w m k → (x y : ℕ) → x < m → y < m → tells w x y ≡ fits rows x y
lower_told rows w m k s x y u v = ap first_bit (s.lower x y u v) ∙ first_bit_lem (fits rows x y) (fits rows y x)

lower_told_back : (rows : List Row) (w : List ℕ) (m k : ℕ) → Settled rows w m k → (x y : ℕ) → x < m → y < m → tells_back w x y ≡ fits rows x y
lower_told_back rows w m k s x y u v = ap second_bit (s.lower y x v u) ∙ second_bit_lem (fits rows y x) (fits rows x y)

-- one pair more
pair_settled : (rows : List Row) → LowerRows rows → (w : List ℕ) (m k : ℕ) → Settled rows w m k → k ≤ m → m < 64 → work_size ≤ length w
    → row_in w m ≡ row_at rows m → row_in w k ≡ row_at rows k → Settled rows (pair_filled w m k) m (suc k)
unfolding pair_filled
pair_settled rows low w m k s h l z e g =
    record {
      lower = λ a b p q. other a b (omega arith) (omega arith) ∙ s.lower a b p q;
      across = λ b p. across b p (dec_le (suc b) k);
      down = λ a p. down a p (dec_le (suc a) k);
    }
  where
    there : rule_tells w m k ≡ fits rows m k
    there = rule_right rows low (tells w) w m m k (lower_told rows w m k s) (omega arith) h e g

    back : rule_tells_back w m k ≡ fits rows k m
    back = rule_right rows low (tells_back w) w m k m (lower_told_back rows w m k s) h (omega arith) g e

    said : ℕ
    said = two_bits (rule_tells w m k) (rule_tells_back w m k)

    turned : ℕ
    turned = two_bits (rule_tells_back w m k) (rule_tells w m k)

    w' : List ℕ
    w' = set (set w (fit_address m k) said) (fit_address k m) turned

    other : (a b : ℕ) → (fit_address a b ≡ fit_address m k → ⊥) → (fit_address a b ≡ fit_address k m → ⊥) → cell w' (fit_address a b) ≡ cell w (fit_address a b)
    other a b = set_neither w (fit_address m k) (fit_address k m) (fit_address a b) said turned

    -- a row with itself: both are what fit says
    same : fit_address m k ≡ fit_address k m → said ≡ turned
    same p =
        let d : m ≡ k = omega arith in
        let c : rule_tells w m k ≡ rule_tells_back w m k = there ∙ ap₂ (fits rows) d (sym d) ∙ sym back in
        ap₂ two_bits c (sym c)

    across : (b : ℕ) → b < suc k → Dec (suc b ≤ k) → cell w' (fit_address m b) ≡ two_bits (fits rows m b) (fits rows b m)
    across b p (yes q) = other m b (omega arith) (omega arith) ∙ s.across b q
    across b p (no q) =
        let d : k ≡ b = omega arith in
        subst (λ (x : ℕ). cell w' (fit_address m x) ≡ two_bits (fits rows m x) (fits rows x m)) d
        (set_both w (fit_address m k) (fit_address k m) said turned (omega arith) same ∙ ap₂ two_bits there back)

    down : (a : ℕ) → a < suc k → Dec (suc a ≤ k) → cell w' (fit_address a m) ≡ two_bits (fits rows a m) (fits rows m a)
    down a p (yes q) = other a m (omega arith) (omega arith) ∙ s.down a q
    down a p (no q) =
        let d : k ≡ a = omega arith in
        subst (λ (x : ℕ). cell w' (fit_address x m) ≡ two_bits (fits rows x m) (fits rows m x)) d
        (get_or-set_same (set w (fit_address m k) said) (fit_address k m) turned 0
        (let t : length (set w (fit_address m k) said) ≡ length w = length-set w (fit_address m k) said in omega arith)
        ∙ ap₂ two_bits back there)

-- a row that is done is one of those below the next
row_settled : (rows : List Row) (w : List ℕ) (m : ℕ) → Settled rows w m (suc m) → Settled rows w (suc m) 0
row_settled rows w m s =
    record {
      lower = λ a b p q. go a b p q (dec_le (suc a) m) (dec_le (suc b) m);
      across = λ b p. absurd (omega arith);
      down = λ a p. absurd (omega arith);
    }
  where
    go : (a b : ℕ) → a < suc m → b < suc m → Dec (suc a ≤ m) → Dec (suc b ≤ m) → cell w (fit_address a b) ≡ two_bits (fits rows a b) (fits rows b a)
    go a b p q (yes u) (yes v) = s.lower a b u v
    go a b p q (yes u) (no v) =
        let d : m ≡ b = omega arith in subst (λ (x : ℕ). cell w (fit_address a x) ≡ two_bits (fits rows a x) (fits rows x a)) d (s.down a p)
    go a b p q (no u) v =
        let d : m ≡ a = omega arith in subst (λ (x : ℕ). cell w (fit_address x b) ≡ two_bits (fits rows x b) (fits rows b x)) d (s.across b q)

-- the buffer's own rows, all along

module _ (w : List ℕ) (n : ℕ) (r : Comparable n w) where
  -- they mention lower rows: a row that is not there has no members
  low : LowerRows (rows_in w n)
  low a = go (dec_le (suc a) n)
    where
      go : Dec (suc a ≤ n) → Mentions a (row_at (rows_in w n) a).members
      go (yes h) = subst (λ (b : Row). Mentions a b.members) (sym (get_or-tab (row_in w) n a no_row h)) (r.rows a h).lower
      go (no h) =
          subst (λ (b : Row). Mentions a b.members) (sym (get_or-eq_default (rows_in w n) no_row {n = a} (let e : length (rows_in w n) ≡ n = length-tab (row_in w) n in omega arith)))
          (λ x i. absurd (In-nil i))

  kept : (v : List ℕ) → FitOnly w v → (a : ℕ) → a < n → row_in v a ≡ row_at (rows_in w n) a
  kept v o a h = row_in_same w v (only→same table_end (slot_row_address 0) w v (omega arith) o) a ∙ sym (get_or-tab (row_in w) n a no_row h)

  pairs_settled : (v : List ℕ) (m k : ℕ) → FitOnly w v → m < n → k ≤ suc m → Settled (rows_in w n) v m 0 → Settled (rows_in w n) (pairs_filled v m k) m k
  unfolding pairs_filled
  pairs_settled v m zero o h l s = s
  pairs_settled v m (suc k) o h l s =
      let u : FitOnly w (pairs_filled v m k) = Only-trans o (pairs_only v m k) in
      pair_settled (rows_in w n) low (pairs_filled v m k) m k (pairs_settled v m k o h (omega arith) s) (omega arith)
      (let t = r.few in omega arith)
      (let t = r.size in let e = u.size in omega arith)
      (kept (pairs_filled v m k) u m h) (kept (pairs_filled v m k) u k (omega arith))

  rows_settled : (m : ℕ) → m ≤ n → Settled (rows_in w n) (rows_filled w m) m 0
  unfolding rows_filled
  rows_settled zero h =
      record { lower = λ a b p q. absurd (omega arith); across = λ b p. absurd (omega arith); down = λ a p. absurd (omega arith) }
  rows_settled (suc m) h =
      row_settled (rows_in w n) (pairs_filled (rows_filled w m) m (suc m)) m
      (pairs_settled (rows_filled w m) m (suc m) (rows_only w m) h (omega arith) (rows_settled m (omega arith)))

  pub all_filled : FitFilled n w (rows_filled w n)
  all_filled = record { only = rows_only w n; cells = λ a b p q. (rows_settled n (omega arith)).lower a b p q }

  -- and each row that is done fits itself
  pub rows_self : (m : ℕ) → m ≤ n → SelfFit m (rows_filled w m)
  rows_self m h a k = (rows_settled m h).lower a a k k ∙ ap (λ (b : Bool). two_bits b b) (T→true (fits (rows_in w n) a a) (fits_refl (rows_in w n) a))

-- which stays so while a higher row is filled

across_apart : (a b m k : ℕ) → a < m → b < m → k ≤ m → m < 64 → fit_address a b ≡ fit_address m k → ⊥
across_apart a b m k h l i j e = omega arith

down_apart : (a b m k : ℕ) → a < m → b < m → k ≤ m → m < 64 → fit_address a b ≡ fit_address k m → ⊥
down_apart a b m k h l i j e = omega arith

pub pairs_self : (w : List ℕ) (m k : ℕ) → m < 64 → k ≤ suc m → SelfFit m w → SelfFit m (pairs_filled w m k)
unfolding pairs_filled pair_filled
pairs_self w m zero h l s a u = s a u
pairs_self w m (suc k) h l s a u =
    set_neither (pairs_filled w m k) (fit_address m k) (fit_address k m) (fit_address a a) (two_bits (rule_tells (pairs_filled w m k) m k) (rule_tells_back (pairs_filled w m k) m k))
    (two_bits (rule_tells_back (pairs_filled w m k) m k) (rule_tells (pairs_filled w m k) m k)) (across_apart a a m k u u (omega arith) h) (down_apart a a m k u u (omega arith) h)
    ∙ pairs_self w m k h (omega arith) s a u

-- what a reader of a filled table has: its word is the rule's
pub filled_tells : (n : ℕ) (w w' : List ℕ) → FitFilled n w w' → (a b : ℕ) → a < n → b < n → tells w' a b ≡ fits (rows_in w n) a b
filled_tells n w w' f a b h k = ap first_bit (f.cells a b h k) ∙ first_bit_lem (fits (rows_in w n) a b) (fits (rows_in w n) b a)
