-- The walk along two rows in both directions at once: one law for its turns, and one for each way that it ends. Assumes nothing.
use Prim.Native.Nat.{ℕ, ◌+◌, ◌≤◌, ◌<◌}
use native.Mathlib.Omega.{arith}
use mathlib.Core.Path.{◌≡◌, refl, sym, ap, ◌∙◌, subst}
use mathlib.Core.Bool.{Bool, true, false, ◌&&◌}
use mathlib.Core.List.{List}
use lib.Bits.{bit_and, and_le_l}
use lib.Dec.{T}
use Rattle.sheet_rules.specs.declared.Member.{Member}
use Rattle.sheet_rules.specs.RowLines.{name_of, mentions_below}
use Rattle.sheet_rules.specs.WellFormed.{WellFormedRow}
use Rattle.type_rules.proofs.WalkLaws.{answer_from}
use Rattle.table.specs.Layout.{row_address}
use Rattle.table.specs.View.{cell, member_in, row_in}
use Rattle.fit.specs.Told.{first_bit, second_bit, tells, tells_back, SelfFit, Alike, BothMatch, Walked}
use Rattle.fit.proofs.BitLaws.{first_and, second_and}
use Rattle.fit.proofs.MatchLaws.{member_mentions}
use Rattle.fit.proofs.WalkLaws.{onward, onward_alike, onward_met, onward_none, onward_skip, onward_lack, onward_both}

-- what is left of two answers on rows m and k, with what their members from i and j on allow, is what there was with all of them
pub record Going (w : List ℕ) (m k before i j left : ℕ) : Type 0 where
  pub within : left ≤ before
  pub first : (first_bit left && onward (tells w) w m k i j) ≡ (first_bit before && onward (tells w) w m k 0 0)
  pub second : (second_bit left && onward (tells_back w) w k m j i) ≡ (second_bit before && onward (tells_back w) w k m 0 0)

-- a turn takes what it found out of the answers, and out of what is onward

and_moved : (a b c d : Bool) → d ≡ (b && c) → ((a && b) && c) ≡ (a && d)
and_moved true b c d e = sym e
and_moved false b c d e = refl

and_last : (a b : Bool) → b ≡ true → (a && b) ≡ a
and_last true b e = e
and_last false b e = refl

module _ {w : List ℕ} {m k before : ℕ} where
  -- the walk begins after members that are the same in both rows
  pub begun : {n : ℕ} → WellFormedRow m (row_in w m) → WellFormedRow k (row_in w k) → SelfFit m w → Alike w m k n
      → Going w m k before n n before
  begun {n} p q self a =
      record {
        within = omega arith;
        first = ap (λ (b : Bool). first_bit before && b) (sym (onward_alike (tells w) w m k m n there p.names q.names a.first a.second a.same lower));
        second =
            ap (λ (b : Bool). second_bit before && b)
            (sym (onward_alike (tells_back w) w k m m n back q.names p.names a.second a.first (λ t u. sym (a.same t u))
            (λ t u. subst (λ (x : Member). T (mentions_below m x)) (a.same t u) (lower t u))));
      }
    where
      there : (x : ℕ) → x < m → tells w x x ≡ true
      there x u = ap first_bit (self x u)

      back : (x : ℕ) → x < m → tells_back w x x ≡ true
      back x u = ap second_bit (self x u)

      lower : (t : ℕ) → t < n → T (mentions_below m (member_in w m t))
      lower t u = member_mentions w m p t (let e = a.first in omega arith)

  module _ {i j left : ℕ} (g : Going w m k before i j left) where
    pub turned : (i' j' found : ℕ) → onward (tells w) w m k i j ≡ (first_bit found && onward (tells w) w m k i' j')
        → onward (tells_back w) w k m j i ≡ (second_bit found && onward (tells_back w) w k m j' i') → Going w m k before i' j' (bit_and left found)
    turned i' j' found p q =
        record {
          within = (let h = and_le_l left found in let l = g.within in omega arith);
          first =
              ap (λ (b : Bool). b && onward (tells w) w m k i' j') (first_and left found)
              ∙ and_moved (first_bit left) (first_bit found) (onward (tells w) w m k i' j') (onward (tells w) w m k i j) p
              ∙ g.first;
          second =
              ap (λ (b : Bool). b && onward (tells_back w) w k m j' i') (second_and left found)
              ∙ and_moved (second_bit left) (second_bit found) (onward (tells_back w) w k m j' i') (onward (tells_back w) w k m j i) q
              ∙ g.second;
        }

    -- the walk ends: nothing is left to ask for either way
    pub ended : onward (tells w) w m k i j ≡ true → onward (tells_back w) w k m j i ≡ true → Walked w m k before left
    unfolding onward answer_from
    ended p q =
        record {
          within = g.within;
          first = sym (and_last (first_bit left) (onward (tells w) w m k i j) p) ∙ g.first;
          second = sym (and_last (second_bit left) (onward (tells_back w) w k m j i) q) ∙ g.second;
        }

    -- or no answer is left
    pub spent : left ≡ 0 → Walked w m k before 0
    unfolding onward answer_from
    spent e =
        record {
          within = omega arith;
          first = sym (ap (λ (n : ℕ). first_bit n && onward (tells w) w m k i j) e) ∙ g.first;
          second = sym (ap (λ (n : ℕ). second_bit n && onward (tells_back w) w k m j i) e) ∙ g.second;
        }

  -- or one row has members left that the other lacks
  pub stopped : {i j left : ℕ} (found : ℕ) → Going w m k before i j left → onward (tells w) w m k i j ≡ first_bit found
      → onward (tells_back w) w k m j i ≡ second_bit found → Walked w m k before (bit_and left found)
  unfolding onward answer_from
  stopped {i} {j} {left} found g p q =
      record {
        within = (let h = and_le_l left found in let l = g.within in omega arith);
        first = first_and left found ∙ ap (λ (b : Bool). first_bit left && b) (sym p) ∙ g.first;
        second = second_and left found ∙ ap (λ (b : Bool). second_bit left && b) (sym q) ∙ g.second;
      }

-- what the code meets on its way, where row m has x members and row k has y

module _ {w : List ℕ} {m k before i j left x y : ℕ} (p : WellFormedRow m (row_in w m)) (q : WellFormedRow k (row_in w k)) (ex : x ≡ cell w (row_address m + 1)) (ey : y ≡ cell w (row_address k + 1))
    (g : Going w m k before i j left) where
  pub both_ended : x ≤ i → y ≤ j → Walked w m k before left
  both_ended h l = ended g (onward_met (tells w) w m k i j (omega arith)) (onward_met (tells_back w) w k m j i (omega arith))

  pub first_ended : x ≤ i → j < y → Walked w m k before (bit_and left 2)
  first_ended h l = stopped 2 g (onward_none (tells w) w m k i j (omega arith) (omega arith)) (onward_met (tells_back w) w k m j i (omega arith))

  pub second_ended : i < x → y ≤ j → Walked w m k before (bit_and left 1)
  second_ended h l = stopped 1 g (onward_met (tells w) w m k i j (omega arith)) (onward_none (tells_back w) w k m j i (omega arith) (omega arith))

  module _ (h : i < x) (l : j < y) where
    pub first_lower : name_of (member_in w m i) < name_of (member_in w k j) → Going w m k before (i + 1) j (bit_and left 1)
    first_lower e =
        turned g (i + 1) j 1 (onward_skip (tells w) w m k i j p.names q.names (omega arith) (omega arith) e)
        (onward_lack (tells_back w) w k m j i q.names p.names (omega arith) (omega arith) e)

    pub second_lower : name_of (member_in w k j) < name_of (member_in w m i) → Going w m k before i (j + 1) (bit_and left 2)
    second_lower e =
        turned g i (j + 1) 2 (onward_lack (tells w) w m k i j p.names q.names (omega arith) (omega arith) e)
        (onward_skip (tells_back w) w k m j i q.names p.names (omega arith) (omega arith) e)

    pub one_name : name_of (member_in w m i) ≡ name_of (member_in w k j) → {r : ℕ} → BothMatch w (member_in w m i) (member_in w k j) r
        → Going w m k before (i + 1) (j + 1) (bit_and left r)
    one_name e {r} b =
        turned g (i + 1) (j + 1) r
        (onward_both (tells w) w m k i j p.names q.names (omega arith) (omega arith) e
        ∙ ap (λ (t : Bool). t && onward (tells w) w m k (i + 1) (j + 1)) (sym b.first))
        (onward_both (tells_back w) w k m j i q.names p.names (omega arith) (omega arith) (sym e)
        ∙ ap (λ (t : Bool). t && onward (tells_back w) w k m (j + 1) (i + 1)) (sym b.second))
