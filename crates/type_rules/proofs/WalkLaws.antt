-- The rule of fit as one walk along two lists of members whose names ascend: a law for each turn and each end, on lists and from two
-- places of them on. Assumes nothing.
use Prim.Native.Nat.{ℕ, zero, suc, ◌+◌, ◌≤◌, ◌<◌}
use native.Mathlib.Omega.{arith}
use native.Mathlib.Numerals.{add-one}
use mathlib.Core.Path.{◌≡◌, refl, sym, ap, ap₂, ◌∙◌, subst}
use mathlib.Core.Bool.{Bool, true, false, cond, ◌&&◌, ◌||◌}
use mathlib.Core.List.{List, [], ◌∷◌}
use lib.Dec.{eqb}
use lib.ListN.{length, get_or, drop, drop_of_length-le}
use lib.Seq.{drop-cons}
use borrow.Author.Tests.{ne_eqb}
use Rattle.sheet_rules.specs.declared.Member.{Member}
use Rattle.sheet_rules.specs.declared.Member.TheVariants.{Method, Field}
use Rattle.sheet_rules.specs.declared.FitAnswer.{FitAnswer}
use Rattle.sheet_rules.specs.declared.FitAnswer.TheVariants.{Yes, Unmet}
use Rattle.sheet_rules.specs.Sheet.{no_member}
use Rattle.sheet_rules.specs.RowLines.{name_of}
use Rattle.sheet_rules.specs.WellFormed.{NamesAscend, end, above}
use Rattle.type_rules.specs.Fit.{matches, has_match, members_answer}

-- names that ascend from i on ascend from any lower number on, and after a member; so do those that are left

ascend_from : {i j : ℕ} {xs : List Member} → i ≤ j → NamesAscend j xs → NamesAscend i xs
ascend_from h end = end
ascend_from {i} h (above {x = x} k r) = above {i = i} {x = x} (omega arith) r

ascend_drop : (n : ℕ) {xs : List Member} → NamesAscend 0 xs → NamesAscend 0 (drop n xs)
ascend_drop zero a = a
ascend_drop (suc n) end = end
ascend_drop (suc n) (above h r) = ascend_drop n (ascend_from (omega arith) r)

pub after : {i : ℕ} {x : Member} {xs : List Member} → NamesAscend i (x ∷ xs) → NamesAscend (suc (name_of x)) xs
after (above h r) = r

-- members of different names never match, so those of higher names have no say

other_name : (f : ℕ → ℕ → Bool) (x y : Member) → (name_of x ≡ name_of y → ⊥) → matches f x y ≡ false
other_name f (Method n a r) (Method m b s) d = ap (λ (t : Bool). t && f b a && f r s) (ne_eqb n m d)
other_name f (Field n r) (Field m s) d = ap (λ (t : Bool). t && eqb r s) (ne_eqb n m d)
other_name f (Method n a r) (Field m s) d = refl
other_name f (Field n r) (Method m b s) d = refl

none_above : (f : ℕ → ℕ → Bool) (y : Member) {i : ℕ} {xs : List Member} → name_of y < i → NamesAscend i xs → has_match f xs y ≡ false
unfolding has_match
none_above f y l end = refl
none_above f y l (above {x = x} {xs = xs} h r) =
    ap (λ (b : Bool). b || has_match f xs y) (other_name f x y (λ e. omega arith))
    ∙ none_above f y (omega arith) r

unneeded : (f : ℕ → ℕ → Bool) (x : Member) (xs : List Member) {i : ℕ} {ys : List Member} → name_of x < i → NamesAscend i ys
    → members_answer f (x ∷ xs) ys ≡ members_answer f xs ys
unfolding members_answer has_match
unneeded f x xs l end = refl
unneeded f x xs l (above {x = y} {xs = ys} h r) =
    ap₂ (λ (b : Bool) (t : FitAnswer). cond (b || has_match f xs y) t (Unmet (name_of y))) (other_name f x y (λ e. omega arith))
    (unneeded f x xs (omega arith) r)

-- two lists that begin with x and y
module _ (f : ℕ → ℕ → Bool) {x y : Member} {xs ys : List Member} {i j : ℕ} (p : NamesAscend i (x ∷ xs)) (q : NamesAscend j (y ∷ ys)) where
  -- x is not asked for
  pub answer_skip : name_of x < name_of y → members_answer f (x ∷ xs) (y ∷ ys) ≡ members_answer f xs (y ∷ ys)
  answer_skip l = unneeded f x xs l (above {i = name_of y} {x = y} (omega arith) (after q))

  -- y is lacking
  pub answer_lack : name_of y < name_of x → members_answer f (x ∷ xs) (y ∷ ys) ≡ Unmet (name_of y)
  unfolding members_answer
  answer_lack l =
      ap (λ (b : Bool). cond b (members_answer f (x ∷ xs) ys) (Unmet (name_of y)))
      (none_above f y l (above {i = name_of x} {x = x} (omega arith) (after p)))

  -- both have one name
  pub answer_both : name_of x ≡ name_of y → members_answer f (x ∷ xs) (y ∷ ys) ≡ cond (matches f x y) (members_answer f xs ys) (Unmet (name_of y))
  unfolding members_answer has_match
  answer_both e =
      ap₂ (λ (b : Bool) (t : FitAnswer). cond (matches f x y || b) t (Unmet (name_of y)))
      (none_above f y (omega arith) (after p))
      (unneeded f x xs (omega arith) (after q))
      ∙ go (matches f x y) (members_answer f xs ys)
    where
      go : (b : Bool) (t : FitAnswer) → cond (b || false) t (Unmet (name_of y)) ≡ cond b t (Unmet (name_of y))
      go true t = refl
      go false t = refl

-- the answer on the members from j on of one list, where those from i on of the other may match
unfoldable pub answer_from : (ℕ → ℕ → Bool) → List Member → List Member → ℕ → ℕ → FitAnswer
answer_from f xs ys i j = members_answer f (drop i xs) (drop j ys)

-- a list from member i on: none, or member i and those after it

pub past : (xs : List Member) (i : ℕ) → length xs ≤ i → drop i xs ≡ []
past xs i h = drop_of_length-le xs h

pub from : (xs : List Member) (i : ℕ) → i < length xs → drop i xs ≡ get_or xs i no_member ∷ drop (i + 1) xs
from xs i h = drop-cons xs i no_member h ∙ ap (λ (k : ℕ). get_or xs i no_member ∷ drop k xs) (sym (add-one i))

ascend_at : (xs : List Member) (i : ℕ) → NamesAscend 0 xs → i < length xs → NamesAscend 0 (get_or xs i no_member ∷ drop (i + 1) xs)
ascend_at xs i a h = subst (NamesAscend 0) (from xs i h) (ascend_drop i a)

module _ (f : ℕ → ℕ → Bool) (xs ys : List Member) (i j : ℕ) where
  -- nothing is asked for any more
  pub walk_met : length ys ≤ j → answer_from f xs ys i j ≡ Yes
  unfolding answer_from members_answer
  walk_met h = ap (members_answer f (drop i xs)) (past ys j h)

  -- nothing is left that could match
  pub walk_none : length xs ≤ i → j < length ys → answer_from f xs ys i j ≡ Unmet (name_of (get_or ys j no_member))
  unfolding answer_from members_answer has_match
  walk_none h k = ap₂ (members_answer f) (past xs i h) (from ys j k)

  module _ (p : NamesAscend 0 xs) (q : NamesAscend 0 ys) (h : i < length xs) (k : j < length ys) where
    x : Member
    x = get_or xs i no_member

    y : Member
    y = get_or ys j no_member

    opened : answer_from f xs ys i j ≡ members_answer f (x ∷ drop (i + 1) xs) (y ∷ drop (j + 1) ys)
    unfolding answer_from x y
    opened = ap₂ (members_answer f) (from xs i h) (from ys j k)

    -- member i is not asked for
    pub walk_skip : name_of (get_or xs i no_member) < name_of (get_or ys j no_member) → answer_from f xs ys i j ≡ answer_from f xs ys (i + 1) j
    unfolding answer_from x y
    walk_skip l = opened ∙ answer_skip f (ascend_at xs i p h) (ascend_at ys j q k) l ∙ ap (members_answer f (drop (i + 1) xs)) (sym (from ys j k))

    -- member j is lacking
    pub walk_lack : name_of (get_or ys j no_member) < name_of (get_or xs i no_member) → answer_from f xs ys i j ≡ Unmet (name_of (get_or ys j no_member))
    unfolding x y
    walk_lack l = opened ∙ answer_lack f (ascend_at xs i p h) (ascend_at ys j q k) l

    -- both have one name
    pub walk_both : name_of (get_or xs i no_member) ≡ name_of (get_or ys j no_member)
        → answer_from f xs ys i j ≡ cond (matches f (get_or xs i no_member) (get_or ys j no_member)) (answer_from f xs ys (i + 1) (j + 1)) (Unmet (name_of (get_or ys j no_member)))
    unfolding answer_from x y
    walk_both e = opened ∙ answer_both f (ascend_at xs i p h) (ascend_at ys j q k) e
