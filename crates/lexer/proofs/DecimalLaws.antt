-- Scanning a line's numbers finds the decimals between its commas (sheet_rules, Lines.all_decimals and values). Assumes nothing.
use Prim.Native.Nat.{ℕ, ◌+◌, ◌*◌, ◌-◌, ◌≤◌, ◌<◌}
use native.Mathlib.Omega.{arith}
use mathlib.Core.Path.{◌≡◌, refl, sym, ap, ◌∙◌, subst}
use mathlib.Core.Bool.{Bool, true, not, cond, ◌&&◌}
use mathlib.Core.List.{List, [], ◌∷◌, ◌++◌, append-nil}
use lib.Dec.{T, leb, leb→le, le→leb}
use lib.ListN.{length, length-append}
use lib.Seq.{append_snoc}
use borrow.Author.Tests.{ne_eqb}
use Rattle.lists.proofs.Tests.{and_left, and_right, and_intro}
use Rattle.std.specs.declared.option.Option.{Option}
use Rattle.std.specs.declared.option.Option.TheVariants.{Some, None}
use Rattle.sheet_rules.specs.Limits.{decimal_limit}
use Rattle.sheet_rules.specs.Lines.{comma, digit0, digit9, in_front, split_on, all_digits, no_leading_zero, value_from, value_of, is_decimal, all_decimals, values}
use Rattle.lexer.specs.declared.Part.{Part}
use Rattle.lexer.specs.declared.Part.TheVariants.{Empty, Zero, Digits}

-- digits: of a list with another behind it

all_digits_front : (xs ys : List ℕ) → T (all_digits (xs ++ ys)) → T (all_digits xs)
unfolding all_digits
all_digits_front [] ys t = tt
all_digits_front (x ∷ xs) ys t =
    and_intro (leb digit0 x && leb x digit9) (all_digits xs)
    (and_left (leb digit0 x && leb x digit9) (all_digits (xs ++ ys)) t)
    (all_digits_front xs ys (and_right (leb digit0 x && leb x digit9) (all_digits (xs ++ ys)) t))

pub all_digits_snoc : (xs : List ℕ) (b : ℕ) → T (all_digits xs) → T (leb digit0 b && leb b digit9) → T (all_digits (xs ++ (b ∷ [])))
unfolding all_digits
all_digits_snoc [] b s t = and_intro (leb digit0 b && leb b digit9) true t tt
all_digits_snoc (x ∷ xs) b s t =
    and_intro (leb digit0 x && leb x digit9) (all_digits (xs ++ (b ∷ [])))
    (and_left (leb digit0 x && leb x digit9) (all_digits xs) s)
    (all_digits_snoc xs b (and_right (leb digit0 x && leb x digit9) (all_digits xs) s) t)

all_digits_last : (xs : List ℕ) (b : ℕ) → T (all_digits (xs ++ (b ∷ []))) → T (leb digit0 b && leb b digit9)
unfolding all_digits
all_digits_last [] b t = and_left (leb digit0 b && leb b digit9) true t
all_digits_last (x ∷ xs) b t = all_digits_last xs b (and_right (leb digit0 x && leb x digit9) (all_digits (xs ++ (b ∷ []))) t)

pub value_from-append : (v : ℕ) (xs ys : List ℕ) → value_from v (xs ++ ys) ≡ value_from (value_from v xs) ys
unfolding value_from
value_from-append v [] ys = refl
value_from-append v (x ∷ xs) ys = value_from-append (v * 10 + (x - digit0)) xs ys

value_from_grows : (v : ℕ) (xs : List ℕ) → v ≤ value_from v xs
unfolding value_from
value_from_grows v [] = omega arith
value_from_grows v (x ∷ xs) = omega (arith, value_from_grows (v * 10 + (x - digit0)) xs)

-- the digits that the number in progress was written with
pub data Written : Part → List ℕ → Type 0 where
  none_yet : Written Empty []
  a_zero : Written Zero (digit0 ∷ [])
  some_digits : {v b : ℕ} {bs : List ℕ} → T (all_digits (b ∷ bs)) → (b ≡ digit0 → ⊥) → value_of (b ∷ bs) ≡ v → Written (Digits v) (b ∷ bs)

-- what was written of a first piece, in front of the pieces that follow
unfoldable pub glue : List ℕ → List (List ℕ) → List (List ℕ)
glue q [] = q ∷ []
glue q (p ∷ ps) = (q ++ p) ∷ ps

pub glue_step : (q : List ℕ) (b : ℕ) (ps : List (List ℕ)) → glue q (in_front b ps) ≡ glue (q ++ (b ∷ [])) ps
unfolding glue
glue_step q b [] = refl
glue_step q b (p ∷ ps) = ap (λ (x : List ℕ). x ∷ ps) (sym (append_snoc q b p))

-- the first piece of pieces that are all decimals
first_decimal : (q : List ℕ) (ps : List (List ℕ)) → T (all_decimals (glue q ps)) → (x : List ℕ) × T (is_decimal (q ++ x))
unfolding glue all_decimals
first_decimal q [] t = ([], subst (λ (l : List ℕ). T (is_decimal l)) (sym (append-nil q)) (and_left (is_decimal q) true t))
first_decimal q (p ∷ ps) t = (p, and_left (is_decimal (q ++ p)) (all_decimals ps) t)

decimal_digits : (q : List ℕ) → T (is_decimal q) → T (all_digits q)
unfolding is_decimal
decimal_digits q t =
    and_left (all_digits q) (no_leading_zero q) (and_left (all_digits q && no_leading_zero q) (leb (value_of q) decimal_limit) t)

decimal_value : (q : List ℕ) → T (is_decimal q) → value_of q ≤ decimal_limit
unfolding is_decimal
decimal_value q t = leb→le (value_of q) decimal_limit (and_right (all_digits q && no_leading_zero q) (leb (value_of q) decimal_limit) t)

decimal_leading : (q : List ℕ) → T (is_decimal q) → T (no_leading_zero q)
unfolding is_decimal
decimal_leading q t =
    and_right (all_digits q) (no_leading_zero q) (and_left (all_digits q && no_leading_zero q) (leb (value_of q) decimal_limit) t)

-- what is written of a whole number is a decimal of its value
number_of : Part → ℕ
number_of Empty = 0
number_of Zero = 0
number_of (Digits v) = v

pub digits_decimal : (v b : ℕ) (bs : List ℕ) → T (all_digits (b ∷ bs)) → (b ≡ digit0 → ⊥) → value_of (b ∷ bs) ≡ v → v ≤ decimal_limit → T (is_decimal (b ∷ bs))
unfolding is_decimal
digits_decimal v b bs t ne e h =
    and_intro (all_digits (b ∷ bs) && no_leading_zero (b ∷ bs)) (leb (value_of (b ∷ bs)) decimal_limit)
    (and_intro (all_digits (b ∷ bs)) (no_leading_zero (b ∷ bs)) t (leading bs))
    (le→leb (value_of (b ∷ bs)) decimal_limit (subst (λ (n : ℕ). n ≤ decimal_limit) (sym e) h))
  where
    leading : (cs : List ℕ) → T (no_leading_zero (b ∷ cs))
    leading [] = tt
    leading (c ∷ cs) = subst (λ (x : Bool). T (not x)) (sym (ne_eqb b digit0 ne)) tt

-- a piece that cannot become a decimal any more

pub not_a_digit : (q : List ℕ) (b : ℕ) (ps : List (List ℕ)) → T (all_decimals (glue (q ++ (b ∷ [])) ps)) → T (leb digit0 b && leb b digit9)
not_a_digit q b ps t =
    let r = first_decimal (q ++ (b ∷ [])) ps t in
    all_digits_last q b (all_digits_front (q ++ (b ∷ [])) r.0 (decimal_digits (q ++ (b ∷ []) ++ r.0) r.1))

pub digit_after_zero : (b : ℕ) (ps : List (List ℕ)) → T (all_decimals (glue (digit0 ∷ b ∷ []) ps)) → ⊥
digit_after_zero b ps t =
    let r = first_decimal (digit0 ∷ b ∷ []) ps t in
    decimal_leading (digit0 ∷ b ∷ r.0) r.1

pub too_large : (q : List ℕ) (ps : List (List ℕ)) → decimal_limit < value_of q → T (all_decimals (glue q ps)) → ⊥
too_large q ps h t =
    let r = first_decimal q ps t in
    let v : value_of (q ++ r.0) ≤ decimal_limit = decimal_value (q ++ r.0) r.1 in
    let g : value_of q ≤ value_from (value_of q) r.0 = value_from_grows (value_of q) r.0 in
    let e : value_of (q ++ r.0) ≡ value_from (value_of q) r.0 = value_from-append 0 q r.0 in
    omega arith

-- the result of scanning numbers whose pieces, with what was written before, are ps, in a line that ends before place j: after eight
-- numbers at the most there are nine at the most
pub data Scanned (ns : List ℕ) (ps : List (List ℕ)) (j : ℕ) : Option (List ℕ × ℕ) → Type 0 where
  found : {r : List ℕ × ℕ} → T (all_decimals ps) → r.0 ≡ ns ++ values ps → r.1 ≡ j → (length ns ≤ 8 → length r.0 ≤ 9)
      → Scanned ns ps j (Some r)
  lost : (T (all_decimals ps) → 9 < length ns + length ps) → Scanned ns ps j None

-- no byte of the list is c
abbrev pub Lacks : ℕ → List ℕ → Type 0
Lacks c [] = Unit {0}
Lacks c (b ∷ bs) = (b ≡ c → ⊥) × Lacks c bs

pub split_on-comma : (bs : List ℕ) → split_on comma (comma ∷ bs) ≡ [] ∷ split_on comma bs
unfolding split_on
split_on-comma bs = refl

pub split_on_other : (c b : ℕ) (bs : List ℕ) → (b ≡ c → ⊥) → split_on c (b ∷ bs) ≡ in_front b (split_on c bs)
unfolding split_on
split_on_other c b bs ne = ap (λ (x : Bool). cond x ([] ∷ split_on c bs) (in_front b (split_on c bs))) (ne_eqb b c ne)

-- a number that ends at a comma
pub after_comma : (ns : List ℕ) (v : ℕ) (q : List ℕ) (ps : List (List ℕ)) (j : ℕ) (r : Option (List ℕ × ℕ)) → length ns < 8
    → T (is_decimal q) → value_of q ≡ v → Scanned (ns ++ (v ∷ [])) ps j r → Scanned ns (q ∷ ps) j r
unfolding all_decimals values
after_comma ns v q ps j (Some r) m d e (found t l p c) =
    found (and_intro (is_decimal q) (all_decimals ps) d t)
    (l ∙ append_snoc ns v (values ps) ∙ ap (λ (n : ℕ). ns ++ (n ∷ values ps)) (sym e))
    p (λ _. c (omega (arith, m, length-append ns (v ∷ []))))
after_comma ns v q ps j None m d e (lost f) =
    lost (λ t. omega (arith, f (and_right (is_decimal q) (all_decimals ps) t), length-append ns (v ∷ [])))
