-- Laws of decimals: one digit, or one more than a tenth of the number has; how many digits; and that reading gives the number back.
-- Assumes nothing.
use Prim.Native.Nat.{ℕ, zero, suc, ◌+◌, ◌-◌, ◌*◌, ◌/◌, ◌%◌, ◌≤◌, ◌<◌}
use native.Mathlib.Nat.{div-add-mod', mod-lt}
use native.Mathlib.Omega.{arith}
use native.Mathlib.Decide.{dec_le}
use mathlib.Core.Path.{◌≡◌, refl, sym, ap, ◌∙◌, subst}
use mathlib.Core.Bool.{Bool, true, not, cond, ◌&&◌}
use mathlib.Core.List.{List, [], ◌∷◌, ◌++◌}
use lib.Dec.{T, leb, le→leb}
use lib.ListN.{length, length-append}
use borrow.Author.Tests.{lt-ltb, le-ltb, ne_eqb}
use Rattle.lists.proofs.Tests.{and_left, and_right, and_intro}
use Rattle.sheet_rules.specs.Limits.{decimal_limit}
use Rattle.sheet_rules.specs.Lines.{digit0, digit9, all_digits, no_leading_zero, value_from, value_of, is_decimal}
use Rattle.sheet_rules.specs.Decimals.{decimal_up_to, decimal}

-- a tenth is less
pub tenth : (n : ℕ) → 10 ≤ n → n / 10 < n
tenth n h = omega (arith, div-add-mod' n 10)

one_digit : (k n : ℕ) → n < 10 → decimal_up_to (suc k) n ≡ (digit0 + n) ∷ []
unfolding decimal_up_to
one_digit k n h = ap (λ (b : Bool). cond b ((digit0 + n) ∷ []) (decimal_up_to k (n / 10) ++ ((digit0 + n % 10) ∷ []))) (lt-ltb n 10 h)

more_digits : (k n : ℕ) → 10 ≤ n → decimal_up_to (suc k) n ≡ decimal_up_to k (n / 10) ++ ((digit0 + n % 10) ∷ [])
unfolding decimal_up_to
more_digits k n h = ap (λ (b : Bool). cond b ((digit0 + n) ∷ []) (decimal_up_to k (n / 10) ++ ((digit0 + n % 10) ∷ []))) (le-ltb n 10 h)

-- any number of digits above its size gives the same
enough : (a b n : ℕ) → n < a → n < b → decimal_up_to a n ≡ decimal_up_to b n
enough zero b n h l = absurd (omega arith)
enough (suc a) zero n h l = absurd (omega arith)
enough (suc a) (suc b) n h l = go (enough a b (n / 10)) (dec_le 10 n)
  where
    go : (n / 10 < a → n / 10 < b → decimal_up_to a (n / 10) ≡ decimal_up_to b (n / 10)) → Dec (10 ≤ n) → decimal_up_to (suc a) n ≡ decimal_up_to (suc b) n
    go more (yes t) =
        more_digits a n t
        ∙ ap (λ (z : List ℕ). z ++ ((digit0 + n % 10) ∷ [])) (more (omega (arith, tenth n t)) (omega (arith, tenth n t)))
        ∙ sym (more_digits b n t)
    go more (no t) = one_digit a n (omega (arith, t)) ∙ sym (one_digit b n (omega (arith, t)))

pub decimal_one : (n : ℕ) → n < 10 → decimal n ≡ (digit0 + n) ∷ []
unfolding decimal
decimal_one n h = one_digit n n h

pub decimal_more : (n : ℕ) → 10 ≤ n → decimal n ≡ decimal (n / 10) ++ ((digit0 + n % 10) ∷ [])
unfolding decimal
decimal_more n h = more_digits n n h ∙ ap (λ (z : List ℕ). z ++ ((digit0 + n % 10) ∷ [])) (enough n (suc (n / 10)) (n / 10) (tenth n h) (omega arith))

-- ten to the k
abbrev ten : ℕ → ℕ
ten zero = 1
ten (suc k) = 10 * ten k

-- k + 1 digits are enough for numbers below ten to the power of k + 1
digits_few : (k n : ℕ) → n < ten (suc k) → length (decimal n) ≤ suc k
digits_few zero n h = omega (arith, ap length (decimal_one n (omega arith)))
digits_few (suc k) n h = go (digits_few k (n / 10)) (dec_le 10 n)
  where
    go : (n / 10 < ten (suc k) → length (decimal (n / 10)) ≤ suc k) → Dec (10 ≤ n) → length (decimal n) ≤ suc (suc k)
    go more (yes t) =
        omega (arith, ap length (decimal_more n t), length-append (decimal (n / 10)) ((digit0 + n % 10) ∷ []), more (omega (arith, div-add-mod' n 10)))
    go more (no t) = omega (arith, ap length (decimal_one n (omega (arith, t))))

-- a 32-bit number has ten digits at the most, and its tenth nine
pub ten_digits : (n : ℕ) → n < 4294967296 → length (decimal n) ≤ 10
ten_digits n h = digits_few 9 n (omega arith)

pub nine_digits : (n : ℕ) → n < 4294967296 → length (decimal (n / 10)) ≤ 9
nine_digits n h = digits_few 8 (n / 10) (omega (arith, div-add-mod' n 10))

pub digit_small : (n : ℕ) → n % 10 < 10
digit_small n = mod-lt n (omega arith)

-- READ BACK

pub value_snoc : (v : ℕ) (xs : List ℕ) (b : ℕ) → value_from v (xs ++ (b ∷ [])) ≡ value_from v xs * 10 + (b - digit0)
unfolding value_from
value_snoc v [] b = refl
value_snoc v (x ∷ xs) b = value_snoc (v * 10 + (x - digit0)) xs b

-- what a decimal writes is the number
value_up_to : (k n : ℕ) → n < k → value_of (decimal_up_to k n) ≡ n
unfolding value_from
value_up_to zero n h = absurd (omega arith)
value_up_to (suc k) n h = go (value_up_to k (n / 10)) (dec_le 10 n)
  where
    go : (n / 10 < k → value_of (decimal_up_to k (n / 10)) ≡ n / 10) → Dec (10 ≤ n) → value_of (decimal_up_to (suc k) n) ≡ n
    go tens (yes t) =
        ap value_of (more_digits k n t)
        ∙ value_snoc 0 (decimal_up_to k (n / 10)) (digit0 + n % 10)
        ∙ omega (arith, tens (omega (arith, tenth n t)), div-add-mod' n 10)
    go tens (no t) = ap value_of (one_digit k n (omega (arith, t))) ∙ omega arith

pub decimal_value : (n : ℕ) → value_of (decimal n) ≡ n
unfolding decimal
decimal_value n = value_up_to (suc n) n (omega arith)

-- every byte is a digit, and the first of several is not 0

digits_snoc : (xs : List ℕ) (d : ℕ) → d < 10 → T (all_digits xs) → T (all_digits (xs ++ ((digit0 + d) ∷ [])))
unfolding all_digits
digits_snoc [] d h t =
    and_intro (leb digit0 (digit0 + d) && leb (digit0 + d) digit9) true
    (and_intro (leb digit0 (digit0 + d)) (leb (digit0 + d) digit9) (le→leb digit0 (digit0 + d) (omega arith)) (le→leb (digit0 + d) digit9 (omega arith)))
    tt
digits_snoc (x ∷ xs) d h t =
    and_intro (leb digit0 x && leb x digit9) (all_digits (xs ++ ((digit0 + d) ∷ [])))
    (and_left (leb digit0 x && leb x digit9) (all_digits xs) t)
    (digits_snoc xs d h (and_right (leb digit0 x && leb x digit9) (all_digits xs) t))

-- the first digit of a number that is not 0
record Leads (k n : ℕ) : Type 0 where
  first : ℕ
  rest : List ℕ
  is : decimal_up_to k n ≡ first ∷ rest
  above : digit0 < first

leads : (k n : ℕ) → n < k → 0 < n → Leads k n
leads zero n h p = absurd (omega arith)
leads (suc k) n h p = go (leads k (n / 10)) (dec_le 10 n)
  where
    go : (n / 10 < k → 0 < n / 10 → Leads k (n / 10)) → Dec (10 ≤ n) → Leads (suc k) n
    go tens (yes t) =
        let l = tens (omega (arith, tenth n t)) (omega (arith, div-add-mod' n 10, digit_small n)) in
        record {
          first = l.first;
          rest = l.rest ++ ((digit0 + n % 10) ∷ []);
          is = more_digits k n t ∙ ap (λ (z : List ℕ). z ++ ((digit0 + n % 10) ∷ [])) l.is;
          above = l.above;
        }
    go tens (no t) = record { first = digit0 + n; rest = []; is = one_digit k n (omega (arith, t)); above = omega arith }

all_digits_lem : (k n : ℕ) → T (all_digits (decimal_up_to k n))
unfolding all_digits decimal_up_to
all_digits_lem zero n = tt
all_digits_lem (suc k) n = go (all_digits_lem k (n / 10)) (dec_le 10 n)
  where
    go : T (all_digits (decimal_up_to k (n / 10))) → Dec (10 ≤ n) → T (all_digits (decimal_up_to (suc k) n))
    go tens (yes t) = subst (λ (z : List ℕ). T (all_digits z)) (sym (more_digits k n t)) (digits_snoc (decimal_up_to k (n / 10)) (n % 10) (digit_small n) tens)
    go tens (no t) = subst (λ (z : List ℕ). T (all_digits z)) (sym (one_digit k n (omega (arith, t)))) (digits_snoc [] n (omega (arith, t)) tt)

no_zero : (n : ℕ) → T (no_leading_zero (decimal_up_to (suc n) n))
no_zero zero = subst (λ (z : List ℕ). T (no_leading_zero z)) (sym (one_digit 0 0 (omega arith))) tt
no_zero (suc n) = (let l = leads (suc (suc n)) (suc n) (omega arith) (omega arith) in subst (λ (z : List ℕ). T (no_leading_zero z)) (sym l.is) (go l.first l.rest l.above))
  where
    go : (c : ℕ) (cs : List ℕ) → digit0 < c → T (no_leading_zero (c ∷ cs))
    go c [] h = tt
    go c (d ∷ ds) h = subst (λ (b : Bool). T (not b)) (sym (ne_eqb c digit0 (λ e. omega (arith, e)))) tt

-- a number that a sheet may have is printed as a decimal of the sheet
pub decimal_is : (n : ℕ) → n ≤ decimal_limit → T (is_decimal (decimal n))
unfolding is_decimal decimal
decimal_is n h =
    and_intro (all_digits (decimal_up_to (suc n) n) && no_leading_zero (decimal_up_to (suc n) n)) (leb (value_of (decimal_up_to (suc n) n)) decimal_limit)
    (and_intro (all_digits (decimal_up_to (suc n) n)) (no_leading_zero (decimal_up_to (suc n) n)) (all_digits_lem (suc n) n) (no_zero n))
    (le→leb (value_of (decimal_up_to (suc n) n)) decimal_limit (omega (arith, value_up_to (suc n) n (omega arith))))
