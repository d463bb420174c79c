-- Lines back to bytes: what a text is split into joins to it again, a word that spells a key is the key's, and a number has one
-- decimal. Assumes nothing.
use Prim.Native.Nat.{ℕ, zero, suc, ◌+◌, ◌-◌, ◌*◌, ◌/◌, ◌%◌, ◌≤◌}
use native.Mathlib.Omega.{arith}
use native.Mathlib.Nat.{div-add-mod'}
use mathlib.Core.Path.{◌≡◌, refl, sym, ap, ◌∙◌, subst}
use mathlib.Core.Bool.{Bool, true, false, cond, not, ◌&&◌}
use mathlib.Core.List.{List, [], ◌∷◌, ◌++◌}
use lib.Dec.{T, eqb, eqb→eq, leb, leb→le}
use lib.ListN.{length, length-append}
use borrow.Author.Tests.{eqb-false, not-true}
use Rattle.lists.proofs.Tests.{and_left, and_right, T→true}
use Rattle.sheet_rules.specs.declared.Place.{Place}
use Rattle.sheet_rules.specs.declared.Place.TheVariants.{Nowhere}
use Rattle.sheet_rules.specs.Keys.{spelling, same_bytes, place_among}
use Rattle.sheet_rules.specs.Lines.{digit0, digit9, in_front, split_step, split_on, all_digits, no_leading_zero, value_from, value_of, is_decimal}
use Rattle.sheet_rules.specs.Decimals.{decimal}
use Rattle.sheet_rules.proofs.DecimalLaws.{decimal_one, decimal_more, value_snoc, digit_small}

-- SPLITTING AND JOINING

-- pieces with c between them
unfoldable pub join_on : ℕ → List (List ℕ) → List ℕ
join_on c [] = []
join_on c (p ∷ []) = p
join_on c (p ∷ q ∷ ps) = p ++ (c ∷ join_on c (q ∷ ps))

-- there is always a piece
pub record Pieces (c : ℕ) (bs : List ℕ) : Type 0 where
  pub first : List ℕ
  pub more : List (List ℕ)
  pub is : split_on c bs ≡ first ∷ more

pub pieces : (c : ℕ) (bs : List ℕ) → Pieces c bs
unfolding split_on
pieces c [] = record { first = []; more = []; is = refl }
pieces c (b ∷ bs) = go (split_on c bs) refl (eqb b c) refl
  where
    go : (ps : List (List ℕ)) → split_on c bs ≡ ps → (t : Bool) → eqb b c ≡ t → Pieces c (b ∷ bs)
    go ps e true q = record { first = []; more = ps; is = (λ i. cond (q i) ([] ∷ e i) (in_front b (e i))) }
    go [] e false q = record { first = b ∷ []; more = []; is = (λ i. cond (q i) ([] ∷ e i) (in_front b (e i))) }
    go (p ∷ ps) e false q = record { first = b ∷ p; more = ps; is = (λ i. cond (q i) ([] ∷ e i) (in_front b (e i))) }

pub join_split : (c : ℕ) (bs : List ℕ) → join_on c (split_on c bs) ≡ bs
unfolding split_on join_on
join_split c [] = refl
join_split c (b ∷ bs) = go (pieces c bs).first (pieces c bs).more (pieces c bs).is (eqb b c) refl (join_split c bs)
  where
    go : (p : List ℕ) (ps : List (List ℕ)) → split_on c bs ≡ p ∷ ps → (t : Bool) → eqb b c ≡ t → join_on c (split_on c bs) ≡ bs
        → join_on c (split_step c b (split_on c bs)) ≡ b ∷ bs
    go p ps e true q h =
        (λ i. join_on c (cond (q i) ([] ∷ e i) (in_front b (e i))))
        ∙ (λ i. sym (eqb→eq b c (subst T (sym q) tt)) i ∷ (ap (join_on c) (sym e) ∙ h) i)
    go p [] e false q h = (λ i. join_on c (cond (q i) ([] ∷ e i) (in_front b (e i)))) ∙ ap (λ (z : List ℕ). b ∷ z) (ap (join_on c) (sym e) ∙ h)
    go p (r ∷ ps) e false q h = (λ i. join_on c (cond (q i) ([] ∷ e i) (in_front b (e i)))) ∙ ap (λ (z : List ℕ). b ∷ z) (ap (join_on c) (sym e) ∙ h)

-- WORDS

same_bytes_lem : (v w : List ℕ) → T (same_bytes v w) → v ≡ w
unfolding same_bytes
same_bytes_lem [] [] t = refl
same_bytes_lem [] (c ∷ cs) t = absurd t
same_bytes_lem (b ∷ bs) [] t = absurd t
same_bytes_lem (b ∷ bs) (c ∷ cs) t =
    λ i. eqb→eq b c (and_left (eqb b c) (same_bytes bs cs) t) i ∷ same_bytes_lem bs cs (and_right (eqb b c) (same_bytes bs cs) t) i

pub spelled_among : (ks : List Place) (w : List ℕ) → (place_among ks w ≡ Nowhere → ⊥) → spelling (place_among ks w) ≡ w
unfolding place_among
spelled_among [] w h = absurd (h refl)
spelled_among (k ∷ ks) w h = go (same_bytes (spelling k) w) refl (spelled_among ks w) h
  where
    go : (t : Bool) → same_bytes (spelling k) w ≡ t → ((place_among ks w ≡ Nowhere → ⊥) → spelling (place_among ks w) ≡ w)
        → (cond t k (place_among ks w) ≡ Nowhere → ⊥) → spelling (cond t k (place_among ks w)) ≡ w
    go true e more n = same_bytes_lem (spelling k) w (subst T (sym e) tt)
    go false e more n = more n

-- DECIMALS

-- a list is empty, or has a last element
data Ends : List ℕ → Type 0 where
  none : Ends []
  last : (xs : List ℕ) (b : ℕ) → Ends (xs ++ (b ∷ []))

ends : (xs : List ℕ) → Ends xs
ends [] = none
ends (x ∷ xs) = go (ends xs)
  where
    go : {ys : List ℕ} → Ends ys → Ends (x ∷ ys)
    go none = last [] x
    go (last ys b) = last (x ∷ ys) b

value_least : (v : ℕ) (bs : List ℕ) → v ≤ value_from v bs
unfolding value_from
value_least v [] = omega arith
value_least v (b ∷ bs) = omega (arith, value_least (v * 10 + (b - digit0)) bs)

digits_front : (xs : List ℕ) (b : ℕ) → T (all_digits (xs ++ (b ∷ []))) → T (all_digits xs) × (digit0 ≤ b) × (b ≤ digit9)
unfolding all_digits
digits_front [] b t =
    let u = and_left (leb digit0 b && leb b digit9) true t in
    (tt, leb→le digit0 b (and_left (leb digit0 b) (leb b digit9) u), leb→le b digit9 (and_right (leb digit0 b) (leb b digit9) u))
digits_front (x ∷ xs) b t =
    let u = digits_front xs b (and_right (leb digit0 x && leb x digit9) (all_digits (xs ++ (b ∷ []))) t) in
    (go (all_digits xs) u.0, u.1, u.2)
  where
    first : T (leb digit0 x && leb x digit9)
    first = and_left (leb digit0 x && leb x digit9) (all_digits (xs ++ (b ∷ []))) t

    go : (c : Bool) → T c → T (leb digit0 x && leb x digit9 && c)
    go true h = subst (λ (z : Bool). T (z && true)) (sym (T→true (leb digit0 x && leb x digit9) first)) tt
    go false h = elim h [ ]

-- the first of several digits is above 0
first_above : (y : ℕ) (ys : List ℕ) (b : ℕ) → T (all_digits (y ∷ ys)) → T (no_leading_zero (y ∷ (ys ++ (b ∷ [])))) → 1 ≤ value_of (y ∷ ys)
unfolding value_from all_digits
first_above y ys b d z =
    let low = leb→le digit0 y (and_left (leb digit0 y) (leb y digit9) (and_left (leb digit0 y && leb y digit9) (all_digits ys) d)) in
    let other = eqb-false y digit0 (not-true (eqb y digit0) (T→true (not (eqb y digit0)) (go ys z))) in
    omega (arith, other, value_least (0 * 10 + (y - digit0)) ys)
  where
    go : (xs : List ℕ) → T (no_leading_zero (y ∷ (xs ++ (b ∷ [])))) → T (not (eqb y digit0))
    go [] t = t
    go (x ∷ xs) t = t

keeps_first : (y : ℕ) (ys : List ℕ) (b : ℕ) → T (no_leading_zero (y ∷ (ys ++ (b ∷ [])))) → T (no_leading_zero (y ∷ ys))
keeps_first y [] b t = tt
keeps_first y (x ∷ xs) b t = t

-- digits without leading zeros are the decimal of what they write
decimal_up_to : (k : ℕ) (q : List ℕ) → length q ≤ k → T (all_digits q) → T (no_leading_zero q) → q ≡ decimal (value_of q)
unfolding value_from
decimal_up_to zero [] l d z = absurd z
decimal_up_to zero (x ∷ xs) l d z = absurd (omega arith)
decimal_up_to (suc k) q l d z = go (decimal_up_to k) (ends q) l d z
  where
    go : ((p : List ℕ) → length p ≤ k → T (all_digits p) → T (no_leading_zero p) → p ≡ decimal (value_of p))
        → {p : List ℕ} → Ends p → length p ≤ suc k → T (all_digits p) → T (no_leading_zero p) → p ≡ decimal (value_of p)
    go shorter none l d z = absurd z
    go shorter (last [] b) l d z =
        let f = digits_front [] b d in
        let n : digit0 + (b - digit0) ≡ b = omega arith in
        sym (ap decimal (let m : 0 * 10 + (b - digit0) ≡ b - digit0 = omega arith in m) ∙ decimal_one (b - digit0) (omega arith) ∙ ap (λ (x : ℕ). x ∷ []) n)
    go shorter (last (y ∷ ys) b) l d z =
        let f = digits_front (y ∷ ys) b d in
        let v : ℕ = value_of (y ∷ ys) in
        let n : ℕ = v * 10 + (b - digit0) in
        let some : 1 ≤ value_of (y ∷ ys) = first_above y ys b f.0 z in
        let back : (y ∷ ys) ≡ decimal (value_of (y ∷ ys)) = shorter (y ∷ ys) (omega (arith, length-append (y ∷ ys) (b ∷ []))) f.0 (keeps_first y ys b z) in
        let tens : (v * 10 + (b - digit0)) / 10 ≡ v = omega (arith, div-add-mod' (v * 10 + (b - digit0)) 10, digit_small (v * 10 + (b - digit0)), f.1, f.2) in
        let unit : digit0 + (v * 10 + (b - digit0)) % 10 ≡ b = omega (arith, div-add-mod' (v * 10 + (b - digit0)) 10, digit_small (v * 10 + (b - digit0)), f.1, f.2) in
        sym (ap decimal (value_snoc 0 (y ∷ ys) b)
        ∙ decimal_more (v * 10 + (b - digit0)) (omega arith)
        ∙ (λ i. decimal (tens i) ++ (unit i ∷ []))
        ∙ ap (λ (z : List ℕ). z ++ (b ∷ [])) (sym back))

pub decimal_only : (q : List ℕ) → T (is_decimal q) → q ≡ decimal (value_of q)
unfolding is_decimal
decimal_only q t =
    let u = and_left (all_digits q && no_leading_zero q) (leb (value_of q) 65535) t in
    decimal_up_to (length q) q (omega arith) (and_left (all_digits q) (no_leading_zero q) u) (and_right (all_digits q) (no_leading_zero q) u)
