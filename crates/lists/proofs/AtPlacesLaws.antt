-- Laws of `at_places`: its elements by their places, one element more at the end, and tests joined by `or`. Assumes nothing.
use Prim.Native.Nat.{ℕ, zero, suc, ◌<◌}
use native.Mathlib.Omega.{arith}
use mathlib.Core.Path.{◌≡◌, refl, sym, ap, ◌∙◌, subst}
use mathlib.Core.Bool.{Bool, true, false, ◌||◌}
use mathlib.Core.List.{List, [], ◌∷◌, ◌++◌}
use mathlib.Core.Logic.{◌⊎◌, inl, inr}
use lib.Dec.{T}
use lib.ListN.{length, get_or}
use Rattle.lists.specs.In.{In, here, there}
use Rattle.lists.specs.Contains.{contains}
use Rattle.lists.specs.Passing.{add_if}
use Rattle.lists.specs.AtPlaces.{at_places}
use Rattle.lists.proofs.InLaws.{In-get_or}
use Rattle.lists.proofs.ContainsLaws.{contains-In, In-contains}
use Rattle.lists.proofs.Tests.{or_left, or_right, or_cases, T-ext}

-- x stands in a list at a place that passes a test
pub record AtPlace (test : ℕ → Bool) (xs : List ℕ) (x : ℕ) : Type 0 where
  pub place : ℕ
  pub inside : place < length xs
  pub passes : T (test place)
  pub is : x ≡ get_or xs place 0

-- BY PLACES

pub places_at : (test : ℕ → Bool) (xs : List ℕ) {x : ℕ} → In x (at_places test xs) → AtPlace test xs x
unfolding at_places
places_at test [] i = elim i [ ]
places_at test (y ∷ ys) {x} i = go (λ j. later (places_at (λ k. test (suc k)) ys j)) (test 0) refl i
  where
    later : AtPlace (λ j. test (suc j)) ys x → AtPlace test (y ∷ ys) x
    later p = record { place = suc p.place; inside = omega (arith, p.inside); passes = p.passes; is = p.is }

    go : (In x (at_places (λ j. test (suc j)) ys) → AtPlace test (y ∷ ys) x) → (b : Bool) → test 0 ≡ b
        → In x (add_if b y (at_places (λ j. test (suc j)) ys)) → AtPlace test (y ∷ ys) x
    go rest false e j = rest j
    go rest true e (here k) = record { place = 0; inside = omega arith; passes = subst T (sym e) tt; is = k }
    go rest true e (there j) = rest j

add_later : (b : Bool) (y : ℕ) (ys : List ℕ) {x : ℕ} → In x ys → In x (add_if b y ys)
add_later true y ys i = there i
add_later false y ys i = i

pub at_places_lem : (test : ℕ → Bool) (xs : List ℕ) (i : ℕ) → i < length xs → T (test i) → In (get_or xs i 0) (at_places test xs)
unfolding at_places
at_places_lem test [] i l t = absurd (omega arith)
at_places_lem test (y ∷ ys) zero l t = go (test 0) t
  where
    go : (b : Bool) → T b → In y (add_if b y (at_places (λ j. test (suc j)) ys))
    go true u = here refl
    go false u = absurd u
at_places_lem test (y ∷ ys) (suc i) l t = add_later (test 0) y (at_places (λ j. test (suc j)) ys) (at_places_lem (λ j. test (suc j)) ys i (omega arith) t)

pub at_place : (test : ℕ → Bool) (xs : List ℕ) {x : ℕ} → AtPlace test xs x → In x (at_places test xs)
at_place test xs p = subst (λ (y : ℕ). In y (at_places test xs)) (sym p.is) (at_places_lem test xs p.place p.inside p.passes)

-- what stands at a place that passes is an element
pub places_in : (test : ℕ → Bool) (xs : List ℕ) {x : ℕ} → In x (at_places test xs) → In x xs
places_in test xs i =
    let p = places_at test xs i in
    subst (λ (y : ℕ). In y xs) (sym p.is) (In-get_or xs p.place 0 p.inside)

-- ONE ELEMENT MORE

add_append : (b : Bool) (y : ℕ) (ys zs : List ℕ) → add_if b y ys ++ zs ≡ add_if b y (ys ++ zs)
add_append true y ys zs = refl
add_append false y ys zs = refl

pub places_snoc : (test : ℕ → Bool) (xs : List ℕ) (x : ℕ) → at_places test (xs ++ (x ∷ [])) ≡ at_places test xs ++ add_if (test (length xs)) x []
unfolding at_places
places_snoc test [] x = refl
places_snoc test (y ∷ ys) x =
    ap (add_if (test 0) y) (places_snoc (λ i. test (suc i)) ys x)
    ∙ sym (add_append (test 0) y (at_places (λ i. test (suc i)) ys) (add_if (test (suc (length ys))) x []))

-- TESTS

-- an element at a place that passes another test, too
passes_too : {test : ℕ → Bool} (test' : ℕ → Bool) (xs : List ℕ) {x : ℕ} (p : AtPlace test xs x) → T (test' p.place) → In x (at_places test' xs)
passes_too test' xs p t = at_place test' xs (record { place = p.place; inside = p.inside; passes = t; is = p.is })

-- a test that passes wherever another does, among the places that there are, gives no less
pub places_more : (test test' : ℕ → Bool) (xs : List ℕ) → ((i : ℕ) → i < length xs → T (test i) → T (test' i)) → {x : ℕ} → In x (at_places test xs) → In x (at_places test' xs)
places_more test test' xs more i =
    let p = places_at test xs i in
    passes_too test' xs p (more p.place p.inside p.passes)

-- tests that agree at the places that there are
pub places_same : (test test' : ℕ → Bool) (xs : List ℕ) → ((i : ℕ) → i < length xs → test i ≡ test' i) → at_places test xs ≡ at_places test' xs
unfolding at_places
places_same test test' [] same = refl
places_same test test' (x ∷ xs) same =
    λ i. add_if (same 0 (omega arith) i) x (places_same (λ j. test (suc j)) (λ j. test' (suc j)) xs (λ j l. same (suc j) (omega arith)) i)

-- a test that passes at no place that there is
pub places_none : (test : ℕ → Bool) (xs : List ℕ) → ((i : ℕ) → i < length xs → test i ≡ false) → at_places test xs ≡ []
unfolding at_places
places_none test [] none = refl
places_none test (x ∷ xs) none =
    ap (λ (b : Bool). add_if b x (at_places (λ j. test (suc j)) xs)) (none 0 (omega arith))
    ∙ places_none (λ j. test (suc j)) xs (λ j l. none (suc j) (omega arith))

-- and one that passes at the last place alone
pub places_last : (test : ℕ → Bool) (xs : List ℕ) (x : ℕ) → ((i : ℕ) → i < length xs → test i ≡ false) → test (length xs) ≡ true
    → at_places test (xs ++ (x ∷ [])) ≡ x ∷ []
places_last test xs x none last = places_snoc test xs x ∙ (λ i. places_none test xs none i ++ add_if (last i) x [])

-- two tests joined
pub places_or : (p q : ℕ → Bool) (xs : List ℕ) (b : ℕ) → contains (at_places (λ i. p i || q i) xs) b ≡ (contains (at_places p xs) b || contains (at_places q xs) b)
places_or p q xs b = T-ext (contains both b) (contains (at_places p xs) b || contains (at_places q xs) b) to from
  where
    both : List ℕ
    both = at_places (λ i. p i || q i) xs

    to : T (contains both b) → T (contains (at_places p xs) b || contains (at_places q xs) b)
    to t = let f = places_at (λ i. p i || q i) xs (contains-In both b t) in go f (or_cases (p f.place) (q f.place) f.passes)
      where
        go : (f : AtPlace (λ i. p i || q i) xs b) → T (p f.place) ⊎ T (q f.place) → T (contains (at_places p xs) b || contains (at_places q xs) b)
        go f (inl u) = or_left (contains (at_places p xs) b) (contains (at_places q xs) b) (In-contains (at_places p xs) b (passes_too p xs f u))
        go f (inr u) = or_right (contains (at_places p xs) b) (contains (at_places q xs) b) (In-contains (at_places q xs) b (passes_too q xs f u))

    from : T (contains (at_places p xs) b || contains (at_places q xs) b) → T (contains both b)
    from t = go (or_cases (contains (at_places p xs) b) (contains (at_places q xs) b) t)
      where
        go : T (contains (at_places p xs) b) ⊎ T (contains (at_places q xs) b) → T (contains both b)
        go (inl u) = In-contains both b (places_more p (λ i. p i || q i) xs (λ i l v. or_left (p i) (q i) v) (contains-In (at_places p xs) b u))
        go (inr u) = In-contains both b (places_more q (λ i. p i || q i) xs (λ i l v. or_right (p i) (q i) v) (contains-In (at_places q xs) b u))
