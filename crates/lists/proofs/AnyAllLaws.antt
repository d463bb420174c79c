-- Laws of `any` and `all`: by membership, one element after another, and of lists with the same elements. Assumes nothing.
use Prim.Native.Nat.{ℕ, suc, ◌+◌, ◌<◌}
use native.Mathlib.Numerals.{add-one}
use mathlib.Core.Path.{◌≡◌, refl, sym, ap, ◌∙◌, subst}
use mathlib.Core.Bool.{Bool, true, false, ◌&&◌, ◌||◌, or-false, or_assoc, and-true, and_assoc}
use mathlib.Core.List.{List, [], ◌∷◌, ◌++◌}
use mathlib.Core.Logic.{◌⊎◌, inl, inr}
use lib.Dec.{T}
use lib.ListN.{length, get_or, take}
use lib.Seq.{take-suc}
use Rattle.lists.specs.In.{In, here, there}
use Rattle.lists.specs.AnyAll.{any, all}
use Rattle.lists.specs.Tab.{tab}
use Rattle.lists.proofs.TabLaws.{tab-suc}
use Rattle.lists.proofs.Tests.{and_left, and_right, and_intro, or_left, or_right, or_cases, T-ext}

module _ {A : Type 0} (test : A → Bool) where
  -- BY MEMBERSHIP

  pub any-In : (xs : List A) → T (any test xs) → (x : A) × In x xs × T (test x)
  unfolding any
  any-In [] t = absurd t
  any-In (x ∷ xs) t = go (any-In xs) (or_cases (test x) (any test xs) t)
    where
      go : (T (any test xs) → (y : A) × In y xs × T (test y)) → T (test x) ⊎ T (any test xs) → (y : A) × In y (x ∷ xs) × T (test y)
      go later (inl u) = (x, here refl, u)
      go later (inr u) = let f = later u in (f.0, there f.1, f.2)

  pub In-any : {x : A} (xs : List A) → In x xs → T (test x) → T (any test xs)
  unfolding any
  In-any (y ∷ xs) (here e) t = or_left (test y) (any test xs) (subst (λ (z : A). T (test z)) e t)
  In-any (y ∷ xs) (there i) t = or_right (test y) (any test xs) (In-any xs i t)
  In-any [] x3 t = elim x3 [ ]

  pub all-In : {x : A} (xs : List A) → T (all test xs) → In x xs → T (test x)
  unfolding all
  all-In (y ∷ xs) t (here e) = subst (λ (z : A). T (test z)) (sym e) (and_left (test y) (all test xs) t)
  all-In (y ∷ xs) t (there i) = all-In xs (and_right (test y) (all test xs) t) i
  all-In [] t x3 = elim x3 [ ]

  pub In-all : (xs : List A) → ((x : A) → In x xs → T (test x)) → T (all test xs)
  unfolding all
  In-all [] f = tt
  In-all (x ∷ xs) f = and_intro (test x) (all test xs) (f x (here refl)) (In-all xs (λ y i. f y (there i)))

  -- ONE ELEMENT AFTER ANOTHER

  any_snoc : (xs : List A) (x : A) → any test (xs ++ (x ∷ [])) ≡ (any test xs || test x)
  unfolding any
  any_snoc [] x = or-false (test x)
  any_snoc (y ∷ xs) x = ap (λ (b : Bool). test y || b) (any_snoc xs x) ∙ sym (or_assoc (test y) (any test xs) (test x))

  all_snoc : (xs : List A) (x : A) → all test (xs ++ (x ∷ [])) ≡ (all test xs && test x)
  unfolding all
  all_snoc [] x = and-true (test x)
  all_snoc (y ∷ xs) x = ap (λ (b : Bool). test y && b) (all_snoc xs x) ∙ sym (and_assoc (test y) (all test xs) (test x))

  pub any-tab : (f : ℕ → A) (n : ℕ) → any test (tab f (n + 1)) ≡ (any test (tab f n) || test (f n))
  any-tab f n = ap (any test) (ap (tab f) (add-one n) ∙ tab-suc f n) ∙ any_snoc (tab f n) (f n)

  pub any-take : (xs : List A) (i : ℕ) (d : A) → i < length xs → any test (take (suc i) xs) ≡ (any test (take i xs) || test (get_or xs i d))
  any-take xs i d h = ap (any test) (take-suc xs i d h) ∙ any_snoc (take i xs) (get_or xs i d)

  pub all-take : (xs : List A) (i : ℕ) (d : A) → i < length xs → all test (take (suc i) xs) ≡ (all test (take i xs) && test (get_or xs i d))
  all-take xs i d h = ap (all test) (take-suc xs i d h) ∙ all_snoc (take i xs) (get_or xs i d)

  -- LISTS WITH THE SAME ELEMENTS

  -- order and repeats have no influence
  module _ (xs ys : List A) (to : (x : A) → In x xs → In x ys) (from : (x : A) → In x ys → In x xs) where
    pub any_same : any test xs ≡ any test ys
    any_same =
        T-ext (any test xs) (any test ys)
        (λ t. let f = any-In xs t in In-any ys (to f.0 f.1) f.2)
        (λ t. let f = any-In ys t in In-any xs (from f.0 f.1) f.2)

    pub all_same : all test xs ≡ all test ys
    all_same =
        T-ext (all test xs) (all test ys)
        (λ t. In-all ys (λ x i. all-In xs t (from x i)))
        (λ t. In-all xs (λ x i. all-In ys t (to x i)))

-- a test that all elements share
pub any-and : {A : Type 0} (c : Bool) (test : A → Bool) (xs : List A) → any (λ x. c && test x) xs ≡ (c && any test xs)
unfolding any
any-and true test xs = refl
any-and false test [] = refl
any-and false test (x ∷ xs) = any-and false test xs
