-- Laws of membership. Assumes nothing.
use mathlib.Core.Path.{◌≡◌, refl}
use mathlib.Core.List.{List, [], ◌∷◌, ◌++◌}
use mathlib.Core.Logic.{◌⊎◌, inl, inr}
use Prim.Native.Nat.{ℕ, zero, suc, ◌<◌}
use native.Mathlib.Nat.{le_of_suc-le-suc, not-suc-le-zero}
use lib.ListN.{length, get_or, set}
use Rattle.lists.specs.In.{In, here, there}

module _ {A : Type 0} where
  pub In-left : {x : A} (xs ys : List A) → In x xs → In x (xs ++ ys)
  In-left (y ∷ xs) ys (here e) = here e
  In-left (y ∷ xs) ys (there i) = there (In-left xs ys i)
  In-left [] ys x'' = elim x'' [ ]

  pub In-right : {x : A} (xs ys : List A) → In x ys → In x (xs ++ ys)
  In-right [] ys i = i
  In-right (y ∷ xs) ys i = there (In-right xs ys i)

  pub In-cases : {x : A} (xs ys : List A) → In x (xs ++ ys) → In x xs ⊎ In x ys
  In-cases [] ys i = inr i
  In-cases (y ∷ xs) ys (here e) = inl (here e)
  In-cases {x} (y ∷ xs) ys (there i) = go (In-cases xs ys i)
    where
      go : In x xs ⊎ In x ys → In x (y ∷ xs) ⊎ In x ys
      go (inl j) = inl (there j)
      go (inr j) = inr j

  pub In-nil : {x : A} → In x [] → ⊥
  In-nil i = elim i [ ]

  -- an element of a list of one is that one
  pub In-one : {x y : A} → In x (y ∷ []) → x ≡ y
  In-one (here e) = e
  In-one (there i) = absurd (In-nil i)

  -- an element of a list with one at its end is that one or one of the others
  pub In-snoc : {x y : A} (xs : List A) → In x (xs ++ (y ∷ [])) → In x xs ⊎ (x ≡ y)
  In-snoc {x} {y} xs i = go (In-cases xs (y ∷ []) i)
    where
      go : In x xs ⊎ In x (y ∷ []) → In x xs ⊎ (x ≡ y)
      go (inl j) = inl j
      go (inr j) = inr (In-one j)

  -- what stands at a place of a list is an element of it
  pub In-get_or : (xs : List A) (i : ℕ) (d : A) → i < length xs → In (get_or xs i d) xs
  In-get_or [] i d h = absurd (not-suc-le-zero h)
  In-get_or (x ∷ xs) zero d h = here refl
  In-get_or (x ∷ xs) (suc i) d h = there (In-get_or xs i d (le_of_suc-le-suc h))

  -- an element of a list with one replaced is the new one or one of the others
  pub In-set : {x : A} (xs : List A) (i : ℕ) (v : A) → In x (set xs i v) → In x xs ⊎ (x ≡ v)
  In-set [] i v j = absurd (In-nil j)
  In-set (y ∷ xs) zero v (here e) = inr e
  In-set (y ∷ xs) zero v (there j) = inl (there j)
  In-set (y ∷ xs) (suc i) v (here e) = inl (here e)
  In-set {x} (y ∷ xs) (suc i) v (there j) = go (In-set xs i v j)
    where
      go : In x xs ⊎ (x ≡ v) → In x (y ∷ xs) ⊎ (x ≡ v)
      go (inl k) = inl (there k)
      go (inr e) = inr e
