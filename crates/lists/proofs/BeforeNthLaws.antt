-- Laws of `before_nth`: an element that passes, one that does not, the next one after it, and lists without such an element.
-- Assumes nothing.
use Prim.Native.Nat.{ℕ, zero, suc}
use mathlib.Core.Path.{◌≡◌, refl, ap, ◌∙◌}
use mathlib.Core.Bool.{Bool, true, false, cond}
use mathlib.Core.List.{List, [], ◌∷◌, ◌++◌, map}
use lib.ListN.{length, take, drop}
use Rattle.lists.specs.BeforeNth.{before_nth}
use Rattle.lists.specs.Each.{Each, none, each}

module _ {A : Type 0} (test : A → Bool) where
  -- the n-th is here
  pub nth_here : {x : A} (xs : List A) → test x ≡ true → before_nth test zero (x ∷ xs) ≡ []
  unfolding before_nth
  nth_here {x} xs e = ap (λ (b : Bool). cond b [] (x ∷ before_nth test zero xs)) e

  -- an earlier one is here
  pub nth_later : (n : ℕ) {x : A} (xs : List A) → test x ≡ true → before_nth test (suc n) (x ∷ xs) ≡ x ∷ before_nth test n xs
  unfolding before_nth
  nth_later n {x} xs e = ap (λ (b : Bool). x ∷ before_nth test (cond b n (suc n)) xs) e

  -- none is here
  pub nth_other : (n : ℕ) {x : A} (xs : List A) → test x ≡ false → before_nth test n (x ∷ xs) ≡ x ∷ before_nth test n xs
  unfolding before_nth
  nth_other zero {x} xs e = ap (λ (b : Bool). cond b [] (x ∷ before_nth test zero xs)) e
  nth_other (suc n) {x} xs e = ap (λ (b : Bool). x ∷ before_nth test (cond b n (suc n)) xs) e

  -- they stand at the start of the list
  pub nth_front : (n : ℕ) (xs : List A) → before_nth test n xs ≡ take (length (before_nth test n xs)) xs
  unfolding before_nth
  nth_front n [] = refl
  nth_front zero (x ∷ xs) = go (test x) (nth_front zero xs)
    where
      go : (b : Bool) → before_nth test zero xs ≡ take (length (before_nth test zero xs)) xs
          → cond b [] (x ∷ before_nth test zero xs) ≡ take (length (cond b [] (x ∷ before_nth test zero xs))) (x ∷ xs)
      go true later = refl
      go false later = ap (λ (ys : List A). x ∷ ys) later
  nth_front (suc n) (x ∷ xs) = ap (λ (ys : List A). x ∷ ys) (nth_front (cond (test x) n (suc n)) xs)

  -- from the n-th on, those before the one after it
  pub nth_from : (n : ℕ) (xs : List A) → drop (length (before_nth test n xs)) (before_nth test (suc n) xs) ≡ before_nth test 1 (drop (length (before_nth test n xs)) xs)
  unfolding before_nth
  nth_from n [] = refl
  nth_from zero (x ∷ xs) = go (test x) refl (nth_from zero xs)
    where
      go : (b : Bool) → test x ≡ b → drop (length (before_nth test zero xs)) (before_nth test 1 xs) ≡ before_nth test 1 (drop (length (before_nth test zero xs)) xs)
          → drop (length (cond b [] (x ∷ before_nth test zero xs))) (x ∷ before_nth test (cond (test x) zero 1) xs)
          ≡ before_nth test 1 (drop (length (cond b [] (x ∷ before_nth test zero xs))) (x ∷ xs))
      go true e later = refl
      go false e later = ap (λ (b : Bool). drop (length (before_nth test zero xs)) (before_nth test (cond b zero 1) xs)) e ∙ later
  nth_from (suc n) (x ∷ xs) = go (test x) (nth_from n xs) (nth_from (suc n) xs)
    where
      Later : ℕ → ℕ → Type 0
      Later k m = drop (length (before_nth test k xs)) (before_nth test m xs) ≡ before_nth test 1 (drop (length (before_nth test k xs)) xs)

      go : (b : Bool) → Later n (suc n) → Later (suc n) (suc (suc n)) → Later (cond b n (suc n)) (cond b (suc n) (suc (suc n)))
      go true a b = a
      go false a b = b

  -- none passes of those before
  pub nth_none : (n : ℕ) {xs : List A} → Each (λ x. test x ≡ false) xs → (ys : List A) → before_nth test n (xs ++ ys) ≡ xs ++ before_nth test n ys
  nth_none n none ys = refl
  nth_none n (each {x} {xs} e more) ys = nth_other n (xs ++ ys) e ∙ ap (λ (zs : List A). x ∷ zs) (nth_none n more ys)

-- elements that a function makes
pub nth_map : {A B : Type 0} (test : B → Bool) (f : A → B) (n : ℕ) (xs : List A)
    → before_nth test n (map f xs) ≡ map f (before_nth (λ x. test (f x)) n xs)
unfolding before_nth
nth_map test f n [] = refl
nth_map {A} {B} test f zero (x ∷ xs) = go (test (f x)) (nth_map test f zero xs)
  where
    go : (b : Bool) → before_nth test zero (map f xs) ≡ map f (before_nth (λ y. test (f y)) zero xs)
        → cond b [] (f x ∷ before_nth test zero (map f xs)) ≡ map f (cond b [] (x ∷ before_nth (λ y. test (f y)) zero xs))
    go true e = refl
    go false e = ap (λ (zs : List B). f x ∷ zs) e
nth_map {A} {B} test f (suc n) (x ∷ xs) = ap (λ (zs : List B). f x ∷ zs) (nth_map test f (cond (test (f x)) n (suc n)) xs)
