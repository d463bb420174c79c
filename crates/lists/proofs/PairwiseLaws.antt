-- Laws of lists that are related one for one. Assumes nothing.
use mathlib.Core.Path.{◌≡◌, refl, ap}
use mathlib.Core.List.{List, [], ◌∷◌, ◌++◌}
use Prim.Native.Nat.{ℕ, zero, suc, ◌<◌}
use native.Mathlib.Nat.{le_of_suc-le-suc, not-suc-le-zero}
use lib.ListN.{length, get_or, set}
use Rattle.lists.specs.Pairwise.{Pairwise, none, pair}

module _ {A B : Type 0} where
  pub Pairwise-length : {R : A → B → Type 0} {xs : List A} {ys : List B} → Pairwise R xs ys → length xs ≡ length ys
  Pairwise-length none = refl
  Pairwise-length (pair r p) = ap suc (Pairwise-length p)

  pub Pairwise-snoc : {R : A → B → Type 0} {xs : List A} {ys : List B} {x : A} {y : B} → Pairwise R xs ys → R x y
      → Pairwise R (xs ++ (x ∷ [])) (ys ++ (y ∷ []))
  Pairwise-snoc none q = pair q none
  Pairwise-snoc (pair r p) q = pair r (Pairwise-snoc p q)

  pub Pairwise-both : {R : A → B → Type 0} {xs zs : List A} {ys ws : List B} → Pairwise R xs ys → Pairwise R zs ws → Pairwise R (xs ++ zs) (ys ++ ws)
  Pairwise-both none q = q
  Pairwise-both (pair r p) q = pair r (Pairwise-both p q)

  pub Pairwise-map : {R Q : A → B → Type 0} {xs : List A} {ys : List B} → ((x : A) (y : B) → R x y → Q x y) → Pairwise R xs ys → Pairwise Q xs ys
  Pairwise-map f none = none
  Pairwise-map f (pair {x = x} {y = y} r p) = pair (f x y r) (Pairwise-map f p)

  -- the elements at a place are related
  pub Pairwise-at : {R : A → B → Type 0} (xs : List A) (ys : List B) (i : ℕ) (d : A) (e : B) → Pairwise R xs ys → i < length xs → R (get_or xs i d) (get_or ys i e)
  Pairwise-at [] [] i d e none h = absurd (not-suc-le-zero h)
  Pairwise-at (x ∷ xs) (y ∷ ys) zero d e (pair r p) h = r
  Pairwise-at (x ∷ xs) (y ∷ ys) (suc i) d e (pair r p) h = Pairwise-at xs ys i d e p (le_of_suc-le-suc h)
  Pairwise-at {R = R} [] (y ∷ ys) i d e x4 h = elim x4 [ ]
  Pairwise-at {R = R} (x ∷ xs) [] i d e x5 h = elim x5 [ ]

  -- an element replaced by one that is related too
  pub Pairwise-set : {R : A → B → Type 0} (xs : List A) (ys : List B) (i : ℕ) (v : A) (e : B) → Pairwise R xs ys → R v (get_or ys i e) → Pairwise R (set xs i v) ys
  Pairwise-set [] [] i v e none q = none
  Pairwise-set (x ∷ xs) (y ∷ ys) zero v e (pair r p) q = pair q p
  Pairwise-set (x ∷ xs) (y ∷ ys) (suc i) v e (pair r p) q = pair r (Pairwise-set xs ys i v e p q)
  Pairwise-set {R = R} [] (y ∷ ys) i v e x4 q = elim x4 [ ]
  Pairwise-set {R = R} (x ∷ xs) [] i v e x5 q = elim x5 [ ]
