-- The elements of a list before the n-th that passes a test. Stands on nothing.
use Rattle.std.specs.Prelude.{ℕ, zero, suc, Bool, cond, List, [], ◌∷◌}

-- the elements before the n-th that passes, counted from 0; all of them where no more than n pass
unfoldable pub before_nth : {A : Type 0} → (A → Bool) → ℕ → List A → List A
before_nth test n [] = []
before_nth test zero (x ∷ xs) = cond (test x) [] (x ∷ before_nth test zero xs)
before_nth test (suc n) (x ∷ xs) = x ∷ before_nth test (cond (test x) n (suc n)) xs
