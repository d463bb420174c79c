-- The numbers that pass a test, ascending. Stands on nothing.
use Rattle.std.specs.Prelude.{ℕ, zero, suc, Bool, true, false, List, [], ◌∷◌}

-- a number in front of a list, if a test says so
abbrev pub add_if : Bool → ℕ → List ℕ → List ℕ
add_if true x xs = x ∷ xs
add_if false x xs = xs

-- the numbers that pass a test, of k numbers from i on
unfoldable pub passing : (ℕ → Bool) → ℕ → ℕ → List ℕ
passing test i zero = []
passing test i (suc k) = add_if (test i) i (passing test (suc i) k)
