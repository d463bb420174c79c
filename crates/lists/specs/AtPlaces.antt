-- The elements of a list at places that pass a test. Stands on nothing.
use Rattle.std.specs.Prelude.{ℕ, suc, Bool, List, [], ◌∷◌}
use Rattle.lists.specs.Passing.{add_if}

-- the elements at places that pass, counted from 0
unfoldable pub at_places : (ℕ → Bool) → List ℕ → List ℕ
at_places test [] = []
at_places test (x ∷ xs) = add_if (test 0) x (at_places (λ i. test (suc i)) xs)
