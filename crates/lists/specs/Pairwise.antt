-- Two lists related one for one, for any types of elements. Stands on nothing.
use Rattle.std.specs.Prelude.{List, [], ◌∷◌}

-- the lists are equally long, and elements at the same place are related
pub data Pairwise {A B : Type 0} (R : A → B → Type 0) : List A → List B → Type 0 where
  none : Pairwise R [] []
  pair : {x : A} {y : B} {xs : List A} {ys : List B} → R x y → Pairwise R xs ys → Pairwise R (x ∷ xs) (y ∷ ys)
