-- A property that every element of a list has, for any type of elements. Stands on nothing.
use Rattle.std.specs.Prelude.{List, [], ◌∷◌}

-- every element has it
pub data Each {A : Type 0} (P : A → Type 0) : List A → Type 0 where
  none : Each P []
  each : {x : A} {xs : List A} → P x → Each P xs → Each P (x ∷ xs)
