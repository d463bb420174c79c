-- Membership in a list, for any type of elements. Stands on nothing.
use Rattle.std.specs.Prelude.{◌≡◌, List, ◌∷◌}

-- x is an element of the list
pub data In {A : Type 0} (x : A) : List A → Type 0 where
  here : {y : A} {ys : List A} → x ≡ y → In x (y ∷ ys)
  there : {y : A} {ys : List A} → In x ys → In x (y ∷ ys)
