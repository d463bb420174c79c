-- Laws of `Each`: two lists joined, a list that a function makes, and a property that follows from another. Assumes nothing.
use mathlib.Core.List.{List, [], ◌∷◌, ◌++◌, map}
use Rattle.lists.specs.Each.{Each, none, each}

module _ {A : Type 0} {P : A → Type 0} where
  pub Each-both : {xs ys : List A} → Each P xs → Each P ys → Each P (xs ++ ys)
  Each-both none k = k
  Each-both (each p h) k = each p (Each-both h k)

  pub Each-map : {B : Type 0} (f : B → A) → ((y : B) → P (f y)) → (ys : List B) → Each P (map f ys)
  Each-map f h [] = none
  Each-map f h (y ∷ ys) = each (h y) (Each-map f h ys)

  pub Each-follows : {Q : A → Type 0} → ((x : A) → P x → Q x) → {xs : List A} → Each P xs → Each Q xs
  Each-follows h none = none
  Each-follows h (each {x} p k) = each (h x p) (Each-follows h k)
