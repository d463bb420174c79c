-- The test `contains`: membership, and one element after another. Assumes nothing.
use Prim.Native.Nat.{ℕ, suc, ◌+◌, ◌<◌}
use native.Mathlib.Numerals.{add-one}
use mathlib.Core.Path.{◌≡◌, refl, sym, ap, ◌∙◌}
use mathlib.Core.Bool.{Bool, ◌||◌}
use mathlib.Core.List.{List, [], ◌∷◌}
use mathlib.Core.Logic.{◌⊎◌, inl, inr}
use lib.Dec.{T, eqb, eqb→eq}
use lib.ListN.{length, get_or, take}
use borrow.Author.Tests.{eq-eqb}
use Rattle.lists.specs.In.{In, here, there}
use Rattle.lists.specs.AnyAll.{any}
use Rattle.lists.specs.Contains.{contains}
use Rattle.lists.proofs.AnyAllLaws.{any-take}
use Rattle.lists.proofs.Tests.{or_left, or_right, or_cases, true→T}

pub contains-In : (xs : List ℕ) (b : ℕ) → T (contains xs b) → In b xs
unfolding contains
contains-In [] b t = absurd t
contains-In (x ∷ xs) b t = go (contains-In xs b) (or_cases (eqb x b) (contains xs b) t)
  where
    go : (T (contains xs b) → In b xs) → T (eqb x b) ⊎ T (contains xs b) → In b (x ∷ xs)
    go later (inl u) = here (sym (eqb→eq x b u))
    go later (inr u) = there (later u)

pub In-contains : (xs : List ℕ) (b : ℕ) → In b xs → T (contains xs b)
unfolding contains
In-contains (x ∷ xs) b (here e) = or_left (eqb x b) (contains xs b) (true→T (eqb x b) (eq-eqb x b (sym e)))
In-contains (x ∷ xs) b (there i) = or_right (eqb x b) (contains xs b) (In-contains xs b i)
In-contains [] b x' = elim x' [ ]

contains-any : (xs : List ℕ) (b : ℕ) → contains xs b ≡ any (λ x. eqb x b) xs
unfolding contains any
contains-any [] b = refl
contains-any (x ∷ xs) b = ap (λ (t : Bool). eqb x b || t) (contains-any xs b)

-- one element more
pub contains-take : (xs : List ℕ) (k b : ℕ) → k < length xs → (contains (take k xs) b || eqb (get_or xs k 0) b) ≡ contains (take (k + 1) xs) b
contains-take xs k b h =
    ap (λ (t : Bool). t || eqb (get_or xs k 0) b) (contains-any (take k xs) b)
    ∙ sym (any-take (λ x. eqb x b) xs k 0 h)
    ∙ sym (contains-any (take (suc k) xs) b)
    ∙ ap (λ (n : ℕ). contains (take n xs) b) (sym (add-one k))
