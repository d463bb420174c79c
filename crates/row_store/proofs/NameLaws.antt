-- The least name that ascends. Assumes nothing.
use Prim.Native.Nat.{ℕ, zero, suc, ◌+◌}
use native.Mathlib.Numerals.{add-one}
use mathlib.Core.Path.{◌≡◌, refl, sym, ap, ◌∙◌}
use mathlib.Core.List.{List, [], ◌∷◌, ◌++◌}
use lib.Dec.{leb, ltb, leb-zero}
use Rattle.lists.specs.Tab.{tab}
use Rattle.lists.proofs.TabLaws.{tab-suc}
use Rattle.sheet_rules.specs.declared.Member.{Member}
use Rattle.sheet_rules.specs.RowLines.{name_of, ascends}
use Rattle.line_judges.specs.Told.{Lowest}

ascends_snoc : (xs : List Member) (x : Member) (n : ℕ) → ascends (xs ++ (x ∷ [])) n ≡ ltb (name_of x) n
unfolding ascends
ascends_snoc [] x n = refl
ascends_snoc (y ∷ []) x n = refl
ascends_snoc (y ∷ z ∷ xs) x n = ascends_snoc (z ∷ xs) x n

module _ (f : ℕ → Member) where
  pub Lowest-none : Lowest (tab f zero) 0
  unfolding tab ascends
  Lowest-none n = sym (leb-zero n)

  pub Lowest-after : (j : ℕ) (m : Member) → m ≡ f j → (r : ℕ) → r ≡ name_of m + 1 → Lowest (tab f (suc j)) r
  Lowest-after j m e r p n =
      ap (λ (xs : List Member). ascends xs n) (tab-suc f j) ∙ ascends_snoc (tab f j) (f j) n
      ∙ ap (λ (x : Member). leb (suc (name_of x)) n) (sym e) ∙ ap (λ (k : ℕ). leb k n) (sym (p ∙ add-one (name_of m)))
