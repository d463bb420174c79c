-- Laws of `tab`. Assumes nothing.
use Prim.Native.Nat.{ℕ, zero, suc, ◌≤◌, ◌<◌}
use native.Mathlib.Omega.{arith}
use native.Mathlib.Decide.{dec_le, ℕ_discrete}
use mathlib.Core.Path.{◌≡◌, refl, sym, ap, ap₂, ◌∙◌}
use mathlib.Core.List.{List, [], ◌∷◌, ◌++◌, map}
use lib.ListN.{length, get_or, set, length-append, length-set, get_or-append}
use lib.Seq.{get_or_at, get_or-set_same, get_or-set_other, ext_get_or}
use Rattle.lists.specs.Pairwise.{Pairwise}
use Rattle.lists.specs.Tab.{tab}
use Rattle.lists.proofs.PairwiseLaws.{Pairwise-snoc}

module _ {A : Type 0} where
  pub tab-suc : (f : ℕ → A) (n : ℕ) → tab f (suc n) ≡ tab f n ++ (f n ∷ [])
  unfolding tab
  tab-suc f n = refl

  pub length-tab : (f : ℕ → A) (n : ℕ) → length (tab f n) ≡ n
  unfolding tab
  length-tab f zero = refl
  length-tab f (suc n) = let e : length (tab f n) ≡ n = length-tab f n in rw length-append (omega arith)

  pub get_or-tab : (f : ℕ → A) (n i : ℕ) (d : A) → i < n → get_or (tab f n) i d ≡ f i
  unfolding tab
  get_or-tab f zero i d h = absurd (omega arith)
  get_or-tab f (suc n) i d h = go (dec_le (suc i) n) (λ k. get_or-tab f n i d k)
    where
      go : Dec (suc i ≤ n) → (i < n → get_or (tab f n) i d ≡ f i) → get_or (tab f n ++ (f n ∷ [])) i d ≡ f i
      go (yes k) r = get_or-append (tab f n) (f n ∷ []) d i (let e : length (tab f n) ≡ n = length-tab f n in omega arith) ∙ r k
      go (no k) r =
          let e : n ≡ i = omega arith in
          get_or_at (tab f n) (f n) [] d i (length-tab f n ∙ e) ∙ ap f e

  -- two functions that agree below n
  pub tab_ext : (f g : ℕ → A) (n : ℕ) → ((i : ℕ) → i < n → f i ≡ g i) → tab f n ≡ tab g n
  unfolding tab
  tab_ext f g zero h = refl
  tab_ext f g (suc n) h = ap₂ (λ (xs : List A) (x : A). xs ++ (x ∷ [])) (tab_ext f g n (λ i k. h i (omega arith))) (h n (omega arith))

  -- a list that has the function's values
  pub tab_is : (f : ℕ → A) (n : ℕ) (xs : List A) (d : A) → length xs ≡ n → ((i : ℕ) → i < n → get_or xs i d ≡ f i) → tab f n ≡ xs
  tab_is f n xs d e h =
      ext_get_or d (tab f n) xs (length-tab f n ∙ sym e)
      (λ i k. (let l : i < n = omega (arith, length-tab f n) in get_or-tab f n i d l ∙ sym (h i l)))

  -- the first value, and the others
  pub tab-cons : (f : ℕ → A) (n : ℕ) → tab f (suc n) ≡ f 0 ∷ tab (λ i. f (suc i)) n
  tab-cons f n = tab_is f (suc n) (f 0 ∷ tab (λ i. f (suc i)) n) (f 0) (ap suc (length-tab (λ i. f (suc i)) n)) each
    where
      each : (i : ℕ) → i < suc n → get_or (f 0 ∷ tab (λ j. f (suc j)) n) i (f 0) ≡ f i
      each zero h = refl
      each (suc i) h = get_or-tab (λ j. f (suc j)) n i (f 0) (omega arith)

  -- one value changed
  pub tab-set : (f g : ℕ → A) (n i : ℕ) → ((j : ℕ) → j < n → (j ≡ i → ⊥) → g j ≡ f j) → i < n → tab g n ≡ set (tab f n) i (g i)
  tab-set f g n i h k = tab_is g n (set (tab f n) i (g i)) (f 0) (length-set (tab f n) i (g i) ∙ length-tab f n) (λ j l. each j l (ℕ_discrete j i))
    where
      each : (j : ℕ) → j < n → Dec (j ≡ i) → get_or (set (tab f n) i (g i)) j (f 0) ≡ g j
      each j l (yes e) =
          ap (λ (x : ℕ). get_or (set (tab f n) i (g i)) x (f 0)) e
          ∙ get_or-set_same (tab f n) i (g i) (f 0) (omega (arith, length-tab f n))
          ∙ ap g (sym e)
      each j l (no d) = get_or-set_other (tab f n) i j (g i) (f 0) d ∙ get_or-tab f n j (f 0) l ∙ sym (h j l d)

-- a list by its elements, each put through a function
pub map-tab : {A B : Type 0} (f : A → B) (xs : List A) (d : A) → map f xs ≡ tab (λ i. f (get_or xs i d)) (length xs)
unfolding tab
map-tab f [] d = refl
map-tab f (x ∷ xs) d = ap (λ ys. f x ∷ ys) (map-tab f xs d) ∙ sym (tab-cons (λ i. f (get_or (x ∷ xs) i d)) (length xs))

-- two such lists, place by place
pub Pairwise-tab : {A B : Type 0} {R : A → B → Type 0} (f : ℕ → A) (g : ℕ → B) (n : ℕ) → ((i : ℕ) → i < n → R (f i) (g i)) → Pairwise R (tab f n) (tab g n)
unfolding tab
Pairwise-tab f g zero h = Pairwise.none
Pairwise-tab f g (suc n) h = Pairwise-snoc (Pairwise-tab f g n (λ i k. h i (omega arith))) (h n (omega arith))
