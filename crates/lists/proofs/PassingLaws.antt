-- Laws of `passing`: the list ascends, has exactly the numbers that pass, and grows at its end. Assumes nothing.
use Prim.Native.Nat.{ℕ, zero, suc, ◌+◌, ◌≤◌, ◌<◌}
use native.Mathlib.Omega.{arith}
use mathlib.Core.Path.{◌≡◌, refl, sym, ap, ◌∙◌, subst}
use mathlib.Core.Bool.{Bool, true, false}
use mathlib.Core.List.{List, [], ◌∷◌, ◌++◌}
use mathlib.Core.Logic.{◌⊎◌, inl, inr}
use lib.Dec.{T, eqb, eqb→eq}
use lib.ListN.{length}
use borrow.Author.Tests.{eqb-false}
use Rattle.lists.specs.Contains.{contains}
use Rattle.lists.specs.Passing.{add_if, passing}
use Rattle.lists.proofs.Tests.{or_left, or_right, or_cases, T-ext}

-- ascending without repeats, from i on: each number is above all before it
pub data Ascending : ℕ → List ℕ → Type 0 where
  end : {i : ℕ} → Ascending i []
  above : {i x : ℕ} {xs : List ℕ} → i ≤ x → Ascending (suc x) xs → Ascending i (x ∷ xs)

Ascending-later : {i j : ℕ} {xs : List ℕ} → i ≤ j → Ascending j xs → Ascending i xs
Ascending-later h end = end
Ascending-later {i} h (above {x = x} k r) = above {i = i} {x = x} (omega arith) r

pub passing-Ascending : (test : ℕ → Bool) (i k : ℕ) → Ascending i (passing test i k)
unfolding passing
passing-Ascending test i zero = end
passing-Ascending test i (suc k) = go (test i) (passing test (suc i) k) (passing-Ascending test (suc i) k)
  where
    go : (b : Bool) (xs : List ℕ) → Ascending (suc i) xs → Ascending i (add_if b i xs)
    go true xs r = above {i = i} {x = i} (omega arith) r
    go false xs r = Ascending-later (omega arith) r

above_of : (i b : ℕ) → i ≤ b → (i ≡ b → ⊥) → suc i ≤ b
above_of i b lo ne = omega (arith, ne)

contains-passing : (test : ℕ → Bool) (i k b : ℕ) → i ≤ b → b < i + k → T (test b) → T (contains (passing test i k) b)
unfolding passing contains
contains-passing test i zero b lo hi t = absurd (omega arith)
contains-passing test i (suc k) b lo hi t =
    go (test i) refl (eqb i b) refl (passing test (suc i) k) (λ more. contains-passing test (suc i) k b more (omega arith) t)
  where
    go : (c : Bool) → test i ≡ c → (e : Bool) → eqb i b ≡ e → (xs : List ℕ) → (suc i ≤ b → T (contains xs b)) → T (contains (add_if c i xs) b)
    go true p true q xs r = or_left (eqb i b) (contains xs b) (subst T (sym q) tt)
    go true p false q xs r = or_right (eqb i b) (contains xs b) (r (above_of i b lo (eqb-false i b q)))
    go false p true q xs r =
        absurd (subst T p (subst (λ (x : ℕ). T (test x)) (sym (eqb→eq i b (subst T (sym q) tt))) t))
    go false p false q xs r = r (above_of i b lo (eqb-false i b q))

passing_passes : (test : ℕ → Bool) (i k b : ℕ) → T (contains (passing test i k) b) → T (test b)
unfolding passing contains
passing_passes test i zero b t = absurd t
passing_passes test i (suc k) b t = go (test i) refl (passing test (suc i) k) (passing_passes test (suc i) k b) t
  where
    go : (c : Bool) → test i ≡ c → (xs : List ℕ) → (T (contains xs b) → T (test b)) → T (contains (add_if c i xs) b) → T (test b)
    go false p xs r u = r u
    go true p xs r u = pick (or_cases (eqb i b) (contains xs b) u)
      where
        pick : T (eqb i b) ⊎ T (contains xs b) → T (test b)
        pick (inl e) = subst (λ (x : ℕ). T (test x)) (eqb→eq i b e) (subst T (sym p) tt)
        pick (inr v) = r v

-- a number stands among those that pass a test exactly when it passes, where only numbers below n pass
pub passing_exactly : (test : ℕ → Bool) (n b : ℕ) → (T (test b) → b < n) → contains (passing test 0 n) b ≡ test b
passing_exactly test n b made =
    T-ext (contains (passing test 0 n) b) (test b)
    (passing_passes test 0 n b)
    (λ t. contains-passing test 0 n b (omega arith) (omega (arith, made t)) t)

-- one number more, at the end
pub passing_snoc : (test : ℕ → Bool) (i k : ℕ) → passing test i (suc k) ≡ passing test i k ++ add_if (test (i + k)) (i + k) []
unfolding passing
passing_snoc test i zero = let e : i ≡ i + 0 = omega arith in ap (λ (x : ℕ). add_if (test x) x []) e
passing_snoc test i (suc k) =
    ap (add_if (test i) i) (passing_snoc test (suc i) k)
    ∙ go (test i)
    ∙ ap (λ (x : ℕ). add_if (test i) i (passing test (suc i) k) ++ add_if (test x) x []) (omega arith)
  where
    go : (b : Bool) → add_if b i (passing test (suc i) k ++ add_if (test (suc i + k)) (suc i + k) []) ≡ add_if b i (passing test (suc i) k) ++ add_if (test (suc i + k)) (suc i + k) []
    go true = refl
    go false = refl

pub passing_few : (test : ℕ → Bool) (i k : ℕ) → length (passing test i k) ≤ k
unfolding passing
passing_few test i zero = omega arith
passing_few test i (suc k) = go (test i) (passing test (suc i) k) (passing_few test (suc i) k)
  where
    go : (b : Bool) (xs : List ℕ) → length xs ≤ k → length (add_if b i xs) ≤ suc k
    go true xs h = omega arith
    go false xs h = omega arith

-- two tests that agree
pub passing_same : (p q : ℕ → Bool) (i k : ℕ) → ((b : ℕ) → i ≤ b → b < i + k → p b ≡ q b) → passing p i k ≡ passing q i k
unfolding passing
passing_same p q i zero h = refl
passing_same p q i (suc k) h =
    λ x. add_if (h i (omega arith) (omega arith) x) i (passing_same p q (suc i) k (λ b l u. h b (omega arith) (omega arith)) x)

-- a test that nothing passes
pub passing_none : (i k : ℕ) → passing (λ b. false) i k ≡ []
unfolding passing
passing_none i zero = refl
passing_none i (suc k) = passing_none (suc i) k
