-- The numbers that pass a test, written one after another. Assumes nothing.
use Prim.Native.Nat.{ℕ, suc, ◌+◌, ◌≤◌, ◌<◌}
use native.Mathlib.Omega.{arith}
use native.Mathlib.Numerals.{add-one}
use mathlib.Core.Path.{◌≡◌, refl, sym, ap, ◌∙◌, subst}
use mathlib.Core.Bool.{Bool, true, false, cond}
use mathlib.Core.List.{List, [], ◌∷◌, ◌++◌, append-nil}
use lib.ListN.{length, get_or, set, drop, length-append, length-drop}
use lib.Seq.{drop-cons, set_at, append_snoc}
use Rattle.lists.specs.Passing.{add_if, passing}
use Rattle.lists.specs.PutAt.{begun}
use Rattle.lists.proofs.PassingLaws.{passing_snoc, passing_few}
use Rattle.authority.specs.Laid.{Kept, Written}

module _ (test : ℕ → Bool) (result : List ℕ) where
  pub Written-start : Written test 0 result result 0
  unfolding passing
  Written-start = record { counted = refl; left = refl }

  pub Written-few : (b r : ℕ) (result₁ : List ℕ) → Written test b result result₁ r → r ≤ b
  Written-few b r result₁ w = omega (arith, w.counted, passing_few test 0 b)

  pub Written-size : (b r : ℕ) (result₁ : List ℕ) → Written test b result result₁ r → b ≤ length result → length result₁ ≡ length result
  Written-size b r result₁ w h =
      ap length w.left
      ∙ length-append (passing test 0 b) (drop (length (passing test 0 b)) result)
      ∙ (let l = length-drop (length (passing test 0 b)) result in let f = passing_few test 0 b in omega arith)

  pub Written-next : (b r : ℕ) (result₁ result₂ : List ℕ) (r₂ : ℕ) → Written test b result result₁ r → b < length result → Kept (test b) b r result₁ result₂ r₂ → Written test (b + 1) result result₂ r₂
  Written-next b r result₁ result₂ r₂ w h k =
      subst (λ (x : ℕ). Written test x result result₂ r₂) (sym (add-one b)) (go (test b) refl k)
    where
      next : (t : Bool) → test b ≡ t → passing test 0 (suc b) ≡ passing test 0 b ++ add_if t b []
      next t e = passing_snoc test 0 b ∙ (let z : 0 + b ≡ b = omega arith in ap (λ (x : ℕ). passing test 0 b ++ add_if (test x) x []) z) ∙ ap (λ (x : Bool). passing test 0 b ++ add_if x b []) e

      go : (t : Bool) → test b ≡ t → Kept t b r result₁ result₂ r₂ → Written test (suc b) result result₂ r₂
      go false e q =
          let same : passing test 0 (suc b) ≡ passing test 0 b = next false e ∙ append-nil (passing test 0 b) in
          record {
            counted = q.counted ∙ w.counted ∙ sym (ap length same);
            left = q.left ∙ w.left ∙ sym (ap (λ (ys : List ℕ). begun ys result) same);
          }
      go true e q =
          let same : passing test 0 (suc b) ≡ passing test 0 b ++ (b ∷ []) = next true e in
          record {
            counted = q.counted ∙ ap suc w.counted ∙ sym (ap length same ∙ longer);
            left = q.left ∙ stored ∙ sym (ap (λ (ys : List ℕ). begun ys result) same);
          }
        where
          inside : length (passing test 0 b) < length result
          inside = omega (arith, passing_few test 0 b)

          longer : length (passing test 0 b ++ (b ∷ [])) ≡ suc (length (passing test 0 b))
          longer = length-append (passing test 0 b) (b ∷ []) ∙ omega arith

          stored : set result₁ r b ≡ begun (passing test 0 b ++ (b ∷ [])) result
          stored =
              ap (λ (x : List ℕ). set x r b) (w.left ∙ ap (λ (ys : List ℕ). passing test 0 b ++ ys) (drop-cons result (length (passing test 0 b)) 0 inside))
              ∙ set_at (passing test 0 b) (get_or result (length (passing test 0 b)) 0) (drop (suc (length (passing test 0 b))) result) b r (sym w.counted)
              ∙ sym (append_snoc (passing test 0 b) b (drop (suc (length (passing test 0 b))) result))
              ∙ ap (λ (m : ℕ). (passing test 0 b ++ (b ∷ [])) ++ drop m result) (sym longer)

  -- nothing more to write, or one number

  pub Kept-not : (t : Bool) (b count : ℕ) → t ≡ false → Kept t b count result result count
  Kept-not t b count e =
      record { counted = sym (ap (λ (x : Bool). cond x (suc count) count) e); left = sym (ap (λ (x : Bool). cond x (set result count b) result) e) }

  pub Kept-one : (t : Bool) (b count : ℕ) → t ≡ true → (v : ℕ) → v ≡ b → Kept t b count result (set result count v) (count + 1)
  Kept-one t b count e v q =
      record {
        counted = add-one count ∙ sym (ap (λ (x : Bool). cond x (suc count) count) e);
        left = ap (set result count) q ∙ sym (ap (λ (x : Bool). cond x (set result count b) result) e);
      }
