-- Laws of a walk over lines. Assumes nothing.
use Prim.Native.Nat.{ℕ, suc, ◌+◌}
use native.Mathlib.Omega.{arith}
use native.Mathlib.Numerals.{add-one}
use mathlib.Core.Path.{◌≡◌, refl, sym, ap, ◌∙◌}
use mathlib.Core.Bool.{Bool, true, false}
use mathlib.Core.List.{List, [], ◌∷◌, ◌++◌}
use mathlib.Core.Option.{none, some}
use lib.ListN.{length}
use Rattle.lists.proofs.Tests.{clash}
use Rattle.sheet_rules.specs.declared.Reason.{Reason}
use Rattle.type_rules.specs.Typing.{Fault, unless, first_fault}
use Rattle.std.specs.declared.result.Result.TheVariants.{Ok}
use Rattle.sheet_rules.specs.Answers.{turned_away, verdict_from}
use Rattle.code_typing.specs.Walk.{walk, walk_on}

pub walk_none : (n : ℕ) → walk n [] ≡ Ok n
unfolding walk
walk_none n = refl

pub walk_good : (n : ℕ) (fs : List Fault) → walk (n + 1) fs ≡ walk n (none ∷ fs)
unfolding walk
walk_good n fs = ap (λ (m : ℕ). walk m fs) (add-one n)

pub walk_bad : (n : ℕ) (r : Reason) (fs : List Fault) → turned_away r n ≡ walk n (some r ∷ fs)
unfolding walk
walk_bad n r fs = refl

pub walk-append : (n : ℕ) (xs ys : List Fault) → walk n (xs ++ ys) ≡ walk_on (walk n xs) (λ m. walk m ys)
unfolding walk
walk-append n [] ys = refl
walk-append n (none ∷ xs) ys = walk-append (suc n) xs ys
walk-append n (some r ∷ xs) ys = refl

pub walk_verdict_lem : (n : ℕ) (fs : List Fault) → first_fault n fs ≡ verdict_from (walk n fs)
unfolding walk first_fault
walk_verdict_lem n [] = refl
walk_verdict_lem n (none ∷ fs) = walk_verdict_lem (suc n) fs
walk_verdict_lem n (some r ∷ fs) = refl

-- how far a walk goes
pub walk-length : (n : ℕ) (fs : List Fault) (m : ℕ) → walk n fs ≡ Ok m → m ≡ n + length fs
unfolding walk
walk-length n [] m e = let k : n ≡ m = cc in omega arith
walk-length n (none ∷ fs) m e = let k = walk-length (suc n) fs m e in omega arith
walk-length n (some r ∷ fs) m e = clash (cc)

-- one line with a test

pub line_good : (line : ℕ) (r : Reason) (b : Bool) → b ≡ true → Ok (line + 1) ≡ walk line (unless b r ∷ [])
line_good line r b e = sym (walk_none (line + 1)) ∙ walk_good line [] ∙ ap (λ (x : Bool). walk line (unless x r ∷ [])) (sym e)

pub line_bad : (line : ℕ) (r : Reason) (b : Bool) → b ≡ false → turned_away r line ≡ walk line (unless b r ∷ [])
line_bad line r b e = walk_bad line r [] ∙ ap (λ (x : Bool). walk line (unless x r ∷ [])) (sym e)
