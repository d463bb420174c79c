-- One walk along two rows, of a number of turns at most (document 02, order 5). EnoughLaws proves that as many turns as the two have
-- members together are enough, and that the walk then ends with fit's answer and the count of the rule. Stands on Fit.
use Rattle.std.specs.Prelude.{ℕ, zero, suc, ◌+◌, Bool, cond, List, [], ◌∷◌, ltb, length}
use Rattle.std.proofs.Math.Option.{Option, none, some}
use Rattle.sheet_rules.specs.declared.Member.{Member}
use Rattle.sheet_rules.specs.declared.FitAnswer.{FitAnswer}
use Rattle.sheet_rules.specs.declared.FitAnswer.TheVariants.{Yes, WrongKind, Unmet}
use Rattle.sheet_rules.specs.Sheet.{Row}
use Rattle.sheet_rules.specs.RowLines.{name_of}
use Rattle.type_rules.specs.declared.Walk.{Walk}
use Rattle.type_rules.specs.Fit.{kind_fits, matches}

-- the walk ends with an answer, n members of row a passed (document 02, order 5)
abbrev pub ends : FitAnswer → ℕ → Option Walk
ends x n = some (record { answer = x; passed = n })

-- the walk along the members that are left of both rows, n of row a's passed. It ends where b has none left, and at a member of b
-- that row a lacks or mismatches; each turn before that passes one of a's, with b's of the same name if there is one. No end where
-- the turns run out (document 02, order 5)
unfoldable pub walk : (ℕ → ℕ → Bool) → (turns n : ℕ) → List Member → List Member → Option Walk
walk fit turns n xs [] = ends Yes n
walk fit zero n xs (y ∷ ys) = none
walk fit (suc turns) n [] (y ∷ ys) = ends (Unmet (name_of y)) n
walk fit (suc turns) n (x ∷ xs) (y ∷ ys) =
    cond (ltb (name_of x) (name_of y)) (walk fit turns (suc n) xs (y ∷ ys))
    (cond (ltb (name_of y) (name_of x)) (ends (Unmet (name_of y)) n)
    (cond (matches fit x y) (walk fit turns (suc n) xs ys) (ends (Unmet (name_of y)) (suc n))))

-- as many turns as two rows have members together (document 02, order 5)
abbrev pub turns_of : Row → Row → ℕ
turns_of a b = length a.members + length b.members

-- the walk along two rows: kinds first, then members (document 02, order 5)
abbrev pub row_walk : (ℕ → ℕ → Bool) → ℕ → Row → Row → Option Walk
row_walk fit turns a b = cond (kind_fits a.kind b.kind) (walk fit turns 0 a.members b.members) (ends WrongKind 0)
