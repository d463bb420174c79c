-- A walk over lines, each with its fault, if any: it goes on to the line after them, or stops at the first at fault. Stands on
-- the typing rules.
use Rattle.std.specs.Prelude.{ℕ, suc, List, [], ◌∷◌}
use Rattle.std.proofs.Math.Option.{none, some}
use Rattle.type_rules.specs.Typing.{Fault}
use Rattle.std.specs.declared.result.Result.{Result}
use Rattle.std.specs.declared.result.Result.TheVariants.{Ok, Err}
use Rattle.sheet_rules.specs.declared.Refusal.{Refusal}
use Rattle.sheet_rules.specs.Answers.{turned_away}

-- the number of the line after a sheet's last, at the most: its first form stands on line 579, each of 64 forms has 273 lines, the
-- devices have 9, and main has 33. So no arithmetic on line numbers overflows
abbrev pub line_limit : ℕ
line_limit = 18093

-- over lines numbered from n
unfoldable pub walk : ℕ → List Fault → Result ℕ Refusal
walk n [] = Ok n
walk n (none ∷ fs) = walk (suc n) fs
walk n (some r ∷ fs) = turned_away r n

-- a walk, and what follows where it goes on
abbrev pub walk_on : Result ℕ Refusal → (ℕ → Result ℕ Refusal) → Result ℕ Refusal
walk_on (Ok n) k = k n
walk_on (Err e) k = Err e
