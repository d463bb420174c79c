-- How many members of a row the walk along two rows passes (document 02, order 5). Stands on Fit's answer and on the rows of a sheet.
use Rattle.std.specs.Prelude.{ℕ, ◌+◌, cond, List, [], ◌∷◌, leb}
use Rattle.sheet_rules.specs.declared.Member.{Member}
use Rattle.sheet_rules.specs.declared.FitAnswer.{FitAnswer}
use Rattle.sheet_rules.specs.declared.FitAnswer.TheVariants.{Yes, WrongKind, Unmet}
use Rattle.sheet_rules.specs.RowLines.{name_of}

-- how many members have names up to n (document 02, order 5)
unfoldable pub up_to : ℕ → List Member → ℕ
up_to n [] = 0
up_to n (x ∷ xs) = cond (leb (name_of x) n) 1 0 + up_to n xs

-- the last name of a row's members, of which there is one at least: the first, and the rest (document 02, order 5)
unfoldable pub last_name : Member → List Member → ℕ
last_name y [] = name_of y
last_name y (z ∷ ys) = last_name z ys

-- of row a's members, those with names up to the answered one are passed; on yes those up to b's last, and none where b has no
-- member; on kind none (document 02, order 5)
abbrev pub passed : FitAnswer → List Member → List Member → ℕ
passed Yes xs [] = 0
passed Yes xs (y ∷ ys) = up_to (last_name y ys) xs
passed WrongKind xs ys = 0
passed (Unmet n) xs ys = up_to n xs
