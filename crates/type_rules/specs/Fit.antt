-- When a row fits another, and what is lacking if not (document 01, Fit and typing; document 003, appendix A; document 02, order 3).
-- Stands on the rows of a sheet.
use Rattle.std.specs.Prelude.{ℕ, zero, suc, ◌*◌, Bool, true, false, cond, ◌&&◌, ◌||◌, List, [], ◌∷◌, eqb, length}
use Rattle.sheet_rules.specs.declared.Kind.{Kind}
use Rattle.sheet_rules.specs.declared.Kind.TheVariants.{Pure, Resource}
use Rattle.sheet_rules.specs.declared.Member.{Member}
use Rattle.sheet_rules.specs.declared.Member.TheVariants.{Method, Field}
use Rattle.sheet_rules.specs.declared.FitAnswer.{FitAnswer}
use Rattle.sheet_rules.specs.declared.FitAnswer.TheVariants.{Yes, WrongKind, Unmet}
use Rattle.sheet_rules.specs.Answers.{is_yes}
use Rattle.sheet_rules.specs.Sheet.{Row, row_at}
use Rattle.sheet_rules.specs.RowLines.{name_of}

-- a is pure, or b is a resource: a resource never passes where pure is asked (Fit and typing)
abbrev pub kind_fits : Kind → Kind → Bool
kind_fits Pure b = true
kind_fits Resource Pure = false
kind_fits Resource Resource = true

-- member x of row a is the match of member y of row b, given which rows fit: a field of the same name and the same row;
-- a method of the same name, where b's argument fits a's argument and a's result fits b's result (Fit and typing)
abbrev pub matches : (ℕ → ℕ → Bool) → Member → Member → Bool
matches fit (Field n r) (Field n' r') = eqb n n' && eqb r r'
matches fit (Method n a r) (Method n' a' r') = eqb n n' && fit a' a && fit r r'
matches fit (Method n a r) (Field n' r') = false
matches fit (Field n r) (Method n' a' r') = false

-- some member of row a is the match of y; extra members do no harm (Fit and typing)
unfoldable pub has_match : (ℕ → ℕ → Bool) → List Member → Member → Bool
has_match fit [] y = false
has_match fit (x ∷ xs) y = matches fit x y || has_match fit xs y

-- each member of row b has its match in row a; if not, the first that lacks it is named (names ascend, so it is the lowest)
-- (Fit and typing; document 02, order 3)
unfoldable pub members_answer : (ℕ → ℕ → Bool) → List Member → List Member → FitAnswer
members_answer fit xs [] = Yes
members_answer fit xs (y ∷ ys) = cond (has_match fit xs y) (members_answer fit xs ys) (Unmet (name_of y))

-- whether row a fits row b, given which rows fit: kinds first, then members (Fit and typing; document 02, order 3)
abbrev pub row_answer : (ℕ → ℕ → Bool) → Row → Row → FitAnswer
row_answer fit a b = cond (kind_fits a.kind b.kind) (members_answer fit a.members b.members) WrongKind

-- row number a fits row number b as far as chains of d demands tell (Fit and typing)
unfoldable pub fit_up_to : List Row → ℕ → ℕ → ℕ → Bool
fit_up_to rows zero a b = true
fit_up_to rows (suc d) a b = is_yes (row_answer (fit_up_to rows d) (row_at rows a) (row_at rows b))

-- chains of this length tell all: no longer one can meet a pair of rows for the first time (Fit and typing)
abbrev pub depth_of : List Row → ℕ
depth_of rows = length rows * length rows

-- whether row number a fits row number b, with the answer (Fit and typing)
unfoldable pub fit_answer : List Row → ℕ → ℕ → FitAnswer
fit_answer rows a b = row_answer (fit_up_to rows (depth_of rows)) (row_at rows a) (row_at rows b)

-- row number a fits row number b (FitLaws.fit_rule: exactly when the rule holds with `fits` itself for the rows mentioned)
-- (Fit and typing)
unfoldable pub fits : List Row → ℕ → ℕ → Bool
fits rows a b = is_yes (fit_answer rows a b)
