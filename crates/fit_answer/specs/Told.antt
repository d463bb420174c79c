-- Fit's answer on two rows of the sheet in the buffer, and the walk along them, where the fit table's word is taken. Stands on the
-- table's word and on the rules of fit and of the walk; it asks nothing of what the table holds.
use Rattle.std.specs.Prelude.{ℕ, cond, List}
use Rattle.std.proofs.Math.Option.{Option}
use Rattle.sheet_rules.specs.declared.FitAnswer.{FitAnswer}
use Rattle.sheet_rules.specs.declared.FitAnswer.TheVariants.{Yes}
use Rattle.sheet_rules.specs.Sheet.{Row, row_at}
use Rattle.type_rules.specs.declared.Walk.{Walk}
use Rattle.type_rules.specs.Fit.{row_answer}
use Rattle.type_rules.specs.Walk.{walk, turns_of, row_walk}
use Rattle.table.specs.View.{sheet_in}
use Rattle.fit.specs.Told.{tells}

-- a row of the sheet in the buffer, by its number
abbrev pub row_of : List ℕ → ℕ → Row
row_of w a = row_at (sheet_in w).rows a

-- what two rows say, where the table's word is taken for the rows that members mention
abbrev pub rows_say : List ℕ → ℕ → ℕ → FitAnswer
rows_say w a b = row_answer (tells w) (row_of w a) (row_of w b)

-- the walk along their members, and with the kinds along the rows, of as many turns as they have members together
abbrev pub members_walk : List ℕ → ℕ → ℕ → Option Walk
members_walk w a b = walk (tells w) (turns_of (row_of w a) (row_of w b)) 0 (row_of w a).members (row_of w b).members

abbrev pub rows_walk : List ℕ → ℕ → ℕ → Option Walk
rows_walk w a b = row_walk (tells w) (turns_of (row_of w a) (row_of w b)) (row_of w a) (row_of w b)

-- what the table says of two rows: yes by its own word, and else what the rows say
unfoldable pub answers : List ℕ → ℕ → ℕ → FitAnswer
answers w a b = cond (tells w a b) Yes (rows_say w a b)
