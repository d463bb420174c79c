-- What the bound question answers for a text, its buffer left aside (document 02, order 4). Stands on Strict and on Amount.
use Rattle.std.specs.Prelude.{ℕ, cond, List, leb}
use Rattle.sheet_rules.specs.declared.Reason.TheVariants.{BeyondCount}
use Rattle.sheet_rules.specs.Sheet.{Sheet}
use Rattle.sheet_rules.specs.Reading.{meaning}
use Rattle.type_rules.specs.Typing.{typing, if_accepted, accepted_on}
use Rattle.sheet_rules.specs.Answers.{turned_away}
use Rattle.sheet_rules.specs.declared.Refusal.{Refusal}
use Rattle.std.specs.declared.result.Result.TheVariants.{Ok}
use Rattle.std.specs.declared.result.Result.{Result}
use Rattle.bound_rules.specs.Strict.{strictness}
use Rattle.bound_rules.specs.Amount.{main_amount}

-- the largest amount that is answered (order 4, 13)
abbrev pub amount_limit : ℕ
amount_limit = 4294967295

-- main's amount, or 13 at line 0 where it is over the limit (order 4, 13)
abbrev pub counted : ℕ → Result ℕ Refusal
counted m = cond (leb m amount_limit) (Ok m) (turned_away BeyondCount 0)

-- an accepted sheet: a circular call is refused before any amount is looked at (order 4, 12)
abbrev pub bound_in : Sheet → Result ℕ Refusal
bound_in s = if_accepted turned_away (counted (main_amount s)) (strictness s)

-- what is answered for a text; a circular call is looked for only once the typing pass is over (order 4)
unfoldable pub bound_reply : List ℕ → Result ℕ Refusal
bound_reply text = accepted_on typing turned_away bound_in (meaning text)
