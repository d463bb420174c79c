-- What the fit question promises for every text, every two row numbers and every work buffer. Stands on the rule's answer.
use Rattle.std.specs.Prelude.{ℕ, List}
use Rattle.sheet_rules.specs.declared.Reason.TheVariants.{BufferTooShort}
use Rattle.sheet_rules.specs.Sheet.{Sheet}
use Rattle.type_rules.specs.declared.FitTold.{FitTold}
use Rattle.type_rules.specs.FitQuestion.{fit_in, passed_in, fit_told, told_refused}
use Rattle.question.specs.Asked.{AskedAlone}

-- what is told of a sheet that was read
abbrev pub told_in : Sheet → ℕ → ℕ → FitTold
told_in s a b = record { reply = fit_in s a b; passed = passed_in s a b (fit_in s a b) }

-- the promise: what the rule tells, and the work buffer left as the paper says (document 01, Turned away)
abbrev pub FitAsked : List ℕ → (a b : ℕ) → (w w' : List ℕ) → FitTold → Type 0
FitAsked text a b w w' r = AskedAlone (fit_told text a b) (told_refused BufferTooShort 0) w w' r
