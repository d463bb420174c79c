-- What the fit question answers for a text and two row numbers, its buffers left aside (document 01, Turned away; document 02,
-- orders 3 and 5).
-- Stands on Fit, on Passed and on reading.
use Rattle.std.specs.Prelude.{ℕ, cond, ◌&&◌, List, ltb, length}
use Rattle.sheet_rules.specs.declared.Reason.{Reason}
use Rattle.sheet_rules.specs.declared.Reason.TheVariants.{NotDefined}
use Rattle.sheet_rules.specs.Sheet.{Sheet, row_at}
use Rattle.sheet_rules.specs.Reading.{Meaning, readable, unreadable, meaning}
use Rattle.sheet_rules.specs.declared.FitAnswer.{FitAnswer}
use Rattle.sheet_rules.specs.declared.Refusal.{Refusal}
use Rattle.std.specs.declared.result.Result.{Result}
use Rattle.type_rules.specs.declared.FitTold.{FitTold}
use Rattle.type_rules.specs.Fit.{fit_answer}
use Rattle.type_rules.specs.Passed.{passed}
use Rattle.std.specs.declared.result.Result.TheVariants.{Ok, Err}
use Rattle.sheet_rules.specs.Answers.{turned_away}

-- both rows are there: fit's answer, yes or what is lacking; a row number that is not there is refused at line 0 (Turned away;
-- document 02, order 3)
abbrev pub fit_in : Sheet → ℕ → ℕ → Result FitAnswer Refusal
fit_in s a b =
    cond (ltb a (length s.rows) && ltb b (length s.rows))
    (Ok (fit_answer s.rows a b))
    (turned_away NotDefined 0)

-- the fit question stops after reading (Turned away)
abbrev pub fit_on : Meaning → ℕ → ℕ → Result FitAnswer Refusal
fit_on (readable s) a b = fit_in s a b
fit_on (unreadable r n) a b = turned_away r n

-- what the fit question answers (Turned away)
unfoldable pub fit_reply : List ℕ → ℕ → ℕ → Result FitAnswer Refusal
fit_reply text a b = fit_on (meaning text) a b

-- how many members of row a the walk passed, beside a reply on a sheet, and on what a text means: none if it is refused (document 02,
-- order 5)
abbrev pub passed_in : Sheet → ℕ → ℕ → Result FitAnswer Refusal → ℕ
passed_in s a b (Ok x) = passed x (row_at s.rows a).members (row_at s.rows b).members
passed_in s a b (Err e) = 0

abbrev pub passed_on : Meaning → ℕ → ℕ → Result FitAnswer Refusal → ℕ
passed_on (readable s) a b r = passed_in s a b r
passed_on (unreadable e n) a b r = 0

-- what the fit question tells: its reply, and that number (document 02, order 5)
unfoldable pub fit_told : List ℕ → ℕ → ℕ → FitTold
fit_told text a b = record { reply = fit_reply text a b; passed = passed_on (meaning text) a b (fit_reply text a b) }

-- what a refusal tells (EnoughLaws.told_refused_lem: exactly where the reply is one) (document 02, order 5)
abbrev pub told_refused : Reason → ℕ → FitTold
told_refused r n = record { reply = turned_away r n; passed = 0 }
