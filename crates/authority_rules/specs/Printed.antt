-- What the program prints (document 01, One sheet in full). Stands on the report.
use Rattle.std.specs.Prelude.{ℕ, List, [], ◌∷◌, ◌++◌}
use Rattle.sheet_rules.specs.Decimals.{line_text}
use Rattle.sheet_rules.specs.Keys.{bytes}
use Rattle.sheet_rules.specs.Answers.{number_of}
use Rattle.machine_rules.specs.Steps.{outcome_number}
use Rattle.machine_rules.specs.declared.RunAnswer.{RunAnswer}
use Rattle.authority_rules.specs.Report.{Holding, Report, reported, not_reported}

-- the words, each with its equal sign (One sheet in full)
unfoldable pub verdict_word : List ℕ
verdict_word = bytes "verdict="

unfoldable pub line_word : List ℕ
line_word = bytes "line="

unfoldable pub outcome_word : List ℕ
outcome_word = bytes "outcome="

unfoldable pub steps_word : List ℕ
steps_word = bytes "steps="

unfoldable pub value_word : List ℕ
value_word = bytes "value="

unfoldable pub holder_word : List ℕ
holder_word = bytes "holder="

-- the refusal's number and line; of an accepted sheet 0 and 0 (One sheet in full)
abbrev pub verdict_lines : ℕ → ℕ → List ℕ
verdict_lines refusal n = line_text verdict_word refusal [] ++ line_text line_word n []

-- the run's outcome, steps and value (One sheet in full)
abbrev pub run_lines : RunAnswer → List ℕ
run_lines a = line_text outcome_word (outcome_number a.outcome) [] ++ (line_text steps_word a.steps [] ++ line_text value_word a.value [])

-- a holder and its authority; the bare holder where that is empty (One sheet in full)
abbrev pub holder_line : Holding → List ℕ
holder_line x = line_text holder_word x.holder x.held

-- each holder's (One sheet in full)
unfoldable pub holder_lines : List Holding → List ℕ
holder_lines [] = []
holder_lines (x ∷ xs) = holder_line x ++ holder_lines xs

-- what is printed of a report; after a refusal only the first two lines (One sheet in full)
unfoldable pub printed : Report → List ℕ
printed (reported a hs) = verdict_lines 0 0 ++ (run_lines a ++ holder_lines hs)
printed (not_reported r n) = verdict_lines (number_of r) n
