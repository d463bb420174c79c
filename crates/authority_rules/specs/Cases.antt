-- The marked cases P1 to P10 of document 01 as one table, from the bytes of the sheet to the answer (One sheet in full).
-- `CasesHold.all` proves the whole table by one claim. Stands on the questions.
use Rattle.std.specs.Prelude.{ℕ, List, [], ◌∷◌}
use Prim.Native.String.{String}
use Rattle.sheet_rules.specs.Answers.{number_of, verdict_number, verdict_line}
use Rattle.sheet_rules.specs.Samples.{text_of, with_line, P, L}
use Rattle.type_rules.specs.Typing.{verdict}
use Rattle.machine_rules.specs.declared.RunAnswer.{RunAnswer}
use Rattle.sheet_rules.specs.declared.Refusal.{Refusal}
use Rattle.std.specs.declared.result.Result.TheVariants.{Ok, Err}
use Rattle.std.specs.declared.result.Result.{Result}
use Rattle.machine_rules.specs.Steps.{run_reply, outcome_number}
use Rattle.authority_rules.specs.AuthorityQuestion.{Held, held, not_held, authority_held}
use Rattle.authority_rules.specs.Group.{group_held}

-- a question about a text (One sheet in full; document 02, order 1)
pub data Question : Type 0 where
  judged : Question
  run_within : ℕ → Question
  held_by : (budget holder : ℕ) → Question
  held_together : (budget : ℕ) (holders : List ℕ) → Question

-- what is printed of an answer: the refusal's number and line, or 0, 0 and the run's outcome and steps, or the authority
-- (One sheet in full)
abbrev pub run_shown : Result RunAnswer Refusal → List ℕ
run_shown (Ok a) = 0 ∷ 0 ∷ outcome_number a.outcome ∷ a.steps ∷ []
run_shown (Err e) = number_of e.reason ∷ e.line ∷ []

-- and of an authority answer (One sheet in full)
abbrev pub held_shown : Held → List ℕ
held_shown (held os) = 0 ∷ 0 ∷ os
held_shown (not_held r n) = number_of r ∷ n ∷ []

-- the numbers of the answer to a question about a text (One sheet in full)
abbrev pub numbers : Question → List ℕ → List ℕ
numbers judged text = verdict_number (verdict text) ∷ verdict_line (verdict text) ∷ []
numbers (run_within budget) text = run_shown (run_reply text budget)
numbers (held_by budget holder) text = held_shown (authority_held text budget holder)
numbers (held_together budget hs) text = held_shown (group_held text budget hs)

-- a case: the lines of a sheet, a question, and the numbers that the paper gives for its answer (One sheet in full)
pub record Case : Type 0 where
  pub sheet : List String
  pub question : Question
  pub wanted : List ℕ

-- a case, written short (One sheet in full)
abbrev pub asked : List String → Question → List ℕ → Case
asked ls q ns = record { sheet = ls; question = q; wanted = ns }

-- what the definitions answer to a case (One sheet in full)
abbrev pub answer : Case → List ℕ
answer c = numbers c.question (text_of c.sheet)

-- the table (One sheet in full)
abbrev pub marked_cases : List Case
marked_cases =
    -- P1 and P2: P at budget 8 is done in 8 steps, at budget 7 spent after 7
    asked P (run_within 8) (0 ∷ 0 ∷ 0 ∷ 8 ∷ [])
    ∷ asked P (run_within 7) (0 ∷ 0 ∷ 1 ∷ 7 ∷ [])
    -- P3 and P4: at budget 2 there is no holder 2, and object 0 is pure
    ∷ asked P (held_by 2 2) (11 ∷ 0 ∷ [])
    ∷ asked P (held_by 8 0) (11 ∷ 0 ∷ [])
    -- P5 to P9: one line changed
    ∷ asked (with_line 6 "def=1,0,0" P) judged (6 ∷ 6 ∷ [])
    ∷ asked (with_line 19 "new=2,0" P) judged (10 ∷ 19 ∷ [])
    ∷ asked (with_line 5 "type=0,1" P) judged (8 ∷ 13 ∷ [])
    ∷ asked (with_line 20 "call=2,3,0" P) judged (9 ∷ 20 ∷ [])
    ∷ asked (with_line 20 "call=4,2,0" P) judged (7 ∷ 20 ∷ [])
    -- P10: L at budget 65 is spent after 65, at 66 the stack is full after 65
    ∷ asked L (run_within 65) (0 ∷ 0 ∷ 1 ∷ 65 ∷ [])
    ∷ asked L (run_within 66) (0 ∷ 0 ∷ 3 ∷ 65 ∷ [])
    ∷ []
