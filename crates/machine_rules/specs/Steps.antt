-- The state after n steps, and the run within a budget (document 01, The machine). Stands on Step.
use Rattle.std.specs.Prelude.{ℕ, zero, suc, pred, ◌+◌, Bool, true, false, cond, List, length}
use Rattle.std.proofs.Math.Option.{Option, none, some}
use Rattle.sheet_rules.specs.Sheet.{Sheet}
use Rattle.sheet_rules.specs.Reading.{meaning}
use Rattle.type_rules.specs.Typing.{typing, accepted_on}
use Rattle.machine_rules.specs.declared.Outcome.{Outcome}
use Rattle.machine_rules.specs.declared.Outcome.TheVariants.{Done, Spent, StoreFull, StackFull}
use Rattle.machine_rules.specs.declared.Tally.{Tally}
use Rattle.machine_rules.specs.declared.RunAnswer.{RunAnswer}
use Rattle.sheet_rules.specs.Answers.{turned_away}
use Rattle.sheet_rules.specs.declared.Refusal.{Refusal}
use Rattle.std.specs.declared.result.Result.TheVariants.{Ok}
use Rattle.std.specs.declared.result.Result.{Result}
use Rattle.machine_rules.specs.State.{State, start, frame_count, last_of}
use Rattle.machine_rules.specs.Step.{Action, creates, calls, returns, works, Next, finished, step, store_full, stack_full, lacking, next_step}

-- THE STATE AFTER N STEPS

-- the state that a step leaves, where there is one (The machine)
abbrev pub state_of : Next → Option State
state_of (finished v) = none
state_of (step a σ) = some σ
state_of store_full = none
state_of stack_full = none
state_of lacking = none

-- one step from a state that may be there (The machine)
abbrev pub step_from : Sheet → Option State → Option State
step_from s none = none
step_from s (some σ) = state_of (next_step s σ)

-- the state after n steps from the start, each taken from the state that the last one left; n has no upper limit (The machine)
unfoldable pub after : Sheet → ℕ → Option State
after s zero = some (start s)
after s (suc n) = step_from s (after s n)

-- COUNTING STEPS

-- a step makes an object (The machine)
abbrev pub is_creation : Action → Bool
is_creation (creates c kept) = true
is_creation (calls receiver argument) = false
is_creation (returns v) = false
is_creation works = false

-- a step is a call (The machine)
abbrev pub is_call : Action → Bool
is_call (creates c kept) = false
is_call (calls receiver argument) = true
is_call (returns v) = false
is_call works = false

-- a step is a return (The machine)
abbrev pub is_return : Action → Bool
is_return (creates c kept) = false
is_return (calls receiver argument) = false
is_return (returns v) = true
is_return works = false

-- 1 for a step that passes a test, and 0 where there is no step or none that passes (The machine)
abbrev pub one_if : (Action → Bool) → Next → ℕ
one_if test (finished v) = 0
one_if test (step a σ) = cond (test a) 1 0
one_if test store_full = 0
one_if test stack_full = 0
one_if test lacking = 0

-- the same for the step from a state that may be there (The machine)
abbrev pub one_from : (Action → Bool) → Sheet → Option State → ℕ
one_from test s none = 0
one_from test s (some σ) = one_if test (next_step s σ)

-- how many of the first n steps pass a test (The machine)
unfoldable pub among_first : (Action → Bool) → Sheet → ℕ → ℕ
among_first test s zero = 0
among_first test s (suc n) = among_first test s n + one_from test s (after s n)

-- THE TALLY

-- three counts as a tally (The machine)
abbrev pub tally : ℕ → ℕ → ℕ → Tally
tally steps objects frames = record { steps = steps; objects = objects; frames = frames }

-- the counts of a state after n steps (The machine)
abbrev pub tally_of : ℕ → State → Tally
tally_of n σ = tally n (length σ.objects) (frame_count σ)

-- the counts at the start: no step, an object for each device, main's frame (The machine; document 02, order 7)
abbrev pub start_tally : (devices : ℕ) → Tally
start_tally devices = tally 0 devices 1

-- the counts after one step more, which made an object (The machine)
abbrev pub created : Tally → Tally
created t = record { steps = suc t.steps; objects = suc t.objects; frames = t.frames }

-- which called (The machine)
abbrev pub called : Tally → Tally
called t = record { steps = suc t.steps; objects = t.objects; frames = suc t.frames }

-- which returned (The machine)
abbrev pub returned : Tally → Tally
returned t = record { steps = suc t.steps; objects = t.objects; frames = pred t.frames }

-- which did none of these (The machine)
abbrev pub worked : Tally → Tally
worked t = record { steps = suc t.steps; objects = t.objects; frames = t.frames }

-- one step more: a creation adds an object, a call a frame, and a return takes one away (The machine)
abbrev pub counted : Action → Tally → Tally
counted (creates c kept) t = created t
counted (calls receiver argument) t = called t
counted (returns v) t = returned t
counted works t = worked t

-- THE RUN

-- how a run ended, the steps that it took, and the state that it left (The machine)
pub record Ran : Type 0 where
  pub outcome : Outcome
  pub steps : ℕ
  pub last : State

-- a run that ended so (The machine)
abbrev pub ended : Outcome → ℕ → State → Ran
ended o n σ = record { outcome = o; steps = n; last = σ }

-- the budget is used up: done if finished, and else spent, whatever would come next (The machine)
abbrev pub budget_used : Next → Outcome
budget_used (finished v) = Done
budget_used (step a σ) = Spent
budget_used store_full = Spent
budget_used stack_full = Spent
budget_used lacking = Spent

-- budget is left: done if finished; else stopped by a full store or a full stack, a stopped step not counted; else one step
-- and on from there (a state without a step goes no further; typing excludes it, so nothing rests on its outcome) (The machine)
abbrev pub go_on : Next → ℕ → State → (State → Ran) → Ran
go_on (finished v) n σ more = ended Done n σ
go_on store_full n σ more = ended StoreFull n σ
go_on stack_full n σ more = ended StackFull n σ
go_on (step a σ') n σ more = more σ'
go_on lacking n σ more = ended Spent n σ

-- on from a state, with `left` steps left of the budget and n taken; finished is asked first, then the budget
-- (The machine)
unfoldable pub run_from : Sheet → ℕ → ℕ → State → Ran
run_from s zero n σ = ended (budget_used (next_step s σ)) n σ
run_from s (suc left) n σ = go_on (next_step s σ) n σ (λ σ'. run_from s left (suc n) σ')

-- the run of a sheet within a budget (The machine)
unfoldable pub run : Sheet → ℕ → Ran
run s budget = run_from s budget 0 (start s)

-- THE ANSWER

-- the numbers of the outcomes (The machine)
abbrev pub outcome_number : Outcome → ℕ
outcome_number Done = 0
outcome_number Spent = 1
outcome_number StoreFull = 2
outcome_number StackFull = 3

-- the value of an unfinished run (The machine)
abbrev pub no_value : ℕ
no_value = 65535

-- a finished run's value is main's last slot (The machine)
abbrev pub value_of : Outcome → State → ℕ
value_of Done σ = last_of σ.top.slots
value_of Spent σ = no_value
value_of StoreFull σ = no_value
value_of StackFull σ = no_value

-- what the run answers (The machine)
abbrev pub answer_of : Ran → RunAnswer
answer_of r =
    record {
      outcome = r.outcome;
      steps = r.steps;
      value = value_of r.outcome r.last;
      objects = length r.last.objects;
    }

-- what the run question answers for a text and a budget, its buffer left aside: only an accepted sheet is run (The machine)
unfoldable pub run_reply : List ℕ → ℕ → Result RunAnswer Refusal
run_reply text budget = accepted_on typing turned_away (λ s. Ok (answer_of (run s budget))) (meaning text)
