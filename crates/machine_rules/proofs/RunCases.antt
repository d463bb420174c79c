-- Computed cases of the run: sheets that fill the store, one that fills the stack, fields, devices, and the order of the questions.
-- Assumes nothing.
use Prim.Native.Nat.{ℕ}
use Prim.Native.String.{String}
use mathlib.Core.Path.{◌≡◌, refl}
use mathlib.Core.List.{List, [], ◌∷◌, ◌++◌, map}
use lib.ListN.{take, replicate}
use Rattle.sheet_rules.specs.Answers.{number_of}
use Rattle.sheet_rules.specs.Samples.{text_of, with_line, P, L, D}
use Rattle.machine_rules.specs.declared.RunAnswer.{RunAnswer}
use Rattle.sheet_rules.specs.declared.Refusal.{Refusal}
use Rattle.std.specs.declared.result.Result.TheVariants.{Ok, Err}
use Rattle.std.specs.declared.result.Result.{Result}
use Rattle.machine_rules.specs.Steps.{run_reply, outcome_number}
use Rattle.machine_rules.proofs.Opened.{running}

-- a method makes 32 objects at each call, and main calls it eight times: the store is full after 271 steps
abbrev pub maker : List String
maker =
    ("types=2" ∷ "type=0,0" ∷ "type=1,1" ∷ "def=1,0,0" ∷ "forms=2" ∷ "form=0,0" ∷ "form=1,0" ∷ "body=32" ∷ [])
    ++ replicate 32 "new=0"
    ++ ("main=10" ∷ "new=0" ∷ "new=1" ∷ [])
    ++ replicate 8 "call=1,1,0"

-- the same with the maker as a device, which counts as one of the 256
abbrev equipped : List String
equipped =
    ("types=2" ∷ "type=0,0" ∷ "type=1,1" ∷ "def=1,0,0" ∷ "forms=2" ∷ "form=0,0" ∷ "form=1,0" ∷ "body=32" ∷ [])
    ++ replicate 32 "new=0"
    ++ ("devices=1" ∷ "device=1" ∷ "main=9" ∷ "new=0" ∷ [])
    ++ replicate 8 "call=0,1,1"

-- object 2 keeps 0 and 1; its field starts as kept value 1, and its method reads the field, sets it to the argument and
-- gives back what it read
abbrev swap : List String
swap =
    "types=2"
    ∷ "type=0,0"
    ∷ "type=1,2"
    ∷ "var=1,0"
    ∷ "def=2,0,0"
    ∷ "forms=2"
    ∷ "form=0,0"
    ∷ "form=1,2"
    ∷ "keep=0"
    ∷ "keep=0"
    ∷ "init=1"
    ∷ "body=3"
    ∷ "get=1"
    ∷ "put=1,1"
    ∷ "copy=4"
    ∷ "main=5"
    ∷ "new=0"
    ∷ "new=0"
    ∷ "new=1,0,1"
    ∷ "call=2,2,0"
    ∷ "call=2,2,1"
    ∷ []

-- outcome, steps, value and number of objects; or the refusal's number and line
abbrev numbers : Result RunAnswer Refusal → List ℕ
numbers (Ok a) = outcome_number a.outcome ∷ a.steps ∷ a.value ∷ a.objects ∷ []
numbers (Err e) = number_of e.reason ∷ e.line ∷ []

record Case : Type 0 where
  sheet : List String
  budget : ℕ
  wanted : List ℕ

abbrev within : ℕ → List String → List ℕ → Case
within budget ls ns = record { sheet = ls; budget = budget; wanted = ns }

abbrev cases : List Case
cases =
    -- finished is asked before the budget, and takes no step
    within 8 P (0 ∷ 8 ∷ 0 ∷ 3 ∷ [])
    ∷ within 4294967295 P (0 ∷ 8 ∷ 0 ∷ 3 ∷ [])
    ∷ within 7 P (1 ∷ 7 ∷ 65535 ∷ 3 ∷ [])
    ∷ within 0 P (1 ∷ 0 ∷ 65535 ∷ 0 ∷ [])
    -- the budget is asked before the full store and the full stack, and a stopped step is not counted
    ∷ within 271 maker (1 ∷ 271 ∷ 65535 ∷ 256 ∷ [])
    ∷ within 272 maker (2 ∷ 271 ∷ 65535 ∷ 256 ∷ [])
    ∷ within 65 L (1 ∷ 65 ∷ 65535 ∷ 2 ∷ [])
    ∷ within 66 L (3 ∷ 65 ∷ 65535 ∷ 2 ∷ [])
    -- a field starts as its kept value, and holds what was put last: the first call gives 1, the second 0
    ∷ within 100 (with_line 16 "main=4" (take 20 swap)) (0 ∷ 8 ∷ 1 ∷ 3 ∷ [])
    ∷ within 100 swap (0 ∷ 13 ∷ 0 ∷ 3 ∷ [])
    -- devices are objects 0 and 1 at the start; main's instructions fill the slots after theirs
    ∷ within 0 D (1 ∷ 0 ∷ 65535 ∷ 2 ∷ [])
    ∷ within 7 D (0 ∷ 7 ∷ 2 ∷ 4 ∷ [])
    ∷ within 9 (with_line 27 "copy=1" D) (0 ∷ 3 ∷ 1 ∷ 4 ∷ [])
    -- the store has 256 places, devices included
    ∷ within 270 equipped (1 ∷ 270 ∷ 65535 ∷ 256 ∷ [])
    ∷ within 271 equipped (2 ∷ 270 ∷ 65535 ∷ 256 ∷ [])
    -- only an accepted sheet is run
    ∷ within 8 (with_line 22 "device=0" D) (14 ∷ 22 ∷ [])
    ∷ within 8 (with_line 20 "call=2,3,0" P) (9 ∷ 20 ∷ [])
    ∷ []

pub all : map (λ c. numbers (run_reply (text_of c.sheet) c.budget)) cases ≡ map (λ c. c.wanted) cases
unfolding running
all = refl
