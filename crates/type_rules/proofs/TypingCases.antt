-- Computed cases of fit and typing: the six rows that document 01 runs as tests, a sheet for each refusal from 8 to 10 and for 14, and the
-- walk over lines with other judges than typing's. Assumes nothing.
use Prim.Native.Nat.{ℕ}
use Prim.Native.String.{String}
use mathlib.Core.Path.{◌≡◌, refl}
use mathlib.Core.Bool.{Bool, true, not}
use mathlib.Core.List.{List, [], ◌∷◌, map}
use mathlib.Core.Option.{none}
use lib.Dec.{eqb}
use Rattle.sheet_rules.specs.declared.FitAnswer.TheVariants.{Yes, WrongKind, Unmet}
use Rattle.sheet_rules.specs.declared.Reason.TheVariants.{NotDefined, ImpureForm, NoSuchMember}
use Rattle.sheet_rules.specs.declared.Verdict.{Verdict}
use Rattle.sheet_rules.specs.Answers.{verdict_number, verdict_line, verdict_lack, lack_number, lack_name, turned_away}
use Rattle.sheet_rules.specs.Reading.{meaning}
use Rattle.sheet_rules.specs.Samples.{text_of, with_line, P, D}
use Rattle.sheet_rules.specs.declared.FitAnswer.{FitAnswer}
use Rattle.sheet_rules.specs.declared.Refusal.{Refusal}
use Rattle.std.specs.declared.result.Result.{Result}
use Rattle.type_rules.specs.FitQuestion.{fit_reply}
use Rattle.type_rules.specs.Typing.{unless, LineJudge, line_faults, first_fault, first_form_line, verdict_on, verdict}
use Rattle.type_rules.proofs.Opened.{judging}
use Rattle.std.specs.declared.result.Result.TheVariants.{Ok}

-- FIT

-- rows 0 pure empty, 1 resource empty, 2 pure `def=1,1,0`, 3 resource `def=1,0,1`, 4 resource `var=1,0`, 5 resource `var=1,1`
abbrev six : List String
six =
    "types=6"
    ∷ "type=0,0"
    ∷ "type=1,0"
    ∷ "type=0,1"
    ∷ "def=1,1,0"
    ∷ "type=1,1"
    ∷ "def=1,0,1"
    ∷ "type=1,1"
    ∷ "var=1,0"
    ∷ "type=1,1"
    ∷ "var=1,1"
    ∷ "forms=1"
    ∷ "form=0,0"
    ∷ "main=1"
    ∷ "new=0"
    ∷ []

record Pair : Type 0 where
  a : ℕ
  b : ℕ
  wanted : Result FitAnswer Refusal

abbrev asked : ℕ → ℕ → Result FitAnswer Refusal → Pair
asked a b r = record { a = a; b = b; wanted = r }

-- what the question answers on a sheet's rows, beside what is wanted
abbrev Answers : List String → List Pair → Type 0
Answers ls ps = map (λ p. fit_reply (text_of ls) p.a p.b) ps ≡ map (λ p. p.wanted) ps

pub six_hold :
    Answers six
    (asked 2 3 (Ok Yes)
    -- kind before names: 3 has no match for 2's method either
    ∷ asked 3 2 (Ok WrongKind)
    ∷ asked 0 1 (Ok Yes)
    ∷ asked 1 0 (Ok WrongKind)
    ∷ asked 4 5 (Ok (Unmet 1))
    ∷ asked 5 4 (Ok (Unmet 1))
    -- a row fits itself; extra members do no harm; a field is no match of a method; a row number that is not there
    ∷ asked 5 5 (Ok Yes)
    ∷ asked 3 1 (Ok Yes)
    ∷ asked 1 3 (Ok (Unmet 1))
    ∷ asked 4 3 (Ok (Unmet 1))
    ∷ asked 0 6 (turned_away NotDefined 0)
    ∷ asked 6 0 (turned_away NotDefined 0)
    ∷ [])
unfolding judging
six_hold = refl

-- rows 0 pure empty; 1 resource, method 1; 2 resource, methods 1, 2 and 3; 3 resource, method 2: the lowest name without a match
pub lowest_hold :
    Answers
    ("types=4"
    ∷ "type=0,0"
    ∷ "type=1,1"
    ∷ "def=1,0,0"
    ∷ "type=1,3"
    ∷ "def=1,0,0"
    ∷ "def=2,0,0"
    ∷ "def=3,0,0"
    ∷ "type=1,1"
    ∷ "def=2,0,0"
    ∷ "forms=1"
    ∷ "form=0,0"
    ∷ "main=1"
    ∷ "new=0"
    ∷ [])
    (asked 0 2 (Ok (Unmet 1)) ∷ asked 1 2 (Ok (Unmet 2)) ∷ asked 3 2 (Ok (Unmet 1)) ∷ asked 2 3 (Ok Yes) ∷ asked 2 0 (Ok WrongKind) ∷ [])
unfolding judging
lowest_hold = refl

-- the fit question stops after reading: a sheet that is not well typed still answers, and one that is not read is refused
pub fit_ill_typed : fit_reply (text_of (with_line 19 "new=2,0" P)) 0 1 ≡ Ok (Unmet 1)
unfolding judging
fit_ill_typed = refl

-- TYPING

-- rows 0 pure empty; 1 resource `var=1,0`, `def=2,0,0`; 2 resource `def=1,1,0`; 3 pure `def=1,0,0`; a form for each: form 1 has
-- a field, form 2 keeps a row 1, and form 3, of a pure row, makes and calls objects
abbrev kitchen : List String
kitchen =
    "types=4"
    ∷ "type=0,0"
    ∷ "type=1,2"
    ∷ "var=1,0"
    ∷ "def=2,0,0"
    ∷ "type=1,1"
    ∷ "def=1,1,0"
    ∷ "type=0,1"
    ∷ "def=1,0,0"
    ∷ "forms=4"
    ∷ "form=0,0"
    ∷ "form=1,1"
    ∷ "keep=0"
    ∷ "init=0"
    ∷ "body=2"
    ∷ "put=1,1"
    ∷ "get=1"
    ∷ "form=2,1"
    ∷ "keep=1"
    ∷ "body=2"
    ∷ "new=0"
    ∷ "call=1,2,3"
    ∷ "form=3,1"
    ∷ "keep=0"
    ∷ "body=3"
    ∷ "new=1,2"
    ∷ "call=3,2,1"
    ∷ "copy=4"
    ∷ "main=5"
    ∷ "new=0"
    ∷ "new=1,0"
    ∷ "new=2,1"
    ∷ "new=3,0"
    ∷ "call=2,1,1"
    ∷ []

-- rows 0 pure empty; 1 resource empty; 2 resource, method 7 from row 0 to row 1; 3 resource, method 4 from row 1 to row 2; the body of
-- method 4 and main end with a line that misfits in two places, each for a lack of its own
abbrev pantry : List String
pantry =
    "types=4"
    ∷ "type=0,0"
    ∷ "type=1,0"
    ∷ "type=1,1"
    ∷ "def=7,0,1"
    ∷ "type=1,1"
    ∷ "def=4,1,2"
    ∷ "forms=3"
    ∷ "form=1,0"
    ∷ "form=3,2"
    ∷ "keep=2"
    ∷ "keep=0"
    ∷ "body=1"
    ∷ "call=2,7,1"
    ∷ "form=2,0"
    ∷ "body=1"
    ∷ "new=0"
    ∷ "main=2"
    ∷ "new=0"
    ∷ "new=1,0,0"
    ∷ []

record Case : Type 0 where
  sheet : List String
  wanted : List ℕ

abbrev gives : List String → ℕ → ℕ → Case
gives ls number line = record { sheet = ls; wanted = number ∷ line ∷ 0 ∷ 0 ∷ [] }

-- a misfit, with what is lacking and the member's name
abbrev misfits : List String → (line lack name : ℕ) → Case
misfits ls line lack name = record { sheet = ls; wanted = 10 ∷ line ∷ lack ∷ name ∷ [] }

-- the kitchen with one line replaced, and the pantry
abbrev with : ℕ → String → List String
with n l = with_line n l kitchen

abbrev stored : ℕ → String → List String
stored n l = with_line n l pantry

-- D with one line replaced
abbrev equipped : ℕ → String → List String
equipped n l = with_line n l D

abbrev cases : List Case
cases =
    gives P 0 0
    ∷ gives kitchen 0 0
    -- a pure row's form has a field, or keeps a resource row
    ∷ gives (with 3 "type=0,2") 8 12
    ∷ gives (with 24 "keep=1") 8 24
    ∷ gives ("types=2" ∷ "type=0,0" ∷ "type=0,2" ∷ "def=1,0,0" ∷ "var=2,0" ∷ "forms=1" ∷ "form=1,1" ∷ "keep=0" ∷ "body=1" ∷ "copy=1" ∷ "init=0" ∷ "main=1" ∷ "new=0" ∷ []) 8 7
    -- no such method, a field called, no such field, a method read or set, a field in main
    ∷ gives (with 22 "call=1,3,3") 9 22
    ∷ gives (with 22 "call=1,1,3") 9 22
    ∷ gives (with 17 "get=3") 9 17
    ∷ gives (with 17 "get=2") 9 17
    ∷ gives (with 16 "put=2,1") 9 16
    ∷ gives (with 34 "get=1") 9 34
    ∷ gives (with 34 "put=1,0") 9 34
    -- a misfit at `init`, in `put`, of an argument, of a kept value, and too few or too many slots
    ∷ misfits (with 13 "keep=1") 14 2 0
    ∷ misfits ("types=3" ∷ "type=0,0" ∷ "type=1,1" ∷ "def=5,0,0" ∷ "type=1,1" ∷ "var=1,1" ∷ "forms=1" ∷ "form=2,1" ∷ "keep=0" ∷ "init=0" ∷ "main=1" ∷ "new=0" ∷ []) 10 3 5
    ∷ misfits (with_line 19 "new=2,0" P) 19 3 1
    ∷ misfits (with 16 "put=1,0") 16 2 0
    ∷ misfits (with 22 "call=1,2,0") 22 2 0
    ∷ misfits (with 32 "new=2,0") 32 3 1
    ∷ misfits (with 32 "new=2") 32 1 0
    ∷ misfits (with 32 "new=2,1,1") 32 1 0
    -- a body's result, on its last instruction's line
    ∷ misfits (with 28 "copy=3") 28 2 0
    ∷ misfits (with 17 "copy=0") 17 2 0
    -- count before any slot is judged
    ∷ misfits (with 32 "new=2,0,0") 32 1 0
    -- the argument before the body's result; the result where the argument fits
    ∷ misfits pantry 14 2 0
    ∷ misfits (stored 14 "call=2,7,3") 14 3 7
    -- the first slot before the second; the second where the first fits
    ∷ misfits (stored 14 "copy=2") 20 3 7
    ∷ misfits (with_line 19 "new=2" (stored 14 "copy=2")) 20 2 0
    -- no such part comes before a misfit of the body's result on the same line
    ∷ gives ("types=3" ∷ "type=0,0" ∷ "type=1,1" ∷ "var=1,0" ∷ "type=1,1" ∷ "def=1,0,1" ∷ "forms=1" ∷ "form=2,0" ∷ "body=1" ∷ "get=9" ∷ "main=1" ∷ "new=0" ∷ []) 9 10
    -- a device's form is pure, or keeps a value: on its own line, after the forms' lines and before main's
    ∷ gives D 0 0
    ∷ gives (equipped 22 "device=0") 14 22
    ∷ gives (equipped 23 "device=3") 14 23
    ∷ gives (with_line 22 "device=3" (equipped 23 "device=0")) 14 22
    ∷ gives (with_line 20 "call=2,2,1" (equipped 22 "device=0")) 9 20
    ∷ gives (with_line 27 "call=3,2,2" (equipped 23 "device=0")) 14 23
    ∷ gives (with_line 27 "call=9,3,2" (equipped 23 "device=0")) 7 27
    -- main's first slots have the devices' rows: scale and valve have their own methods, and the clerk keeps a scale
    ∷ gives (equipped 27 "call=0,1,2") 0 0
    ∷ gives (equipped 27 "call=0,2,2") 9 27
    ∷ gives (equipped 27 "call=1,2,2") 0 0
    ∷ misfits (equipped 26 "new=3,1") 26 3 1
    ∷ gives (equipped 23 "device=1") 0 0
    -- the first line at fault; and the whole sheet is read before any line is typed
    ∷ gives (with_line 34 "get=1" (with 24 "keep=1")) 8 24
    ∷ gives (with_line 34 "call=9,1,1" (with 24 "keep=1")) 7 34
    ∷ []

-- number, line, what is lacking and the member's name
abbrev numbers : Verdict → List ℕ
numbers v = verdict_number v ∷ verdict_line v ∷ lack_number (verdict_lack v) ∷ lack_name (verdict_lack v) ∷ []

pub all : map (λ c. numbers (verdict (text_of c.sheet))) cases ≡ map (λ c. c.wanted) cases
unfolding judging
all = refl

-- THE SAME WALK WITH OTHER JUDGES

-- a judge that asks of a form's number on its `form` line, and of a method's name on its body's lines
abbrev asking : (ℕ → Bool) → (ℕ → Bool) → LineJudge
asking form method =
    record {
      of_form = λ n f. unless (form n) ImpureForm;
      of_keep = λ n f k. none;
      of_init = λ n f m r k. none;
      of_body = λ n f m r rows i is. unless (method m) NoSuchMember;
      of_device = λ f. none;
      of_main = λ rows i is. none;
    }

-- the line of the kitchen that such a judge refuses
abbrev line_by : (ℕ → Bool) → (ℕ → Bool) → ℕ
line_by form method = verdict_line (verdict_on (λ s. first_fault (first_form_line s) (line_faults (asking form method) s)) (meaning (text_of kitchen)))

-- each form on its own line, and there is no form 4; methods 1 and 2 on their bodies' first lines, and there is no method 3
pub judged_by_number : map (λ k. line_by (λ n. not (eqb n k)) (λ m. true)) (0 ∷ 1 ∷ 2 ∷ 3 ∷ 4 ∷ []) ≡ 11 ∷ 12 ∷ 18 ∷ 23 ∷ 0 ∷ []
unfolding judging
judged_by_number = refl

pub judged_by_name : map (λ k. line_by (λ n. true) (λ m. not (eqb m k))) (1 ∷ 2 ∷ 3 ∷ []) ≡ 21 ∷ 16 ∷ 0 ∷ []
unfolding judging
judged_by_name = refl
