-- The paper's numbers for the answers that are enums (document 01, Turned away; Fit and typing; document 02, orders 3, 4 and 7). Stands
-- on the shared types.
use Rattle.std.specs.Prelude.{ℕ, Bool, true, false}
use Rattle.std.proofs.Math.Option.{Option, none, some}
use Rattle.std.specs.declared.result.Result.{Result}
use Rattle.std.specs.declared.result.Result.TheVariants.{Ok, Err}
use Rattle.sheet_rules.specs.declared.Lack.{Lack}
use Rattle.sheet_rules.specs.declared.Reason.{Reason}
use Rattle.sheet_rules.specs.declared.Reason.TheVariants.{BufferTooShort, TextTooLong, Malformed, OutOfLimit, NotAscending, DuplicateRow, NotDefined, ImpureForm, NoSuchMember, Misfit, NoHolder, CircularCall, BeyondCount, WrongDevice}
use Rattle.sheet_rules.specs.declared.Refusal.{Refusal}
use Rattle.sheet_rules.specs.declared.Verdict.{Verdict}
use Rattle.sheet_rules.specs.declared.Verdict.TheVariants.{Accepted, Refused}
use Rattle.sheet_rules.specs.declared.FitAnswer.{FitAnswer}
use Rattle.sheet_rules.specs.declared.FitAnswer.TheVariants.{Yes, WrongKind, Unmet}

-- the number of a refusal, with the paper's word for it (Turned away)
abbrev pub number_of : Reason → ℕ
-- short bowl
number_of BufferTooShort = 1
-- long sheet
number_of TextTooLong = 2
-- torn line
number_of Malformed = 3
-- over measure
number_of OutOfLimit = 4
-- wrong order
number_of NotAscending = 5
-- twin
number_of DuplicateRow = 6
-- loose end
number_of NotDefined = 7
-- mixed pure
number_of ImpureForm = 8
-- no such part
number_of NoSuchMember = 9
-- misfit
number_of (Misfit l) = 10
-- no holder
number_of NoHolder = 11
-- circular call (document 02, order 4)
number_of CircularCall = 12
-- beyond count (document 02, order 4)
number_of BeyondCount = 13
-- wrong device (document 02, order 7)
number_of WrongDevice = 14

-- the number and the line of a verdict: 0 and 0 when accepted (Turned away)
abbrev pub verdict_number : Verdict → ℕ
verdict_number Accepted = 0
verdict_number (Refused r n) = number_of r

-- the line of a verdict: 0 when accepted (Turned away)
abbrev pub verdict_line : Verdict → ℕ
verdict_line Accepted = 0
verdict_line (Refused r n) = n

-- a refusal, of its reason and its line
abbrev pub refusal : Reason → ℕ → Refusal
refusal r n = record { reason = r; line = n }

-- the answer of a call that is refused with a reason and a line
abbrev pub turned_away : {A : Type 0} → Reason → ℕ → Result A Refusal
turned_away r n = Err (refusal r n)

-- a verdict as what is told of it: nothing, or its refusal
abbrev pub verdict_told : Verdict → Result Unit Refusal
verdict_told Accepted = Ok tt
verdict_told (Refused r n) = turned_away r n

-- the verdict of an answer: accepted where there is one, and else its refusal
abbrev pub verdict_from : {A : Type 0} → Result A Refusal → Verdict
verdict_from (Ok a) = Accepted
verdict_from (Err e) = Refused e.reason e.line

-- what is lacking by a refusal: only a misfit says it (document 02, order 3)
abbrev pub reason_lack : Reason → Option Lack
reason_lack BufferTooShort = none
reason_lack TextTooLong = none
reason_lack Malformed = none
reason_lack OutOfLimit = none
reason_lack NotAscending = none
reason_lack DuplicateRow = none
reason_lack NotDefined = none
reason_lack ImpureForm = none
reason_lack NoSuchMember = none
reason_lack (Misfit l) = some l
reason_lack NoHolder = none
reason_lack CircularCall = none
reason_lack BeyondCount = none
reason_lack WrongDevice = none

-- what is lacking by a verdict (document 02, order 3)
abbrev pub verdict_lack : Verdict → Option Lack
verdict_lack Accepted = none
verdict_lack (Refused r n) = reason_lack r

-- what is lacking by an answer of fit: nothing by yes, and never a count (document 02, order 3)
abbrev pub answer_lack : FitAnswer → Option Lack
answer_lack Yes = none
answer_lack WrongKind = some Lack.WrongKind
answer_lack (Unmet n) = some (Lack.Unmet n)

-- what is lacking as a number: 0 nothing, 1 count, 2 kind, 3 a member (document 02, order 3)
abbrev pub lack_number : Option Lack → ℕ
lack_number none = 0
lack_number (some Lack.Count) = 1
lack_number (some Lack.WrongKind) = 2
lack_number (some (Lack.Unmet n)) = 3

-- and the member's name, 0 where it is none (document 02, order 3)
abbrev pub lack_name : Option Lack → ℕ
lack_name none = 0
lack_name (some Lack.Count) = 0
lack_name (some Lack.WrongKind) = 0
lack_name (some (Lack.Unmet n)) = n

-- a row fits another when the answer is yes (Turned away)
abbrev pub is_yes : FitAnswer → Bool
is_yes Yes = true
is_yes WrongKind = false
is_yes (Unmet n) = false
