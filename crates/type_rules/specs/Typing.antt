-- The typing verdict: a list with the fault, if any, of each line from the first `form` line on, and the first of these
-- (document 01, Fit and typing; Turned away, 8 to 10; document 02, orders 3 and 7). The list is made by any judge of lines; typing's
-- is one. Stands on Fit and SlotRows; no rule looks at bytes.
use Rattle.std.specs.Prelude.{ℕ, suc, ◌+◌, Bool, true, false, not, ◌&&◌, List, [], ◌∷◌, ◌++◌, map, eqb, length, get_or}
use Rattle.std.proofs.Math.Option.{Option, none, some}
use Rattle.sheet_rules.specs.declared.FitAnswer.{FitAnswer}
use Rattle.sheet_rules.specs.declared.Kind.{Kind}
use Rattle.sheet_rules.specs.declared.Kind.TheVariants.{Pure, Resource}
use Rattle.sheet_rules.specs.declared.Lack.{Lack}
use Rattle.sheet_rules.specs.declared.Member.{Member}
use Rattle.sheet_rules.specs.declared.Member.TheVariants.{Method, Field}
use Rattle.sheet_rules.specs.declared.Reason.{Reason}
use Rattle.sheet_rules.specs.declared.Reason.TheVariants.{ImpureForm, NoSuchMember, Misfit, WrongDevice}
use Rattle.sheet_rules.specs.declared.Verdict.{Verdict}
use Rattle.sheet_rules.specs.declared.Verdict.TheVariants.{Accepted, Refused}
use Rattle.sheet_rules.specs.Answers.{answer_lack}
use Rattle.sheet_rules.specs.Sheet.{Row, Instr, new, call, get, put, copy, Part, init, body, Form, Sheet, row_at, form_at, row_of_form}
use Rattle.sheet_rules.specs.Reading.{Meaning, readable, unreadable, meaning}
use Rattle.type_rules.specs.Fit.{fit_answer}
use Rattle.type_rules.specs.SlotRows.{Signature, method_in, members_at, Own, own_field, rows_after, slot_rows, last_row, body_rows, main_rows}

-- THE FAULT OF A LINE

-- a line's fault, if it has one (Turned away)
abbrev pub Fault : Type 0
Fault = Option Reason

-- a refusal where a test fails (Turned away)
abbrev pub unless : Bool → Reason → Fault
unless true r = none
unless false r = some r

-- the first of two faults of one line (Turned away)
abbrev pub first_of : Fault → Fault → Fault
first_of none g = g
first_of (some r) g = some r

-- a misfit, where something is lacking (document 02, order 3)
abbrev pub misfit : Option Lack → Fault
misfit none = none
misfit (some l) = some (Misfit l)

-- a value must fit where it goes; the misfit carries fit's answer (document 02, order 3)
abbrev pub fit_fault : FitAnswer → Fault
fit_fault x = misfit (answer_lack x)

-- values of the given rows must fit the declared rows, slot by slot; the first that does not is the fault (document 02, order 3)
unfoldable pub slots_fault : (ℕ → ℕ → FitAnswer) → List ℕ → List ℕ → List ℕ → Fault
slots_fault fit rows [] bs = none
slots_fault fit rows (v ∷ vs) [] = none
slots_fault fit rows (v ∷ vs) (b ∷ bs) = first_of (fit_fault (fit (get_or rows v 0) b)) (slots_fault fit rows vs bs)

-- there must be one slot for each kept value, before any slot is judged (Turned away, 10; document 02, order 3)
abbrev pub new_fault : (ℕ → ℕ → FitAnswer) → List ℕ → List ℕ → List ℕ → Fault
new_fault fit rows vs bs = first_of (unless (eqb (length vs) (length bs)) (Misfit Lack.Count)) (slots_fault fit rows vs bs)

-- method n must be there, and a value of row a must fit its argument (Fit and typing)
abbrev pub call_fault : (ℕ → ℕ → FitAnswer) → Option Signature → ℕ → Fault
call_fault fit none a = some NoSuchMember
call_fault fit (some m) a = fit_fault (fit a m.argument)

-- the field must be there (Fit and typing)
abbrev pub get_fault : Option ℕ → Fault
get_fault none = some NoSuchMember
get_fault (some r) = none

-- the field must be there, and a value of row a must fit it (Fit and typing)
abbrev pub put_fault : (ℕ → ℕ → FitAnswer) → Option ℕ → ℕ → Fault
put_fault fit none a = some NoSuchMember
put_fault fit (some r) a = fit_fault (fit a r)

-- the fault of an instruction, after slots of the given rows (Fit and typing)
abbrev pub instr_fault : (ℕ → ℕ → FitAnswer) → Sheet → Own → List ℕ → Instr → Fault
instr_fault fit s own rows (new f ss) = new_fault fit rows ss (form_at s f).keeps
instr_fault fit s own rows (call o n a) = call_fault fit (method_in (members_at s (get_or rows o 0)) n) (get_or rows a 0)
instr_fault fit s own rows (get n) = get_fault (own_field s own n)
instr_fault fit s own rows (put n v) = put_fault fit (own_field s own n) (get_or rows v 0)
instr_fault fit s own rows (copy v) = none

-- a body's value, of row a, must fit the declared result, which is judged on its last instruction's line; main declares none
-- (Fit and typing)
abbrev pub result_fault : (ℕ → ℕ → FitAnswer) → Option ℕ → ℕ → List Instr → Fault
result_fault fit none a is = none
result_fault fit (some r) a [] = fit_fault (fit a r)
result_fault fit (some r) a (i ∷ is) = none

-- a field starts as a kept value, of number k, which must fit its row (Fit and typing)
abbrev pub init_fault : (ℕ → ℕ → FitAnswer) → Form → (row k : ℕ) → Fault
init_fault fit f row k = fit_fault (fit (get_or f.keeps k 0) row)

-- a kind is pure (Fit and typing)
abbrev pub is_pure : Kind → Bool
is_pure Pure = true
is_pure Resource = false

-- there is a field among some members (Fit and typing)
unfoldable pub has_field : List Member → Bool
has_field [] = false
has_field (Method n a r ∷ xs) = has_field xs
has_field (Field n r ∷ xs) = true

-- a form of a pure row has no fields (Fit and typing)
abbrev pub form_fault : Row → Fault
form_fault a = unless (not (is_pure a.kind && has_field a.members)) ImpureForm

-- and all its kept rows are pure (Fit and typing)
abbrev pub keep_fault : Sheet → Row → ℕ → Fault
keep_fault s a k = unless (not (is_pure a.kind && not (is_pure (row_at s.rows k).kind))) ImpureForm

-- form f may be a device's: it keeps no value, and its row is a resource (document 02, order 7)
abbrev pub is_device : Sheet → (form : ℕ) → Bool
is_device s f = eqb (length (form_at s f).keeps) 0 && not (is_pure (row_of_form s f).kind)

-- a device's form must be such a one (document 02, order 7)
abbrev pub device_fault : Sheet → (form : ℕ) → Fault
device_fault s f = unless (is_device s f) WrongDevice

-- A JUDGE OF LINES

-- a judge of instructions: the fault of one, after slots of the given rows and before the instructions that are left (Turned away)
abbrev pub InstrJudge : Type 0
InstrJudge = List ℕ → Instr → List Instr → Fault

-- a judge of lines: the fault, if any, of each kind of line, a form's with the form's number in hand; `body`, `devices` and `main`
-- lines have none (Turned away)
pub record LineJudge : Type 0 where
  pub of_form : (number : ℕ) → Form → Fault
  pub of_keep : (number : ℕ) → Form → (row : ℕ) → Fault
  pub of_init : (number : ℕ) → Form → (name row kept : ℕ) → Fault
  pub of_body : (number : ℕ) → Form → (name result : ℕ) → InstrJudge
  pub of_device : (form : ℕ) → Fault
  pub of_main : InstrJudge

-- the lines of some instructions, each after the slots that those before it leave (Fit and typing)
unfoldable pub code_faults : InstrJudge → Sheet → Own → List ℕ → List Instr → List Fault
code_faults judge s own rows [] = []
code_faults judge s own rows (i ∷ is) = judge rows i is ∷ code_faults judge s own (rows_after s own rows i) is

-- the lines of a form's part for a member: `init`, or `body` and its instructions; reading gives each member its own kind
-- (Fit and typing)
abbrev pub part_faults : LineJudge → Sheet → (number : ℕ) → Form → Member → Part → List Fault
part_faults judge s n f (Field m r) (init k) = judge.of_init n f m r k ∷ []
part_faults judge s n f (Method m a r) (body is) = none ∷ code_faults (judge.of_body n f m r) s (some f.row) (body_rows f a) is
part_faults judge s n f (Field m r) (body is) = []
part_faults judge s n f (Method m a r) (init k) = []

-- the lines of a form's parts (Fit and typing)
unfoldable pub parts_faults : LineJudge → Sheet → (number : ℕ) → Form → List Member → List Part → List Fault
parts_faults judge s n f [] ps = []
parts_faults judge s n f (m ∷ ms) [] = []
parts_faults judge s n f (m ∷ ms) (p ∷ ps) = part_faults judge s n f m p ++ parts_faults judge s n f ms ps

-- the `keep` lines of a form (Turned away, 8)
abbrev pub keep_faults : LineJudge → (number : ℕ) → Form → List Fault
keep_faults judge n f = map (judge.of_keep n f) f.keeps

-- the lines of a form (Fit and typing)
abbrev pub form_faults : LineJudge → Sheet → (number : ℕ) → Form → List Fault
form_faults judge s n f =
    judge.of_form n f ∷ (keep_faults judge n f ++ parts_faults judge s n f (members_at s f.row) f.parts)

-- the lines of some forms, numbered from n (Fit and typing)
unfoldable pub forms_faults : LineJudge → Sheet → ℕ → List Form → List Fault
forms_faults judge s n [] = []
forms_faults judge s n (f ∷ fs) = form_faults judge s n f ++ forms_faults judge s (suc n) fs

-- the lines of the devices: the `devices` line and each `device` line; a sheet without devices has none (document 02, order 7)
unfoldable pub devices_faults : LineJudge → List ℕ → List Fault
devices_faults judge [] = []
devices_faults judge (f ∷ fs) = none ∷ map judge.of_device (f ∷ fs)

-- the `main` line and main's instructions (Fit and typing)
abbrev pub main_faults : LineJudge → Sheet → List Fault
main_faults judge s = none ∷ code_faults judge.of_main s none (main_rows s) s.main

-- all lines from the first `form` line on: forms, devices, main (Fit and typing)
unfoldable pub line_faults : LineJudge → Sheet → List Fault
line_faults judge s = forms_faults judge s 0 s.forms ++ (devices_faults judge s.devices ++ main_faults judge s)

-- TYPING'S OWN JUDGE

-- an instruction by its own rule, then the body's value, the last of all slots, by the declared result (Fit and typing)
abbrev pub typed_instr : (ℕ → ℕ → FitAnswer) → Sheet → Own → Option ℕ → InstrJudge
typed_instr fit s own result rows i is =
    first_of (instr_fault fit s own rows i) (result_fault fit result (last_row (slot_rows s own rows (i ∷ is))) is)

-- each line by its rule; typing asks for no form's number and no member's name (Fit and typing)
abbrev pub typed_lines : (ℕ → ℕ → FitAnswer) → Sheet → LineJudge
typed_lines fit s =
    record {
      of_form = λ n f. form_fault (row_at s.rows f.row);
      of_keep = λ n f k. keep_fault s (row_at s.rows f.row) k;
      of_init = λ n f m row k. init_fault fit f row k;
      of_body = λ n f m result. typed_instr fit s (some f.row) (some result);
      of_device = device_fault s;
      of_main = typed_instr fit s none none;
    }

-- THE VERDICT

-- the first line at fault, of lines numbered from n (Turned away)
unfoldable pub first_fault : ℕ → List Fault → Verdict
first_fault n [] = Accepted
first_fault n (none ∷ fs) = first_fault (suc n) fs
first_fault n (some r ∷ fs) = Refused r n

-- how many lines some rows take: a `type` line each, and a line for each member (Turned away)
unfoldable pub row_lines : List Row → ℕ
row_lines [] = 0
row_lines (a ∷ bs) = suc (length a.members) + row_lines bs

-- the number of the first line after the `types` line, the rows and the `forms` line (Turned away)
abbrev pub first_form_line : Sheet → ℕ
first_form_line s = row_lines s.rows + 3

-- the typing verdict on a sheet that was read (Fit and typing)
unfoldable pub typing : Sheet → Verdict
typing s = first_fault (first_form_line s) (line_faults (typed_lines (fit_answer s.rows) s) s)

-- the verdict on what reading gave, by a judge of sheets: only a sheet that was read whole is judged (Turned away)
abbrev pub verdict_on : (Sheet → Verdict) → Meaning → Verdict
verdict_on judge (readable s) = judge s
verdict_on judge (unreadable r n) = Refused r n

-- the verdict on a text (Turned away)
unfoldable pub verdict : List ℕ → Verdict
verdict text = verdict_on typing (meaning text)

-- what is answered where the sheet goes on to be run: a refusal as it is, or the answer for an accepted sheet (Turned away)
abbrev pub if_accepted : {A : Type 0} → (Reason → ℕ → A) → A → Verdict → A
if_accepted refused answer Accepted = answer
if_accepted refused answer (Refused r n) = refused r n

-- only a sheet that was read is judged, and only one that the judge accepts goes on (Turned away)
abbrev pub accepted_on : {A : Type 0} → (Sheet → Verdict) → (Reason → ℕ → A) → (Sheet → A) → Meaning → A
accepted_on judge refused answer (readable s) = if_accepted refused (answer s) (judge s)
accepted_on judge refused answer (unreadable r n) = refused r n
