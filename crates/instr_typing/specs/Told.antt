-- What the code's answers on one instruction tell, in the rules' words. Stands on the typing rules and on the table's view.
use Rattle.std.specs.Prelude.{ℕ, List}
use Rattle.std.proofs.Math.Option.{Option, none, some}
use Rattle.sheet_rules.specs.declared.FitAnswer.{FitAnswer}
use Rattle.sheet_rules.specs.Sheet.{Instr, form_at}
use Rattle.type_rules.specs.SlotRows.{Signature, Own, result_of, row_or0, slot_row}
use Rattle.type_rules.specs.Typing.{Fault, fit_fault, new_fault, call_fault, get_fault, put_fault, instr_fault}
use Rattle.table.specs.View.{sheet_in}
use Rattle.table.specs.Told.{slot_rows_in}
use Rattle.fit_answer.specs.Told.{answers}
use Rattle.std.specs.declared.option.Option.{Option as Maybe}
use Rattle.std.specs.declared.option.Option.TheVariants.{Some, None}
use Rattle.std.specs.declared.result.Result.{Result}
use Rattle.std.specs.declared.result.Result.TheVariants.{Ok, Err}
use Rattle.sheet_rules.specs.declared.Reason.{Reason}
use Rattle.instr_typing.specs.declared.MethodRows.{MethodRows}

-- a row that may be missing: a field's, the own object's, a declared result's
abbrev pub row_found : Maybe ℕ → Option ℕ
row_found (Some r) = some r
row_found None = none

-- a method that may be missing
abbrev pub method_found : Maybe MethodRows → Option Signature
method_found (Some m) = some (record { argument = m.argument; result = m.result })
method_found None = none

-- an instruction's line, judged: its fault, or the row of the slot that it fills
abbrev pub judged_of : Fault → ℕ → Result ℕ Reason
judged_of none row = Ok row
judged_of (some q) row = Err q

-- the same for a value, with fit's answer where it goes
abbrev pub fit_judged : FitAnswer → ℕ → Result ℕ Reason
fit_judged x row = judged_of (fit_fault x) row

-- for a `new` of an object of form f with slots vs
abbrev pub new_judged : List ℕ → ℕ → List ℕ → ℕ → Result ℕ Reason
new_judged w filled vs f = judged_of (new_fault (answers w) (slot_rows_in w filled) vs (form_at (sheet_in w) f).keeps) (form_at (sheet_in w) f).row

-- for a `call` of a method that may be missing with a value of row a, a `get` and a `put` of a field that may be missing
abbrev pub call_judged : (ℕ → ℕ → FitAnswer) → Option Signature → ℕ → Result ℕ Reason
call_judged fit m a = judged_of (call_fault fit m a) (result_of m)

abbrev pub get_judged : Option ℕ → Result ℕ Reason
get_judged r = judged_of (get_fault r) (row_or0 r)

abbrev pub put_judged : (ℕ → ℕ → FitAnswer) → Option ℕ → ℕ → Result ℕ Reason
put_judged fit r a = judged_of (put_fault fit r a) (row_or0 r)

-- the rule's judgement of an instruction, with what the fit table says, where `filled` slots are filled
abbrev pub instr_judged : List ℕ → Own → ℕ → Instr → Result ℕ Reason
instr_judged w own filled i =
    judged_of (instr_fault (answers w) (sheet_in w) own (slot_rows_in w filled) i) (slot_row (sheet_in w) own (slot_rows_in w filled) i)
