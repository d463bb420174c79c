-- What judging a body's lines ensures. Stands on the typing rules, the table's view and the judgement of one instruction.
use Rattle.std.specs.Prelude.{ℕ, ◌≡◌, Bool, true, false, List, [], length}
use Rattle.std.proofs.Math.Option.{Option, none}
use Rattle.sheet_rules.specs.declared.FitAnswer.{FitAnswer}
use Rattle.sheet_rules.specs.Sheet.{Instr}
use Rattle.type_rules.specs.SlotRows.{slot_row, slot_rows, Own}
use Rattle.type_rules.specs.Typing.{Fault, first_of, instr_fault, result_fault, InstrJudge, LineJudge, code_faults, typed_instr, typed_lines}
use Rattle.table.specs.Layout.{slot_row_address, slot_rows_end}
use Rattle.table.specs.Only.{Only}
use Rattle.table.specs.Told.{slot_rows_in}
use Rattle.table.specs.View.{instrs_in, sheet_in}
use Rattle.fit_answer.specs.Told.{answers}
use Rattle.sheet_rules.specs.declared.Reason.{Reason}
use Rattle.instr_typing.specs.Told.{judged_of}
use Rattle.std.specs.declared.result.Result.{Result}
use Rattle.std.specs.declared.result.Result.TheVariants.{Ok}
use Rattle.sheet_rules.specs.declared.Refusal.{Refusal}
use Rattle.code_typing.specs.Walk.{walk}

-- the fault of a value of row a on a body's last line
abbrev pub last_fault : (ℕ → ℕ → FitAnswer) → Option ℕ → ℕ → Bool → Fault
last_fault fit wanted a true = result_fault fit wanted a []
last_fault fit wanted a false = none

-- an instruction's line, judged with the declared result if it is the last
abbrev pub line_judged : List ℕ → Own → Option ℕ → ℕ → Instr → Bool → Result ℕ Reason
line_judged w own wanted filled i last =
    judged_of
    (first_of (instr_fault (answers w) (sheet_in w) own (slot_rows_in w filled) i)
    (last_fault (answers w) wanted (slot_row (sheet_in w) own (slot_rows_in w filled) i) last))
    (slot_row (sheet_in w) own (slot_rows_in w filled) i)

-- only the rows of slots have changed
abbrev pub OnlySlots : List ℕ → List ℕ → Type 0
OnlySlots w w' = Only (slot_row_address 0) (slot_rows_end) w w'

-- lines judged by what the fit table says: the walk is the rule's, and only rows of slots have changed
pub record LinesJudged (faults : List Fault) (line : ℕ) (w w' : List ℕ) (r : Result ℕ Refusal) : Type 0 where
  pub told : r ≡ walk line faults
  pub only : OnlySlots w w'

-- the lines of a body or of main, judged so; and where none is at fault, the table holds the rows of all its slots
pub record CodeJudged (faults : List Fault) (rows : List ℕ) (line : ℕ) (w w' : List ℕ) (r : Result ℕ Refusal) : Type 0 where
  pub lines : LinesJudged faults line w w' r
  pub slots : (n : ℕ) → r ≡ Ok n → slot_rows_in w' (length rows) ≡ rows

-- typing's judge of lines, and of the instructions of a body or of main, by what the fit table says
abbrev pub judge_in : List ℕ → LineJudge
judge_in w = typed_lines (answers w) (sheet_in w)

abbrev pub instr_judge_in : List ℕ → Own → Option ℕ → InstrJudge
instr_judge_in w own wanted = typed_instr (answers w) (sheet_in w) own wanted

-- the lines of a body or of main, after `filled` slots, and the rows of all its slots
abbrev pub code_faults_in : List ℕ → Own → Option ℕ → (filled start count : ℕ) → List Fault
code_faults_in w own wanted filled start count =
    code_faults (instr_judge_in w own wanted) (sheet_in w) own (slot_rows_in w filled) (instrs_in w start count)

abbrev pub code_slot_rows : List ℕ → Own → (filled start count : ℕ) → List ℕ
code_slot_rows w own filled start count = slot_rows (sheet_in w) own (slot_rows_in w filled) (instrs_in w start count)
