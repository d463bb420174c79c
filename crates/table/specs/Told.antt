-- What the accessors of parts and instructions tell, in the rules' words. Stands on View.
use Rattle.std.specs.Prelude.{ℕ, ◌≡◌, List, take, drop}
use Rattle.lists.specs.Tab.{tab}
use Rattle.sheet_rules.specs.Sheet.{Instr, new, call, get, put, copy, Part, init, body}
use Rattle.table.specs.declared.instrs.Instruction.{Instruction}
use Rattle.table.specs.declared.forms.PartPlace.{PartPlace}
use Rattle.table.specs.Layout.{instr_address, number_count_address, slot_row_address}
use Rattle.table.specs.View.{cell, numbers_in, instr_in, instrs_in}

-- the slots that a `new` at place p of the pool names
unfoldable pub new_slots : List ℕ → ℕ → List ℕ
new_slots w p = drop 1 (take (cell w (number_count_address p)) (numbers_in w p))

-- an instruction, with the slots of a `new`
abbrev pub instr_told : List ℕ → Instruction → Instr
instr_told ss (Instruction.New f) = new f ss
instr_told ss (Instruction.Call o n a) = call o n a
instr_told ss (Instruction.Get n) = get n
instr_told ss (Instruction.Put n v) = put n v
instr_told ss (Instruction.Copy v) = copy v

-- an instruction told from a place of the buffer: it is that of each place of the pool whose numbers begin there
abbrev pub ToldFrom : List ℕ → ℕ → Instruction → Type 0
ToldFrom w at r = (p : ℕ) → at ≡ instr_address p → instr_told (new_slots w p) r ≡ instr_in w p

-- a part, with the instructions of a body
abbrev pub part_told : List ℕ → PartPlace → Part
part_told w (PartPlace.Init k) = init k
part_told w (PartPlace.Body start count) = body (instrs_in w start count)

-- the rows of the first n slots of the body in hand
abbrev pub slot_rows_in : List ℕ → ℕ → List ℕ
slot_rows_in w n = tab (λ v. cell w (slot_row_address v)) n
