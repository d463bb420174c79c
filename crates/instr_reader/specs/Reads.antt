-- What reading instructions into the table ensures. Stands on reading, the table's view, and the readers of lines.
use Rattle.std.specs.Prelude.{ℕ, ◌+◌, ◌≡◌, List, length}
use Rattle.sheet_rules.specs.Sheet.{Instr}
use Rattle.sheet_rules.specs.Reader.{one}
use Rattle.sheet_rules.specs.FormLines.{instr_line, read_instrs}
use Rattle.table.specs.Layout.{instr_address, instr_end, instrs_end}
use Rattle.table.specs.View.{instr_in, instrs_in}
use Rattle.table.specs.Only.{Only}
use Rattle.line_reader.specs.declared.Cursor.{Cursor}
use Rattle.reader_loop.specs.Items.{ItemRead, Items}
use Rattle.std.specs.declared.result.Result.{Result}
use Rattle.sheet_rules.specs.declared.Refusal.{Refusal}

-- instruction p of the pool is now this one, and nothing else has changed
pub record StoredInstr (p : ℕ) (i : Instr) (w w' : List ℕ) : Type 0 where
  pub holds : instr_in w' p ≡ i
  pub only : Only (instr_address p) (instr_end p) w w'

-- the instruction where reading stands, read: it is the next of the pool
abbrev pub InstrRead : List ℕ → (forms filled : ℕ) → Cursor → (w w' : List ℕ) → Result Cursor Refusal → Type 0
InstrRead text forms filled from w w' r =
    ItemRead text (one (instr_line forms filled)) (λ x. instr_in x from.used) (λ x. from.used + 1) (instr_address from.used) (instr_end from.used) from w w' r

-- `count` instructions, read into the pool from place `start` on
abbrev pub instr_items : (forms filled start count : ℕ) → Items Instr
instr_items forms filled start count =
    record {
      item = λ before. one (instr_line forms (filled + length before));
      value = λ x j. instr_in x (start + j);
      used = λ x j. start + j;
      lo = instr_address start;
      hi = instrs_end start count;
    }

-- a body's instructions, read; nothing else has changed
abbrev pub InstrsRead : List ℕ → (count forms filled : ℕ) → Cursor → (w w' : List ℕ) → Result Cursor Refusal → Type 0
InstrsRead text count forms filled from w w' r =
    ItemRead text (read_instrs forms filled count) (λ x. instrs_in x from.used count) (λ x. from.used + count) (instr_address from.used) (instrs_end from.used count) from w w' r
