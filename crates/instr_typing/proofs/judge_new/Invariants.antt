use mathlib.Core.Path.{◌≡◌}
use lib.ListN.{drop}
use Rattle.sheet_rules.specs.Sheet.{form_at}
use Rattle.type_rules.specs.Typing.{slots_fault}
use Rattle.table.specs.View.{sheet_in}
use Rattle.table.specs.Told.{new_slots, slot_rows_in}
use Rattle.fit_answer.specs.Told.{answers}
use Rattle.instr_typing.proofs.judge_new.Given as goal

abbrev pub invariant-loop-k : goal.invariant-loop-k
invariant-loop-k l =
    slots_fault (answers l.sheet) (slot_rows_in l.sheet l.filled) (drop l.k (new_slots l.sheet l.p)) (drop l.k (form_at (sheet_in l.sheet) l.form).keeps)
    ≡ slots_fault (answers l.sheet) (slot_rows_in l.sheet l.filled) (new_slots l.sheet l.p) (form_at (sheet_in l.sheet) l.form).keeps
