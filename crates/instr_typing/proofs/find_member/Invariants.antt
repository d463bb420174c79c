use lib.ListN.{drop}
use Rattle.type_rules.specs.SlotRows.{members_at}
use Rattle.table.specs.View.{sheet_in}
use Rattle.instr_typing.specs.Found.{FirstOf}
use Rattle.instr_typing.proofs.find_member.Given as goal

abbrev pub invariant-loop-j : goal.invariant-loop-j
invariant-loop-j g l =
    (r : _) → FirstOf (λ m r. goal.F-post g l.find m r) (drop l.j (members_at (sheet_in l.sheet) l.row)) r
    → FirstOf (λ m r. goal.F-post g l.find m r) (members_at (sheet_in l.sheet) l.row) r
