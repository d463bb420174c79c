use lib.ListN.{drop}
use mathlib.Core.Path.{◌≡◌}
use Rattle.type_rules.specs.SlotRows.{members_at}
use Rattle.type_rules.specs.Typing.{has_field}
use Rattle.table.specs.View.{sheet_in}
use Rattle.form_typing.proofs.has_field.Given as goal

abbrev pub invariant-loop-j : goal.invariant-loop-j
invariant-loop-j l = has_field (drop l.j (members_at (sheet_in l.sheet) l.a)) ≡ has_field (members_at (sheet_in l.sheet) l.a)
