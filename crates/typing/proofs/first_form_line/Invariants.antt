use Rattle.table.specs.View.{sheet_in}
use Rattle.typing.proofs.SheetLaws.{RowsWalk}
use Rattle.typing.proofs.first_form_line.Given as goal

abbrev pub invariant-loop-a : goal.invariant-loop-a
invariant-loop-a l = RowsWalk (sheet_in l.sheet).rows l.a l.line
