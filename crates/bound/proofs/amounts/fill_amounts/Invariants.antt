use Rattle.table.specs.View.{sheet_in}
use Rattle.bound.proofs.CutLaws.{Filling}
use Rattle.bound.proofs.amounts.fill_amounts.Given as goal

abbrev pub invariant-loop-name : goal.invariant-loop-name
invariant-loop-name l = Filling (sheet_in l.sheet) l.amounts l.next l.name
