use Rattle.table.specs.View.{sheet_in}
use Rattle.bound.proofs.AmountLaws.{Comparing}
use Rattle.bound.proofs.amounts.name_amount.Given as goal

abbrev pub invariant-loop-f : goal.invariant-loop-f
invariant-loop-f l = Comparing (sheet_in l.sheet) l.amounts l.name l.f l.largest l.next
