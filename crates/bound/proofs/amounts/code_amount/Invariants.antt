use Rattle.bound.proofs.AmountLaws.{Summing}
use Rattle.bound.proofs.amounts.code_amount.Given as goal

abbrev pub invariant-loop-j : goal.invariant-loop-j
invariant-loop-j l = Summing l.sheet l.amounts l.start l.count l.j l.amount
