use Prim.Native.Nat.{◌+◌}
use lib.ListN.{drop}
use Rattle.table.specs.View.{instrs_in}
use Rattle.bound.specs.Told.{code_calls}
use Rattle.bound.proofs.ItemsLaws.{ItemsGoing}
use Rattle.bound.proofs.calls.judge_code.Given as goal

abbrev pub invariant-loop-j : goal.invariant-loop-j
invariant-loop-j l = ItemsGoing (λ i. code_calls l.name (drop i (instrs_in l.sheet l.start l.count))) 1 l.first l.j (l.first + l.j)
