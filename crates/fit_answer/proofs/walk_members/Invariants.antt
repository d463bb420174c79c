use Prim.Native.Nat.{◌-◌}
use Rattle.fit_answer.proofs.WalkLaws.{Going}
use Rattle.fit_answer.proofs.walk_members.Given as goal

abbrev pub invariant-loop : goal.invariant-loop
invariant-loop l = Going l.sheet l.a l.b l.counter l.i l.j

abbrev pub decreases-loop : goal.decreases-loop
decreases-loop l = l.end - l.counter
