use Prim.Native.Nat.{◌+◌, ◌-◌, ◌≤◌}
use Rattle.fit.proofs.TurnLaws.{Going}
use Rattle.fit.proofs.walk.Given as goal

abbrev pub invariant-loop-left : goal.invariant-loop-left
invariant-loop-left l = (l.i ≤ l.across) × (l.j ≤ l.down) × Going l.work l.m l.k l.kinds l.i l.j l.left

abbrev pub decreases-loop-left : goal.decreases-loop-left
decreases-loop-left l = l.across - l.i + (l.down - l.j)
