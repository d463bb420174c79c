use Prim.Native.Nat.{◌≤◌}
use Rattle.authority.specs.Laid.{is_reached, Written}
use Rattle.authority.proofs.collect.write_reached.Given as goal

abbrev pub invariant-loop-b : goal.invariant-loop-b
invariant-loop-b l = (l.b ≤ l.n) × Written (is_reached l.work l.n) l.b l.initial.res l.res l.count
