use Prim.Native.Nat.{◌≤◌}
use Rattle.authority.specs.Laid.{BelowMarked}
use Rattle.authority.proofs.mark_below.Given as goal

abbrev pub invariant-loop-f : goal.invariant-loop-f
invariant-loop-f l = (l.f ≤ l.d) × BelowMarked l.initial.work l.n l.h l.f l.work l.holder
