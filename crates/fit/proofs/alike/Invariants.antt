use Rattle.fit.specs.Told.{Alike}
use Rattle.fit.proofs.alike.Given as goal

abbrev pub invariant-loop-n : goal.invariant-loop-n
invariant-loop-n l = Alike l.work l.m l.k l.n
