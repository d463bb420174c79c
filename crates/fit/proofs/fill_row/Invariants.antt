use mathlib.Core.Path.{◌≡◌}
use Rattle.fit.specs.Told.{pairs_filled}
use Rattle.fit.proofs.fill_row.Given as goal

abbrev pub invariant-loop-k : goal.invariant-loop-k
invariant-loop-k l = l.work ≡ pairs_filled l.initial.work l.m l.k
