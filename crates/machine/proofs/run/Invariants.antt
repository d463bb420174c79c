use Prim.Native.Nat.{◌-◌}
use Rattle.machine.proofs.RunLaws.{Going}
use Rattle.machine.proofs.run.Given as goal

abbrev pub invariant-loop-frame : goal.invariant-loop-frame
invariant-loop-frame l = Going l.initial.work l.budget l.work l.top l.tally

abbrev pub decreases-loop-frame : goal.decreases-loop-frame
decreases-loop-frame l = l.budget - l.tally.steps
