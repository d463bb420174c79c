use Prim.Native.Nat.{◌≤◌}
use Rattle.machine_steps.specs.Entered.{KeptCopied}
use Rattle.machine_steps.proofs.frames.copy_kept.Given as goal

abbrev pub invariant-loop-i : goal.invariant-loop-i
invariant-loop-i l = (l.i ≤ l.count) × KeptCopied l.initial.work l.work l.f l.o l.i
