use Rattle.machine.proofs.StartLaws.{Putting}
use Rattle.machine.proofs.put_devices.Given as goal

abbrev pub invariant-loop-d : goal.invariant-loop-d
invariant-loop-d l = Putting l.initial.work l.work l.d
