use Rattle.machine_steps.proofs.CreationLaws.{Keeping}
use Rattle.machine_steps.proofs.creation.keep_values.Given as goal

abbrev pub invariant-loop-k : goal.invariant-loop-k
invariant-loop-k l = Keeping l.initial.work l.f l.p l.o l.count l.work l.k
