use Rattle.machine_steps.proofs.CreationLaws.{Starting}
use Rattle.machine_steps.proofs.creation.start_fields.Given as goal

abbrev pub invariant-loop-j : goal.invariant-loop-j
invariant-loop-j l = Starting l.initial.work l.form l.o l.count l.work l.fields l.j
