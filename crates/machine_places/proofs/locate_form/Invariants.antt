use Rattle.machine_places.proofs.StoringLaws.{Storing}
use Rattle.machine_places.proofs.locate_form.Given as goal

abbrev pub invariant-loop-j : goal.invariant-loop-j
invariant-loop-j l =
    Storing l.initial.work l.f l.row l.count l.work l.fields l.j
