use Rattle.slot_notes.specs.Noted.{FormsNotedIn}
use Rattle.slot_notes.proofs.note_forms.Given as goal

abbrev pub invariant-loop-f : goal.invariant-loop-f
invariant-loop-f l = FormsNotedIn l.initial.work l.f l.work
