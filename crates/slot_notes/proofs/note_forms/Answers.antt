use Rattle.slot_notes.proofs.FormNoteLaws.{next_asks, forms_next}
use Rattle.slot_notes.proofs.note_forms.Goals as goal

pub note_form-requires : goal.note_form-requires
note_form-requires c =
    next_asks c.loop-f.invariant c.requires c.form_count-count.ensures.0 c.loop-f-test.true

pub loop-f-preserved : goal.loop-f-preserved
loop-f-preserved c =
    forms_next c.loop-f.invariant c.form_count-count.ensures.1 c.loop-f-test.true
    c.note_form.ensures
