use Rattle.slot_notes.proofs.FormNoteLaws.{cleared_asks, form_noted}
use Rattle.slot_notes.proofs.note_form.Goals as goal

pub note_parts-requires : goal.note_parts-requires
note_parts-requires c =
    cleared_asks c.requires.0 c.requires.1 c.form_notes-at.ensures c.clear_notes.ensures

pub returns : goal.returns
returns c =
    form_noted c.requires.0 c.requires.1 c.form_notes-at.ensures c.clear_notes.ensures c.note_parts.ensures
