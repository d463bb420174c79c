use Rattle.authority.proofs.OwnLaws.{fields_of, own_marked}
use Rattle.authority.proofs.own.mark_own.Goals as goal

pub returns : goal.returns
returns c =
    own_marked c.requires.0 c.requires.1 c.requires.2 c.requires.3 c.form_of-form.ensures c.keeps_of-kept.ensures (fields_of c.form_of-form.result c.of.ensures c.field_count-fields.ensures) c.mark.ensures c.kept_at.ensures c.form_notes.ensures c.mark_noted.ensures c.field_at.ensures c.mark_all.ensures
