use Rattle.authority_question.proofs.HeldLaws.{noted_run}
use Rattle.authority_question.proofs.run_noted.Goals as goal

pub returns : goal.returns
returns c =
    noted_run c.run_sheet-halt.ensures c.note_forms.ensures
