use Rattle.std.proofs.Common.{refl}
use Rattle.question.proofs.ask_into.Goals as goal

pub returns-clause-told : goal.returns-clause-told
returns-clause-told g c = λ h.
    (c.answer-told.new.arg2, record { lent = _; lends = (refl, refl); left = _; met = c.answer-told.ensures; leaves = (refl, refl) }, c.clear.ensures)
