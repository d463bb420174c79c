use Rattle.slot_notes.proofs.NoteLaws.{Noted-within}
use Rattle.slot_notes.proofs.note_instr.Goals as goal

pub returns : goal.returns
returns c =
    Noted-within c.args.p c.within_pool.ensures c.note_placed.ensures
