use Rattle.slot_notes.proofs.NoteLaws.{Noted-nothing, Noted-slot, Noted-slots, Noted-instr}
use Rattle.slot_notes.proofs.note_placed.Goals as goal

pub returns-in-Call : goal.returns-in-Call
returns-in-Call c =
    Noted-instr c.args.p c.instr_placed.ensures c.in-Call.is
    (Noted-slots c.wide.ensures c.note.ensures c.wide-in-Call.ensures c.note-in-Call.ensures)

pub returns-in-Get : goal.returns-in-Get
returns-in-Get c =
    Noted-instr c.args.p c.instr_placed.ensures c.in-Get.is (Noted-nothing c.args.at c.args.work.now)

pub returns-in-Put : goal.returns-in-Put
returns-in-Put c =
    Noted-instr c.args.p c.instr_placed.ensures c.in-Put.is
    (Noted-slot c.wide-in-Put.ensures c.note-in-Put.ensures)

pub returns-in-Copy : goal.returns-in-Copy
returns-in-Copy c =
    Noted-instr c.args.p c.instr_placed.ensures c.in-Copy.is
    (Noted-slot c.wide-in-Copy.ensures c.note-in-Copy.ensures)
