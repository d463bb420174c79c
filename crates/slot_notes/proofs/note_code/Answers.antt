use Prim.Native.Nat.{◌-◌}
use Rattle.slot_notes.proofs.NoteLaws.{code_noted}
use Rattle.slot_notes.proofs.note_code.Goals as goal

pub returns : goal.returns
returns c =
    code_noted c.args.p (c.args.end - c.args.p) c.requires c.clear_notes.ensures c.note_instrs.ensures
