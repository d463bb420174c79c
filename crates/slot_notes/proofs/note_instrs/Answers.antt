use Rattle.slot_notes.proofs.NoteLaws.{code_start, code_next}
use Rattle.slot_notes.proofs.note_instrs.Goals as goal

pub loop-q-init : goal.loop-q-init
loop-q-init c =
    code_start c.args.at c.args.p c.args.end c.args.work.now

pub loop-q-preserved : goal.loop-q-preserved
loop-q-preserved c =
    code_next c.loop-q.invariant c.requires c.loop-q-test.true c.note_instr.ensures
