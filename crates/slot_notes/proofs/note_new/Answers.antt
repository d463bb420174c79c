use mathlib.Core.Path.{◌∙◌}
use Rattle.slot_notes.proofs.NoteLaws.{Noted-nothing, named_asks, slots_next}
use Rattle.slot_notes.proofs.note_new.Goals as goal

pub loop-k-init : goal.loop-k-init
loop-k-init c =
    Noted-nothing c.args.at c.args.work.now

pub slot_named-requires : goal.slot_named-requires
slot_named-requires c =
    named_asks c.args.p c.new_slot_count-count.ensures c.loop-k.invariant c.requires c.loop-k-test.true

pub loop-k-preserved : goal.loop-k-preserved
loop-k-preserved c =
    slots_next c.args.p c.new_slot_count-count.ensures.0 c.loop-k.invariant c.requires.0
    c.loop-k-test.true (c.wide-v.ensures ∙ c.slot_named.ensures) c.note.ensures
