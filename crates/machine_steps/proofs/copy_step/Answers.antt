use mathlib.Core.Path.{refl}
use Rattle.sheet_rules.specs.Sheet.{copy}
use Rattle.machine_steps.proofs.FacingLaws.{fill_asks, slot_asks}
use Rattle.machine_steps.proofs.OwnLaws.{copy_filled, copy_took}
use Rattle.machine_steps.proofs.copy_step.Goals as goal

pub slot-value-requires : goal.slot-value-requires
slot-value-requires c = slot_asks c.args.work.now c.args.top c.args.tally (copy c.args.v) c.requires c.frame_of-f.result c.frame_of-f.ensures c.args.v (copy_filled c.args.work.now c.args.top c.args.tally c.args.v c.requires)

pub fill_slot-requires : goal.fill_slot-requires
fill_slot-requires c =
    fill_asks c.args.work.now c.args.top c.args.tally (copy c.args.v) c.requires c.frame_of-f.result c.frame_of-f.ensures c.args.work.now refl

pub returns : goal.returns
returns c =
    copy_took c.args.work.now c.args.top c.args.tally c.frame_of-f.result c.frame_of-f.ensures c.fill_slot.new.work c.fill_slot.result c.fill_slot.ensures.0 c.args.v c.requires
    c.slot-value.result c.slot-value.ensures c.fill_slot.ensures.1
