use native.Mathlib.Omega.{arith}
use Rattle.machine_steps.proofs.FacingLaws.{size}
use Rattle.machine_steps.proofs.ReturnLaws.{last_filled, last_small, f_small, b_small, returned-Took}
use Rattle.machine_steps.proofs.frames.return_step.Goals as goal

pub overflow_sub-top : goal.overflow_sub-top
overflow_sub-top c = last_filled c.args.work.now c.args.top c.args.tally c.requires.0 c.requires.1 c.requires.2

pub slot-value-requires : goal.slot-value-requires
slot-value-requires c = (
  f_small c.args.work.now c.args.top c.args.tally c.requires.0 c.requires.1 c.requires.2 c.frame_of-f.result c.frame_of-f.ensures,
  omega (arith, last_small c.args.work.now c.args.top c.args.tally c.requires.0 c.requires.1 c.requires.2),
  size c.args.work.now c.args.top c.args.tally c.requires.0,
)

pub restore-below-requires : goal.restore-below-requires
restore-below-requires c = (
  omega (arith, f_small c.args.work.now c.args.top c.args.tally c.requires.0 c.requires.1 c.requires.2 c.frame_of-f.result c.frame_of-f.ensures),
  size c.args.work.now c.args.top c.args.tally c.requires.0,
)

pub put_slot-requires : goal.put_slot-requires
put_slot-requires c = (
  omega (arith, f_small c.args.work.now c.args.top c.args.tally c.requires.0 c.requires.1 c.requires.2 c.frame_of-f.result c.frame_of-f.ensures),
  omega (arith, b_small c.args.work.now c.args.top c.args.tally c.requires.0 c.requires.1 c.requires.2 c.frame_of-f.result c.frame_of-f.ensures c.restore-below.result c.restore-below.ensures),
  size c.args.work.now c.args.top c.args.tally c.requires.0,
)

pub returns : goal.returns
returns c =
    returned-Took c.args.work.now c.args.top c.args.tally c.requires.0 c.requires.1 c.requires.2 c.frame_of-f.result c.frame_of-f.ensures c.restore-below.result c.restore-below.ensures
    c.slot-value.result c.slot-value.ensures c.put_slot.new.work c.put_slot.ensures
