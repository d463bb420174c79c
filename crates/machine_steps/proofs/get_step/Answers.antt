use Prim.Native.Nat.{◌-◌}
use mathlib.Core.Path.{refl}
use Rattle.sheet_rules.specs.Sheet.{get}
use Rattle.machine_steps.proofs.FacingLaws.{size, fill_asks}
use Rattle.machine_steps.proofs.OwnLaws.{own_some, name_small, o_small, f_small, p_small, get_ready, get_took}
use Rattle.machine_steps.proofs.get_step.Goals as goal

pub overflow_sub-o : goal.overflow_sub-o
overflow_sub-o c = own_some c.args.work.now c.args.top c.args.tally c.requires.running c.args.n (get_ready c.args.work.now c.args.top c.args.tally c.args.n c.requires)

pub form_of-requires : goal.form_of-requires
form_of-requires c = (o_small c.args.work.now c.args.top c.args.tally c.requires.running c.args.n (get_ready c.args.work.now c.args.top c.args.tally c.args.n c.requires) (c.args.top.own - 1) refl, size c.args.work.now c.args.top c.args.tally c.requires.running)

pub place-place-requires : goal.place-place-requires
place-place-requires c = (
  f_small c.args.work.now c.args.top c.args.tally c.requires.running c.args.n (get_ready c.args.work.now c.args.top c.args.tally c.args.n c.requires) (c.args.top.own - 1) refl c.form_of.result c.form_of.ensures,
  name_small c.args.work.now c.args.top c.args.tally c.requires.running c.args.n (get_ready c.args.work.now c.args.top c.args.tally c.args.n c.requires),
  size c.args.work.now c.args.top c.args.tally c.requires.running,
)

pub field-value-requires : goal.field-value-requires
field-value-requires c = (
  o_small c.args.work.now c.args.top c.args.tally c.requires.running c.args.n (get_ready c.args.work.now c.args.top c.args.tally c.args.n c.requires) (c.args.top.own - 1) refl,
  p_small c.args.work.now c.args.top c.args.tally c.requires.running c.args.n (get_ready c.args.work.now c.args.top c.args.tally c.args.n c.requires) (c.args.top.own - 1) refl c.form_of.result c.form_of.ensures c.place-place.result c.place-place.ensures,
  size c.args.work.now c.args.top c.args.tally c.requires.running,
)

pub fill_slot-requires : goal.fill_slot-requires
fill_slot-requires c =
    fill_asks c.args.work.now c.args.top c.args.tally (get c.args.n) c.requires c.frame_of.result c.frame_of.ensures c.args.work.now refl

pub returns : goal.returns
returns c =
    get_took c.args.work.now c.args.top c.args.tally c.frame_of.result c.frame_of.ensures c.fill_slot.new.work c.fill_slot.result c.fill_slot.ensures.0 c.args.n c.requires
    (c.args.top.own - 1) refl c.form_of.result c.form_of.ensures c.place-place.result c.place-place.ensures
    c.field-value.result c.field-value.ensures c.fill_slot.ensures.1
