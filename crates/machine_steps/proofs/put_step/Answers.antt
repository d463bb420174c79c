use Prim.Native.Nat.{◌-◌}
use mathlib.Core.Path.{refl, ap, ◌∙◌}
use lib.ListN.{length, length-set}
use Rattle.sheet_rules.specs.Sheet.{put}
use Rattle.table.specs.Layout.{field_address}
use Rattle.machine_steps.proofs.FacingLaws.{size, fill_asks, slot_asks}
use Rattle.machine_steps.proofs.OwnLaws.{own_some, name_small, o_small, f_small, p_small, put_ready, put_filled, put_took}
use Rattle.machine_steps.proofs.put_step.Goals as goal

pub overflow_sub-o : goal.overflow_sub-o
overflow_sub-o c = own_some c.args.work.now c.args.top c.args.tally c.requires.running c.args.n (put_ready c.args.work.now c.args.top c.args.tally c.args.n c.args.v c.requires)

pub form_of-requires : goal.form_of-requires
form_of-requires c = (o_small c.args.work.now c.args.top c.args.tally c.requires.running c.args.n (put_ready c.args.work.now c.args.top c.args.tally c.args.n c.args.v c.requires) (c.args.top.own - 1) refl, size c.args.work.now c.args.top c.args.tally c.requires.running)

pub place-place-requires : goal.place-place-requires
place-place-requires c = (
  f_small c.args.work.now c.args.top c.args.tally c.requires.running c.args.n (put_ready c.args.work.now c.args.top c.args.tally c.args.n c.args.v c.requires) (c.args.top.own - 1) refl c.form_of.result c.form_of.ensures,
  name_small c.args.work.now c.args.top c.args.tally c.requires.running c.args.n (put_ready c.args.work.now c.args.top c.args.tally c.args.n c.args.v c.requires),
  size c.args.work.now c.args.top c.args.tally c.requires.running,
)

pub slot-value-requires : goal.slot-value-requires
slot-value-requires c =
    slot_asks c.args.work.now c.args.top c.args.tally (put c.args.n c.args.v) c.requires c.frame_of-f.result c.frame_of-f.ensures c.args.v (put_filled c.args.work.now c.args.top c.args.tally c.args.n c.args.v c.requires)

pub put_field-requires : goal.put_field-requires
put_field-requires c = (
  o_small c.args.work.now c.args.top c.args.tally c.requires.running c.args.n (put_ready c.args.work.now c.args.top c.args.tally c.args.n c.args.v c.requires) (c.args.top.own - 1) refl,
  p_small c.args.work.now c.args.top c.args.tally c.requires.running c.args.n (put_ready c.args.work.now c.args.top c.args.tally c.args.n c.args.v c.requires) (c.args.top.own - 1) refl c.form_of.result c.form_of.ensures c.place-place.result c.place-place.ensures,
  size c.args.work.now c.args.top c.args.tally c.requires.running,
)

pub fill_slot-requires : goal.fill_slot-requires
fill_slot-requires c =
    fill_asks c.args.work.now c.args.top c.args.tally (put c.args.n c.args.v) c.requires c.frame_of-f.result c.frame_of-f.ensures c.put_field.new.work
    (ap length c.put_field.ensures ∙ length-set c.args.work.now (field_address (c.args.top.own - 1) c.place-place.result) c.slot-value.result)

pub returns : goal.returns
returns c =
    put_took c.args.work.now c.args.top c.args.tally c.frame_of-f.result c.frame_of-f.ensures c.fill_slot.new.work c.fill_slot.result c.fill_slot.ensures.0 c.args.n c.args.v c.requires
    (c.args.top.own - 1) refl c.form_of.result c.form_of.ensures c.place-place.result c.place-place.ensures
    c.slot-value.result c.slot-value.ensures c.put_field.new.work c.put_field.ensures c.fill_slot.ensures.1
