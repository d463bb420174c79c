use Rattle.machine_steps.proofs.CreationLaws.{named_asks, value_asks, Keeping-next}
use Rattle.machine_steps.proofs.creation.keep_values.Goals as goal

pub slot_named-requires : goal.slot_named-requires
slot_named-requires c =
    named_asks c.args.work.now c.args.f c.args.p c.args.o c.args.count c.requires c.loop-k.work c.loop-k.k c.loop-k.invariant c.if-count-k.false

pub slot-value-requires : goal.slot-value-requires
slot-value-requires c =
    value_asks c.args.work.now c.args.f c.args.p c.args.o c.args.count c.requires c.loop-k.work c.loop-k.k c.loop-k.invariant c.if-count-k.false c.slot_named.result c.wide.result c.slot_named.ensures c.wide.ensures

pub loop-k-preserved : goal.loop-k-preserved
loop-k-preserved c =
    Keeping-next c.args.work.now c.args.f c.args.p c.args.o c.args.count c.requires c.loop-k.work c.loop-k.k c.loop-k.invariant c.if-count-k.false c.slot_named.result c.wide.result c.slot-value.result c.put_kept.new.work c.slot_named.ensures c.wide.ensures c.slot-value.ensures c.put_kept.ensures
