use native.Mathlib.Omega.{arith}
use Rattle.machine_steps.proofs.CreationLaws.{starting_asks, Starting-next, starting_end}
use Rattle.machine_steps.proofs.creation.start_fields.Goals as goal

pub returns-then-count-j : goal.returns-then-count-j
returns-then-count-j c =
    starting_end c.args.work.now c.args.form c.args.o c.part_count-count.result c.requires c.part_count-count.ensures c.loop-j.work c.loop-j.fields c.loop-j.j c.loop-j.invariant c.if-count-j.true

pub start_field-fields-requires : goal.start_field-fields-requires
start_field-fields-requires c =
    starting_asks c.args.work.now c.args.form c.args.o c.part_count-count.result c.requires c.part_count-count.ensures c.loop-j.work c.loop-j.fields c.loop-j.j c.loop-j.invariant c.if-count-j.false

pub loop-j-preserved : goal.loop-j-preserved
loop-j-preserved c =
    Starting-next c.args.work.now c.args.form c.args.o c.part_count-count.result c.requires c.part_count-count.ensures c.loop-j.work c.loop-j.fields c.loop-j.j c.loop-j.invariant c.start_field-fields.result c.start_field-fields.new.work c.if-count-j.false c.start_field-fields.ensures.0 c.start_field-fields.ensures.1

pub returns : goal.returns
returns c =
    starting_end c.args.work.now c.args.form c.args.o c.part_count-count.result c.requires c.part_count-count.ensures c.loop-j.work c.loop-j.fields c.loop-j.j c.loop-j.invariant (omega (arith, c.requires.parts, c.part_count-count.ensures, c.loop-j-test.false))
