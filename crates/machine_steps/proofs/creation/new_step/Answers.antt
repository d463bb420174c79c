use Rattle.machine_steps.proofs.NewLaws.{form_in, keeps, starts, fills, new_took}
use Prim.Native.Nat.{ℕ}
use mathlib.Core.Path.{refl, ap, ◌∙◌}
use lib.ListN.{set}
use Rattle.table.specs.Layout.{slot_address}
use Rattle.machine_steps.proofs.creation.new_step.Goals as goal

pub keeps_of-count-requires : goal.keeps_of-count-requires
keeps_of-count-requires c = (c.requires.0.running.accepted.whole, form_in c.args.work.now c.args.top c.args.tally c.args.form c.requires.0 c.requires.1 c.wide.result c.wide.ensures)

pub keep_values-requires : goal.keep_values-requires
keep_values-requires c =
    keeps c.args.work.now c.args.top c.args.tally c.args.form c.requires.0 c.requires.1 c.frame_of-f.result c.frame_of-f.ensures c.args.tally.objects refl c.put_form.new.work c.put_form.ensures c.wide.result c.wide.ensures c.keeps_of-count.result c.keeps_of-count.ensures

pub start_fields-requires : goal.start_fields-requires
start_fields-requires c =
    starts c.args.work.now c.args.top c.args.tally c.args.form c.requires.0 c.requires.1 c.frame_of-f.result c.frame_of-f.ensures c.args.tally.objects refl c.put_form.new.work c.put_form.ensures c.keep_values.new.work c.keep_values.ensures c.wide-2.result c.wide-2.ensures

pub fill_slot-requires : goal.fill_slot-requires
fill_slot-requires c =
    fills c.args.work.now c.args.top c.args.tally c.args.form c.requires.0 c.requires.1 c.frame_of-f.result c.frame_of-f.ensures c.args.tally.objects refl c.put_form.new.work c.put_form.ensures c.keep_values.new.work c.keep_values.ensures c.wide-2.result c.wide-2.ensures c.start_fields.new.work c.start_fields.ensures

pub returns : goal.returns
returns c =
    new_took c.args.work.now c.args.top c.args.tally c.args.form c.requires.0 c.requires.1 c.frame_of-f.result c.frame_of-f.ensures c.args.tally.objects refl c.put_form.new.work c.put_form.ensures c.keep_values.new.work c.keep_values.ensures c.wide-2.result c.wide-2.ensures c.start_fields.new.work c.start_fields.ensures c.fill_slot.new.work c.fill_slot.result c.fill_slot.ensures.0
    (c.fill_slot.ensures.1 ∙ ap (λ (x : ℕ). set c.start_fields.new.work (slot_address c.frame_of-f.result c.args.top.filled) x) c.narrow.ensures)
