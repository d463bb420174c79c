use mathlib.Core.Path.{ap}
use mathlib.Core.Bool.{not}
use mathlib.Core.Path.{◌∙◌}
use Rattle.typing.proofs.DeviceLaws.{each_whole, each_asks, each_end, each_stop, Each-next}
use Rattle.typing.proofs.devices.judge_each.Goals as goal

pub of-sheet-requires : goal.of-sheet-requires
of-sheet-requires c = each_whole c.loop-d.invariant c.requires.0

pub device_form-requires : goal.device_form-requires
device_form-requires c =
    let count = c.wide-count.ensures ∙ c.device_count.ensures in
    each_asks c.loop-d.invariant c.requires.0 count c.loop-d-test.true c.of-sheet.ensures

pub returns-then-not-is_device : goal.returns-then-not-is_device
returns-then-not-is_device c =
    let count = c.wide-count.ensures ∙ c.device_count.ensures in
    each_stop c.loop-d.invariant c.requires.0 count c.loop-d-test.true c.of-sheet.ensures (c.wide-form.ensures ∙ c.device_form.ensures) c.is_device.ensures (ap not c.if-not-is_device.true)

pub loop-d-preserved : goal.loop-d-preserved
loop-d-preserved c =
    let count = c.wide-count.ensures ∙ c.device_count.ensures in
    Each-next c.loop-d.invariant c.requires.0 count c.loop-d-test.true c.of-sheet.ensures (c.wide-form.ensures ∙ c.device_form.ensures) c.is_device.ensures
    (ap not c.if-not-is_device.false) c.form_row-row.ensures c.put_slot_row.ensures

pub returns : goal.returns
returns c =
    let count = c.wide-count.ensures ∙ c.device_count.ensures in
    each_end c.loop-d.invariant c.requires.0 count c.loop-d-test.false
