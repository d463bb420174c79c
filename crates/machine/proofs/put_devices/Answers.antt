use mathlib.Core.Path.{◌∙◌}
use Rattle.machine.proofs.StartLaws.{put_whole, put_there, put_next, put_end}
use Rattle.machine.proofs.put_devices.Goals as goal

pub put_device-requires : goal.put_device-requires
put_device-requires c =
    let count = c.wide-count.ensures ∙ c.device_count.ensures in
    (put_whole c.loop-d.invariant c.requires, put_there c.loop-d.invariant c.requires count c.loop-d-test.true)

pub loop-d-preserved : goal.loop-d-preserved
loop-d-preserved c =
    let count = c.wide-count.ensures ∙ c.device_count.ensures in
    put_next c.loop-d.invariant c.requires count c.loop-d-test.true c.put_device.ensures

pub returns : goal.returns
returns c =
    let count = c.wide-count.ensures ∙ c.device_count.ensures in
    put_end c.loop-d.invariant c.requires count c.loop-d-test.false
