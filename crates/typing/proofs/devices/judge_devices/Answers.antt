use Rattle.typing.proofs.DeviceLaws.{devices_judged, devices_none}
use Rattle.typing.proofs.devices.judge_devices.Goals as goal

pub returns-then-device_count-eq0 : goal.returns-then-device_count-eq0
returns-then-device_count-eq0 c = devices_none c.args.work.now c.args.line c.device_count.ensures c.if-device_count-eq0.true

pub returns : goal.returns
returns c =
    devices_judged c.args.work.now c.args.line c.device_count.ensures c.if-device_count-eq0.false c.judge_each.ensures
