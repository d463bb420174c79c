use mathlib.Core.Path.{ap}
use mathlib.Core.Bool.{not}
use native.Mathlib.Omega.{arith}
use mathlib.Core.Path.{sym, subst}
use Rattle.form_reader.specs.Reads.{FormsUsed}
use Rattle.reader.proofs.DeviceLaws.{devices_ready, devices_used, none_only, none_counted, none_read, some_refused, some_room, some_few, some_read}
use Rattle.reader.proofs.read_after_forms.Goals as goal

pub read_main-requires : goal.read_main-requires
read_main-requires c =
    let only = none_only c.args.work.now c.put_device_count.ensures in
    (c.requires.0, c.requires.1, devices_ready only c.requires.2, devices_used only c.requires.3, omega (arith, none_counted c.args.work.now c.put_device_count.ensures c.requires.2.size))

pub returns-then-not-is_next : goal.returns-then-not-is_next
returns-then-not-is_next c =
    none_read c.args.work.now c.put_device_count.ensures c.requires.2.size c.args.rows c.args.forms c.args.text.now c.args.from
    c.is_next.ensures (ap not c.if-not-is_next.true) c.read_main.ensures

pub returns-in_err-here : goal.returns-in_err-here
returns-in_err-here c =
    some_refused c.args.rows c.args.forms c.args.text.now c.args.from c.args.work.now c.is_next.ensures (ap not c.if-not-is_next.false)
    c.read_devices.ensures c.in_err-here.was c.from_residual.result c.from_residual.ensures.1

pub read_main-requires-2 : goal.read_main-requires-2
read_main-requires-2 c =
    let room = some_room c.args.rows c.args.forms c.args.text.now c.args.from c.args.work.now c.is_next.ensures (ap not c.if-not-is_next.false) c.read_devices.ensures c.in_ok-here.was in (
      room.0,
      c.requires.1,
      devices_ready c.read_devices.ensures.only c.requires.2,
      subst (FormsUsed _ c.args.forms) (sym room.1) (devices_used c.read_devices.ensures.only c.requires.3),
      some_few c.args.rows c.args.forms c.args.text.now c.args.from c.args.work.now c.is_next.ensures (ap not c.if-not-is_next.false) c.read_devices.ensures c.in_ok-here.was,
    )

pub returns : goal.returns
returns c =
    some_read c.args.rows c.args.forms c.args.text.now c.args.from c.args.work.now c.is_next.ensures (ap not c.if-not-is_next.false)
    c.read_devices.ensures c.in_ok-here.was c.read_main-2.ensures
