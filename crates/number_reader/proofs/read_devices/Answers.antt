use Rattle.reader_loop.proofs.ThenLaws.{past}
use Rattle.number_reader.proofs.ListLaws.{device_existing, devices_refused, devices_room, devices_read}
use Rattle.number_reader.proofs.read_devices.Goals as goal

pub returns-in_err-head : goal.returns-in_err-head
returns-in_err-head c =
    devices_refused c.args.forms c.args.work.now c.take_line.ensures c.in_err-head.was c.from_residual.ensures.1

pub read_numbers-requires : goal.read_numbers-requires
read_numbers-requires c = (
  (past c.in_ok-head.was c.take_line.ensures.onward).room,
  device_existing,
  devices_room c.args.forms c.args.work.now c.take_line.ensures c.in_ok-head.was c.requires.1 c.put_device_count.ensures c.device_address.ensures c.wide.ensures,
)

pub returns : goal.returns
returns c =
    devices_read c.args.forms c.args.work.now c.take_line.ensures c.in_ok-head.was c.requires.1 c.put_device_count.ensures
    c.device_address.ensures c.wide.ensures c.read_numbers.ensures
