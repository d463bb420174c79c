use Rattle.machine.proofs.RunLaws.{located_able, put_ready, sheet_run}
use Rattle.machine.proofs.run_sheet.Goals as goal

pub put_devices-requires : goal.put_devices-requires
put_devices-requires c =
    (located_able c.args.work.now c.locate.new.work c.requires c.locate.ensures).accepted.whole

pub run-requires : goal.run-requires
run-requires c =
    put_ready (located_able c.args.work.now c.locate.new.work c.requires c.locate.ensures) c.put_devices.ensures

pub returns : goal.returns
returns c =
    sheet_run c.args.work.now c.locate.new.work c.put_devices.new.work c.run.new.work c.args.budget c.run.result c.locate.ensures c.put_devices.ensures c.run.ensures
