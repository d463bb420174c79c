use native.Mathlib.Omega.{arith}
use Rattle.reader_loop.proofs.ThenLaws.{past}
use Rattle.reader.proofs.SheetLaws.{types_refused, types_few, rows_refused, rows_moved, rows_then_ready, rows_forms}
use Rattle.reader.proofs.read_from_types.Goals as goal

pub returns-in_err-head : goal.returns-in_err-head
returns-in_err-head c =
    types_refused c.args.work.now c.requires.1 c.take_line.ensures c.in_err-head.was c.from_residual.result c.from_residual.ensures.1

pub read_rows-requires : goal.read_rows-requires
read_rows-requires c =
    ((past c.in_ok-head.was c.take_line.ensures.onward).room, omega (arith, c.wide.ensures, types_few c.args.work.now c.requires.1 c.take_line.ensures c.in_ok-head.was), c.requires.1)

pub returns-in_err-here : goal.returns-in_err-here
returns-in_err-here c =
    rows_refused c.args.work.now c.requires.1 c.take_line.ensures c.in_ok-head.was c.wide.ensures c.read_rows.ensures c.in_err-here.was c.from_residual-in_err-here.result c.from_residual-in_err-here.ensures.1

pub read_after_rows-requires : goal.read_after_rows-requires
read_after_rows-requires c =
    let there = rows_moved c.args.work.now c.requires.1 c.take_line.ensures c.in_ok-head.was c.wide.ensures c.read_rows.ensures c.in_ok-here.was in
    (there.0, there.1, rows_then_ready c.args.work.now c.requires.1 c.take_line.ensures c.in_ok-head.was c.wide.ensures c.read_rows.ensures c.in_ok-here.was)

pub returns : goal.returns
returns c =
    rows_forms c.args.work.now c.requires.1 c.take_line.ensures c.in_ok-head.was c.wide.ensures c.read_rows.ensures c.in_ok-here.was c.read_after_rows.ensures
