use Rattle.row_reader.proofs.RowLaws.{row_read, row_refused}
use Rattle.row_reader.proofs.read_row.Goals as goal

pub returns-in_err-head : goal.returns-in_err-head
returns-in_err-head c =
    row_refused c.args.i c.args.work.now c.take_line.ensures c.in_err-head.was c.from_residual.ensures.1

pub returns : goal.returns
returns c =
    row_read c.args.i c.args.work.now c.take_line.ensures c.in_ok-head.was c.keep_row.ensures
