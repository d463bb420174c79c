use Rattle.number_reader.proofs.NumberLaws.{number_read, number_refused}
use Rattle.number_reader.proofs.read_number.Goals as goal

pub returns-in_err-line : goal.returns-in_err-line
returns-in_err-line c =
    number_refused c.args.list c.args.j c.args.work.now c.requires.1 c.take_line.ensures c.in_err-line.was c.from_residual.ensures.1

pub returns : goal.returns
returns c =
    number_read c.args.list c.args.j c.args.work.now c.requires.1 c.take_line.ensures c.requires.2 c.in_ok-line.was c.put.ensures
