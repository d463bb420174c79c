use Rattle.part_reader.proofs.PartLaws.{field_refused, field_read}
use Rattle.part_reader.proofs.read_field.Goals as goal

pub returns-in_err-line : goal.returns-in_err-line
returns-in_err-line c =
    field_refused c.args.part.f c.args.part.j c.args.work.now c.take_line.ensures c.in_err-line.was c.from_residual.ensures.1

pub returns : goal.returns
returns c =
    field_read c.args.part.f c.args.part.j c.args.work.now c.take_line.ensures c.requires.1 c.in_ok-line.was c.put_part.ensures
