use Rattle.line_writer.proofs.PutLaws.{Put-one}
use Rattle.line_writer.proofs.put_byte.Goals as goal

pub returns : goal.returns
returns c = Put-one c.requires
