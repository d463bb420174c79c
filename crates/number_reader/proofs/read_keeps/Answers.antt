use Rattle.number_reader.proofs.ListLaws.{keeps_read}
use Rattle.number_reader.proofs.read_keeps.Goals as goal

pub returns : goal.returns
returns c =
    keeps_read c.args.f c.args.count c.args.rows c.requires.2 c.keep_address.ensures c.read_numbers.ensures
