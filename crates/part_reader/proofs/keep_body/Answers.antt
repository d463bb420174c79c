use Rattle.part_reader.proofs.PartLaws.{body_kept}
use Rattle.part_reader.proofs.keep_body.Goals as goal

pub returns : goal.returns
returns c =
    body_kept c.args.part.f c.args.part.j c.args.work.now c.args.part.forms c.args.part.keeps c.args.count c.args.part.form c.args.part.part c.requires.1 c.requires.2 c.requires.3 c.put_part.ensures c.wide.ensures
    c.read_instrs.ensures
