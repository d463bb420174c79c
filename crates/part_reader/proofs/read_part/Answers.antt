use Rattle.part_reader.proofs.PartLaws.{part_of_method, part_of_field}
use Rattle.part_reader.proofs.read_part.Goals as goal

pub returns-in-Method : goal.returns-in-Method
returns-in-Method c =
    part_of_method c.args.part.f c.args.part.j c.args.work.now c.args.part.forms c.args.part.keeps c.in-Method.is c.read_method.ensures

pub returns-in-Field : goal.returns-in-Field
returns-in-Field c =
    part_of_field c.args.part.f c.args.part.j c.args.work.now c.args.part.forms c.args.part.keeps c.in-Field.is c.read_field.ensures
