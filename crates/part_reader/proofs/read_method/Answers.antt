use Rattle.reader_loop.proofs.ThenLaws.{past}
use Rattle.part_reader.proofs.PartLaws.{method_refused, body_room, method_read}
use Rattle.part_reader.proofs.read_method.Goals as goal

pub returns-in_err-head : goal.returns-in_err-head
returns-in_err-head c =
    method_refused c.args.part.f c.args.part.j c.args.work.now c.args.part.forms c.args.part.keeps c.take_line.ensures c.in_err-head.was c.from_residual.ensures.1

pub keep_body-requires : goal.keep_body-requires
keep_body-requires c =
    let room = body_room c.args.part.f c.args.part.j c.args.work.now c.args.part.forms c.args.part.keeps c.take_line.ensures c.in_ok-head.was in
    ((past c.in_ok-head.was c.take_line.ensures.onward).room, room.some, room.whole, c.requires.1)

pub returns : goal.returns
returns c =
    method_read c.args.part.f c.args.part.j c.args.work.now c.args.part.forms c.args.part.keeps c.take_line.ensures c.in_ok-head.was c.keep_body.ensures
