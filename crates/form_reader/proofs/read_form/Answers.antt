use Rattle.reader_loop.proofs.ThenLaws.{past}
use Rattle.form_reader.proofs.HeadLaws.{head_refused, head_ok, head_read}
use Rattle.form_reader.proofs.read_form.Goals as goal

pub returns-in_err-head : goal.returns-in_err-head
returns-in_err-head c =
    head_refused c.args.form.f c.args.form.forms c.args.work.now c.take_line.ensures c.in_err-head.was c.from_residual.ensures.1

pub keep_form-requires : goal.keep_form-requires
keep_form-requires c =
    let ok = head_ok c.args.form.f c.args.form.forms c.args.work.now c.take_line.ensures c.in_ok-head.was in
    ((past c.in_ok-head.was c.take_line.ensures.onward).room, ok.row, ok.few, c.requires.1)

pub returns : goal.returns
returns c =
    head_read c.args.form.f c.args.form.forms c.args.work.now c.take_line.ensures c.in_ok-head.was c.keep_form.ensures
