use Rattle.form_reader.proofs.FormLaws.{keeps_refused, parts_ready, parts_room, form_kept}
use Rattle.form_reader.proofs.keep_form.Goals as goal

pub returns-in_err-here : goal.returns-in_err-here
returns-in_err-here c =
    keeps_refused c.args.form.forms c.requires.0 c.args.form.form c.requires.1 c.requires.2 c.requires.3 c.wide.ensures c.member_count-parts.ensures c.put_heading.ensures
    c.wide-2.ensures c.read_keeps.ensures c.in_err-here.was c.from_residual.ensures.1

pub read_parts-requires : goal.read_parts-requires
read_parts-requires c = (
  parts_room c.args.form.forms c.requires.0 c.args.form.form c.requires.1 c.requires.2 c.requires.3 c.wide.ensures c.member_count-parts.ensures c.put_heading.ensures c.wide-2.ensures c.read_keeps.ensures c.in_ok-here.was,
  parts_ready c.args.form.forms c.requires.0 c.args.form.form c.requires.1 c.requires.2 c.requires.3 c.wide.ensures c.member_count-parts.ensures c.put_heading.ensures c.wide-2.ensures c.read_keeps.ensures c.wide-3.ensures,
)

pub returns : goal.returns
returns c =
    form_kept c.args.form.forms c.requires.0 c.args.form.form c.requires.1 c.requires.2 c.requires.3 c.wide.ensures c.member_count-parts.ensures c.put_heading.ensures
    c.wide-2.ensures c.read_keeps.ensures c.in_ok-here.was c.wide-3.ensures c.read_parts.ensures
