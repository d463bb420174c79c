use mathlib.Core.Path.{◌∙◌}
use Rattle.reader_loop.proofs.LoopLaws.{Moved-on}
use Rattle.reader_loop.proofs.ThenLaws.{past}
use Rattle.reader.proofs.SheetLaws.{forms_line_refused, forms_few, forms_refused, forms_ready, forms_used, forms_after}
use Rattle.reader.proofs.read_after_rows.Goals as goal

pub returns-in_err-head : goal.returns-in_err-head
returns-in_err-head c =
    forms_line_refused c.requires.2 c.take_line.ensures c.in_err-head.was c.from_residual.result c.from_residual.ensures.1

pub read_forms-requires : goal.read_forms-requires
read_forms-requires c =
    let q = past c.in_ok-head.was c.take_line.ensures.onward in
    (q.room, q.pool ∙ c.requires.1, forms_few c.requires.2 c.take_line.ensures c.in_ok-head.was, c.requires.2)

pub returns-in_err-here : goal.returns-in_err-here
returns-in_err-here c =
    forms_refused c.requires.2 c.take_line.ensures c.in_ok-head.was c.read_forms.ensures c.in_err-here.was c.from_residual-in_err-here.result c.from_residual-in_err-here.ensures.1

pub read_after_forms-requires : goal.read_after_forms-requires
read_after_forms-requires c =
    ((Moved-on c.in_ok-here.was c.read_forms.ensures.read.advanced).room, forms_few c.requires.2 c.take_line.ensures c.in_ok-head.was, forms_ready c.requires.2 c.take_line.ensures c.in_ok-head.was c.read_forms.ensures, forms_used c.requires.2 c.take_line.ensures c.in_ok-head.was c.read_forms.ensures c.in_ok-here.was)

pub returns : goal.returns
returns c =
    forms_after c.requires.2 c.take_line.ensures c.in_ok-head.was c.read_forms.ensures c.in_ok-here.was c.read_after_forms.ensures
