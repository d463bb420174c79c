use mathlib.Core.Path.{sym, subst}
use Rattle.line_reader.specs.Told.{LineTold}
use Rattle.line_reader.proofs.ExitLaws.{passed_on}
use Rattle.line_reader.proofs.TakeLaws.{there_fitting, told_stop, told_line}
use Rattle.line_reader.proofs.take_line.Goals as goal

pub returns-in_err-line : goal.returns-in_err-line
returns-in_err-line c =
    passed_on (LineTold c.args.wanted c.args.bound c.args.text.now c.args.from) c.from_residual.ensures.1
    (told_stop c.args.text.now c.args.from c.read_line.ensures c.in_err-line.was c.args.wanted c.args.bound)

pub judge-judged-requires : goal.judge-judged-requires
judge-judged-requires c = there_fitting c.args.text.now c.args.from c.read_line.ensures c.in_ok-line.was

pub returns : goal.returns
returns c =
    subst (LineTold c.args.wanted c.args.bound c.args.text.now c.args.from) (sym c.settle.ensures)
    (told_line c.args.text.now c.args.from c.requires c.read_line.ensures c.in_ok-line.was c.args.wanted c.args.bound
    c.judge-judged.result c.judge-judged.ensures)
