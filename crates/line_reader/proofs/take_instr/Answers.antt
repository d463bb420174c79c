use mathlib.Core.Path.{sym, subst}
use Rattle.line_reader.specs.Told.{InstrTold}
use Rattle.line_reader.proofs.ExitLaws.{passed_on}
use Rattle.line_reader.proofs.TakeLaws.{there_fitting, instr_stop, instr_told}
use Rattle.line_reader.proofs.take_instr.Goals as goal

pub returns-in_err-line : goal.returns-in_err-line
returns-in_err-line c =
    passed_on (InstrTold c.args.forms c.args.filled c.args.text.now c.args.from) c.from_residual.ensures.1
    (instr_stop c.args.text.now c.args.from c.read_line.ensures c.in_err-line.was c.args.forms c.args.filled)

pub instr_line-judged-requires : goal.instr_line-judged-requires
instr_line-judged-requires c = there_fitting c.args.text.now c.args.from c.read_line.ensures c.in_ok-line.was

pub returns : goal.returns
returns c =
    subst (InstrTold c.args.forms c.args.filled c.args.text.now c.args.from) (sym c.settle.ensures)
    (instr_told c.args.text.now c.args.from c.requires c.read_line.ensures c.in_ok-line.was c.args.forms c.args.filled
    c.instr_line-judged.result c.instr_line-judged.ensures)
