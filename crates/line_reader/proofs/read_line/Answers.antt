use mathlib.Core.Path.{sym, ap, ◌∙◌}
use Rattle.lexer.specs.Told.{keyed_told}
use Rattle.line_reader.proofs.TakeLaws.{was_torn, was_there}
use Rattle.line_reader.proofs.read_line.Goals as goal

pub returns-in_default : goal.returns-in_default
returns-in_default c = was_torn c.args.text.now c.args.from (sym c.read_line.ensures.read ∙ ap keyed_told c.in_default.is)

pub returns : goal.returns
returns c = was_there c.args.text.now c.args.from (sym c.read_line.ensures.read ∙ ap keyed_told c.in-Some.is) c.next_line.ensures
