use mathlib.Core.Path.{sym, ap, ◌∙◌}
use Rattle.lexer.specs.Told.{keyed_told}
use Rattle.line_reader.proofs.TakeLaws.{next_untaken, next_told}
use Rattle.line_reader.proofs.is_next.Goals as goal

pub returns-in_default : goal.returns-in_default
returns-in_default c =
    next_untaken c.args.text.now c.args.from.at c.args.wanted (sym c.read_line.ensures.read ∙ ap keyed_told c.in_default.is)

pub returns : goal.returns
returns c =
    next_told c.args.text.now c.args.from.at c.args.wanted c.in-Some.line.numbers (sym c.read_line.ensures.read ∙ ap keyed_told c.in-Some.is) c.same_place.ensures
