use Rattle.sheet_rules.specs.Keys.{bytes}
use Rattle.authority_rules.specs.Printed.{verdict_word, line_word}
use Rattle.printer.proofs.LineLaws.{verdict_put}
use Rattle.printer.proofs.lines.put_verdict.Goals as goal

pub returns : goal.returns
unfolding verdict_word line_word bytes
returns c =
    verdict_put c.args.refusal c.args.line c.requires c.put_line-a.ensures c.put_line.ensures
