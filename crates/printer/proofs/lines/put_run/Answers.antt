use Rattle.sheet_rules.specs.Keys.{bytes}
use Rattle.authority_rules.specs.Printed.{outcome_word, steps_word, value_word}
use Rattle.printer.proofs.LineLaws.{run_put}
use Rattle.printer.proofs.lines.put_run.Goals as goal

pub returns : goal.returns
unfolding outcome_word steps_word value_word bytes
returns c =
    run_put c.args.answer c.requires c.outcome_number.ensures c.put_line-a.ensures c.put_line-b.ensures c.put_line.ensures
