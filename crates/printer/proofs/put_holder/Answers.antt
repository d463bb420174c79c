use Rattle.sheet_rules.specs.Keys.{bytes}
use Rattle.authority_rules.specs.Printed.{holder_word}
use Rattle.printer.proofs.LineLaws.{holder_put}
use Rattle.printer.proofs.put_holder.Goals as goal

pub returns : goal.returns
unfolding holder_word bytes
returns c =
    holder_put c.args.numbers.now c.args.from c.requires.0 c.wide.ensures c.wide-n.ensures c.put_word-a.ensures c.put_decimal-b.ensures c.put_numbers-c.ensures c.put_byte.ensures
