use mathlib.Core.List.{[]}
use Rattle.line_writer.proofs.PutLaws.{line_put, none_put}
use Rattle.line_writer.proofs.put_line.Goals as goal

pub returns : goal.returns
returns c =
    line_put c.args.n [] c.put_word-a.ensures c.put_decimal-b.ensures none_put c.put_byte.ensures c.requires
