use native.Mathlib.Omega.{arith}
use mathlib.Core.Path.{sym, ◌∙◌}
use Rattle.table.proofs.RowLaws.{rows-length}
use Rattle.table.proofs.sheet.Sheet.row_count.Goals as goal

pub returns : goal.returns
returns c =
    rw (← c.self.view_is)
    (c.row_count.ensures ∙ sym (rows-length c.self.inside.work.now), omega (arith, c.row_count.ensures, rows-length c.self.inside.work.now, c.self.invariant.sheet.few_rows))
