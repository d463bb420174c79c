use Prim.Native.Nat.{ℕ}
use native.Mathlib.Omega.{arith}
use mathlib.Core.Path.{◌≡◌, sym, ap, ◌∙◌}
use mathlib.Core.List.{List}
use lib.ListN.{length}
use Rattle.sheet_rules.specs.Sheet.{Row}
use Rattle.table.specs.View.{sheet_in}
use Rattle.table.proofs.RowLaws.{rows-length}
use Rattle.table.proofs.SheetLaws.{row_there}
use Rattle.table.proofs.sheet.Sheet.kind_at.Goals as goal

pub returns : goal.returns
returns c =
    let w = c.self.inside.work.now in
    let rows : length (sheet_in w).rows ≡ length (sheet_in c.args.self.now).rows = ap (λ (x : List ℕ). length (sheet_in x).rows) c.self.view_is in
    rw (← c.self.view_is)
    (c.row_kind.ensures ∙ sym (ap (λ (r : Row). r.kind) (row_there w c.args.a (omega (arith, c.if-row_count-a.false, c.row_count.ensures.0, rows, rows-length w)))))
