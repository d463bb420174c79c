use native.Mathlib.Omega.{arith}
use lib.ListN.{length}
use mathlib.Core.Path.{sym, ap, ◌∙◌}
use Rattle.sheet_rules.specs.Sheet.{Row}
use Rattle.table.proofs.RowLaws.{members-length}
use Rattle.table.proofs.SheetLaws.{row_there, row_missing, sheet_rows_ready}
use Rattle.table.proofs.rows.members_at.Goals as goal

pub returns-then-row_count-a : goal.returns-then-row_count-a
returns-then-row_count-a c = (sym (ap (λ (a : Row). length a.members) (row_missing c.args.work.now c.args.a (omega (arith, c.if-row_count-a.true, c.row_count.ensures)))), omega arith)

pub member_count-requires : goal.member_count-requires
member_count-requires c = (omega (arith, c.if-row_count-a.false, c.row_count.ensures, (sheet_rows_ready c.args.work.now c.requires).rows), c.requires.size)

pub returns : goal.returns
returns c = (
  c.member_count.ensures ∙ sym (ap (λ (a : Row). length a.members) (row_there c.args.work.now c.args.a (omega (arith, c.if-row_count-a.false, c.row_count.ensures))) ∙ members-length c.args.work.now c.args.a),
  omega (arith, c.member_count.ensures, (sheet_rows_ready c.args.work.now c.requires).few c.args.a (omega (arith, c.if-row_count-a.false, c.row_count.ensures))),
)
