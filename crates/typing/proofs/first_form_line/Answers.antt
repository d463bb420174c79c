use native.Mathlib.Omega.{arith}
use Rattle.typing.proofs.SheetLaws.{rows_next, rows_end}
use Rattle.typing.proofs.first_form_line.Goals as goal

pub loop-a-preserved : goal.loop-a-preserved
loop-a-preserved c =
    rows_next c.loop-a.invariant (omega (arith, c.loop-a-test.true, c.row_count-count.ensures.0)) c.members_at.ensures.0 c.members_at.ensures.1

pub returns : goal.returns
returns c = (
  rows_end c.loop-a.invariant (omega (arith, c.loop-a-test.false, c.row_count-count.ensures.0)),
  omega (arith, c.loop-a.invariant.lined, c.loop-a.invariant.within, c.row_count-count.ensures),
)
