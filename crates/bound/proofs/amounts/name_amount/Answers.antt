use native.Mathlib.Omega.{arith}
use Rattle.bound.proofs.AmountLaws.{comparing_end, Comparing-next}
use Rattle.bound.proofs.amounts.name_amount.Goals as goal

pub loop-f-preserved : goal.loop-f-preserved
loop-f-preserved c =
    Comparing-next c.loop-f.invariant (omega (arith, c.loop-f-test.true, c.form_count-f-end.ensures.0)) c.form_amount.ensures c.max-largest.ensures (omega (arith, c.loop-f-test.true, c.form_count-f-end.ensures.1))

pub returns : goal.returns
returns c = comparing_end c.loop-f.invariant (omega (arith, c.loop-f-test.false, c.form_count-f-end.ensures.0))
