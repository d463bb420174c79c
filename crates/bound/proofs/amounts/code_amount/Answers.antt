use native.Mathlib.Omega.{arith}
use Rattle.bound.proofs.AmountLaws.{Summing-next, summing_end}
use Rattle.bound.proofs.amounts.code_amount.Goals as goal

pub loop-j-preserved : goal.loop-j-preserved
loop-j-preserved c =
    Summing-next c.loop-j.invariant c.loop-j-test.true c.wide.ensures c.called_amount-added.ensures (omega (arith, c.called_amount-added.type_inv))

pub returns : goal.returns
returns c = (summing_end c.loop-j.invariant c.loop-j-test.false, omega (arith, c.loop-j.invariant.few, c.loop-j.invariant.within, c.requires))
