use mathlib.Core.Path.{refl}
use Rattle.table.specs.View.{sheet_in}
use Rattle.bound.proofs.CutLaws.{Filling-start, Filling-next, filling_end}
use Rattle.bound.proofs.amounts.fill_amounts.Goals as goal

pub loop-name-init : goal.loop-name-init
loop-name-init c = Filling-start (sheet_in c.args.sheet.now) c.requires.0 c.requires.1

pub loop-name-preserved : goal.loop-name-preserved
loop-name-preserved c = Filling-next c.loop-name.invariant c.loop-name-test.true c.name_amount-amount.ensures refl

pub returns : goal.returns
returns c = filling_end c.loop-name.invariant c.loop-name-test.false
