use native.Mathlib.Omega.{arith}
use mathlib.Core.Path.{refl}
use Rattle.reader_loop.proofs.LoopLaws.{Going-start, Going-next, going_stop, going_end}
use Rattle.row_reader.proofs.RowsLaws.{row_turn}
use Rattle.row_reader.proofs.read_rows.Goals as goal

pub loop-i-init : goal.loop-i-init
loop-i-init c = Going-start c.requires.0 refl

pub returns-in_err-here : goal.returns-in_err-here
returns-in_err-here c =
    going_stop c.loop-i.invariant c.loop-i-test.true c.in_err-here.was (row_turn c.loop-i.invariant c.requires.1 c.loop-i-test.true c.read_row.ensures) c.from_residual.ensures.1

pub loop-i-preserved : goal.loop-i-preserved
loop-i-preserved c =
    Going-next c.loop-i.invariant c.loop-i-test.true c.in_ok-here.was (row_turn c.loop-i.invariant c.requires.1 c.loop-i-test.true c.read_row.ensures)

pub returns : goal.returns
returns c = going_end c.loop-i.invariant (omega arith)
