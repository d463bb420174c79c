use native.Mathlib.Omega.{arith}
use mathlib.Core.Path.{refl}
use Rattle.reader_loop.proofs.LoopLaws.{Going-start, Going-next, going_stop, going_end}
use Rattle.number_reader.proofs.ListLaws.{number_turn}
use Rattle.number_reader.proofs.read_numbers.Goals as goal

pub loop-j-init : goal.loop-j-init
loop-j-init c = Going-start c.requires.0 refl

pub returns-in_err-here : goal.returns-in_err-here
returns-in_err-here c =
    going_stop c.loop-j.invariant c.loop-j-test.true c.in_err-here.was (number_turn c.args.list c.loop-j.invariant c.loop-j-test.true c.read_number.ensures)
    c.from_residual.ensures.1

pub loop-j-preserved : goal.loop-j-preserved
loop-j-preserved c =
    Going-next c.loop-j.invariant c.loop-j-test.true c.in_ok-here.was (number_turn c.args.list c.loop-j.invariant c.loop-j-test.true c.read_number.ensures)

pub returns : goal.returns
returns c = going_end c.loop-j.invariant (omega arith)
