use native.Mathlib.Omega.{arith}
use mathlib.Core.Path.{refl}
use Rattle.reader_loop.proofs.LoopLaws.{Going-start, Going-next, going_stop, going_end}
use Rattle.instr_reader.proofs.InstrsLaws.{instr_turn, instrs_read}
use Rattle.instr_reader.proofs.read_instrs.Goals as goal

pub loop-j-init : goal.loop-j-init
loop-j-init c = Going-start c.requires.0 (omega arith)

pub returns-in_err-here : goal.returns-in_err-here
returns-in_err-here c =
    instrs_read c.args.forms c.args.filled c.args.count
    (going_stop c.loop-j.invariant c.loop-j-test.true c.in_err-here.was (instr_turn c.args.forms c.args.filled c.loop-j.invariant c.requires.1 c.loop-j-test.true refl c.read_instr.ensures) c.from_residual.ensures.1)

pub loop-j-preserved : goal.loop-j-preserved
loop-j-preserved c =
    Going-next c.loop-j.invariant c.loop-j-test.true c.in_ok-here.was (instr_turn c.args.forms c.args.filled c.loop-j.invariant c.requires.1 c.loop-j-test.true refl c.read_instr.ensures)

pub returns : goal.returns
returns c =
    instrs_read c.args.forms c.args.filled c.args.count (going_end c.loop-j.invariant (omega arith))
