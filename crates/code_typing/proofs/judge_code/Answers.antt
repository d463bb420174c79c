use native.Mathlib.Omega.{arith}
use Rattle.code_typing.proofs.CodeLaws.{slots_whole, code_end, code_stop, code_next}
use Rattle.code_typing.proofs.judge_code.Goals as goal

pub of-requires : goal.of-requires
of-requires c = slots_whole c.loop-j.invariant.only c.requires.0

pub judge_line-requires : goal.judge_line-requires
judge_line-requires c = omega (arith, c.requires.1, c.loop-j-test.true)

pub returns-in-Err : goal.returns-in-Err
returns-in-Err c = code_stop c.loop-j.invariant c.loop-j-test.true c.wide.ensures c.of.ensures c.judge_line.ensures c.in-Err.is

pub loop-j-preserved : goal.loop-j-preserved
loop-j-preserved c =
    code_next c.loop-j.invariant c.loop-j-test.true c.wide.ensures c.of.ensures c.judge_line.ensures c.requires.1 c.requires.0.size c.in-Ok.is c.put_slot_row.ensures

pub returns : goal.returns
returns c = code_end c.loop-j.invariant c.loop-j-test.false
