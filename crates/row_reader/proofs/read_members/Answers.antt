use native.Mathlib.Omega.{arith}
use mathlib.Core.Path.{refl}
use Rattle.reader_loop.proofs.LoopLaws.{Going-start, Going-next, going_stop, going_end}
use Rattle.row_reader.proofs.MembersLaws.{member_turn}
use Rattle.row_reader.proofs.read_members.Goals as goal

pub loop-j-init : goal.loop-j-init
loop-j-init c = Going-start c.requires.0 refl

pub returns-in_err-here : goal.returns-in_err-here
returns-in_err-here c =
    going_stop c.loop-j.invariant c.loop-j-test.true c.in_err-here.was (member_turn c.requires.1 c.loop-j.invariant c.loop-j-test.true c.read_member.ensures) c.from_residual.ensures.1

pub loop-j-preserved : goal.loop-j-preserved
loop-j-preserved c =
    Going-next c.loop-j.invariant c.loop-j-test.true c.in_ok-here.was (member_turn c.requires.1 c.loop-j.invariant c.loop-j-test.true c.read_member.ensures)

pub returns : goal.returns
returns c = going_end c.loop-j.invariant (omega arith)
