use native.Mathlib.Omega.{arith}
use Rattle.machine.proofs.MoveLaws.{Tried-Moved, Moved-end, spent_instr, spent_return}
use Rattle.machine.proofs.advance.Goals as goal

pub returns-then-tally-most : goal.returns-then-tally-most
returns-then-tally-most c =
    spent_instr c.args.work.now c.args.top c.args.tally c.args.most c.if-top.true c.if-tally-most.true

pub returns-then-top : goal.returns-then-top
returns-then-top c =
    Tried-Moved c.args.work.now c.args.top c.args.tally c.args.most c.take_instr.new.work c.take_instr.result c.take_instr.ensures (omega (arith, c.requires.1, c.if-tally-most.false))

pub returns-then-tally-le1 : goal.returns-then-tally-le1
returns-then-tally-le1 c =
    Moved-end c.args.work.now c.args.top c.args.tally c.args.most c.if-top.false c.if-tally-le1.true

pub returns-then-tally-most-2 : goal.returns-then-tally-most-2
returns-then-tally-most-2 c =
    spent_return c.args.work.now c.args.top c.args.tally c.args.most c.if-top.false c.if-tally-le1.false c.if-tally-most-2.true
