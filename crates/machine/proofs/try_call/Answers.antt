use mathlib.Core.Path.{refl}
use Rattle.machine.proofs.MoveLaws.{call_stopped}
use Rattle.machine.proofs.try_call.Goals as goal

pub returns-then-tally-ge-STACK : goal.returns-then-tally-ge-STACK
returns-then-tally-ge-STACK c = (call_stopped c.args.work.now c.args.top c.args.tally c.args.v c.args.n c.args.a c.requires.0 c.if-tally-ge-STACK.true, refl)
