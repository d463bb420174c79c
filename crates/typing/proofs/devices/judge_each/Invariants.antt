use Rattle.typing.proofs.DeviceLaws.{Each}
use Rattle.typing.proofs.devices.judge_each.Given as goal

abbrev pub invariant-loop-d : goal.invariant-loop-d
invariant-loop-d l = Each l.first l.initial.work l.work l.d
