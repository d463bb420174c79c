use Prim.Native.Nat.{◌≤◌}
use Rattle.authority.specs.Every.{EntriesWritten}
use Rattle.authority.proofs.EveryLaws.{resources}
use Rattle.authority.proofs.every.write_every.Given as goal

abbrev pub invariant-loop-b : goal.invariant-loop-b
invariant-loop-b l = (l.b ≤ l.n) × EntriesWritten l.initial.work l.top l.tally (resources l.initial.work l.top l.tally l.b) l.work l.initial.at l.initial.res l.res l.at
