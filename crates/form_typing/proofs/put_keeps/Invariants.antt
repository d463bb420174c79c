use Prim.Native.Nat.{◌≤◌}
use Rattle.form_typing.specs.Told.{KeepsPut}
use Rattle.form_typing.proofs.put_keeps.Given as goal

abbrev pub invariant-loop-k : goal.invariant-loop-k
invariant-loop-k l = KeepsPut l.f l.k l.initial.work l.work × (l.k ≤ l.count)
