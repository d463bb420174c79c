use Prim.Native.Nat.{◌*◌, ◌≤◌}
use lib.ListN.{take, drop}
use Rattle.sheet_rules.specs.Decimals.{further}
use Rattle.line_writer.specs.Put.{Put}
use Rattle.line_writer.proofs.put_numbers.Given as goal

abbrev pub invariant-loop-i : goal.invariant-loop-i
invariant-loop-i l = (l.i ≤ l.n) × Put (11 * l.i) l.at (further (take l.i (drop l.from l.numbers))) l.initial.out l.out l.next
