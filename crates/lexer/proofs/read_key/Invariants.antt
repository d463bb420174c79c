use Prim.Native.Nat.{◌≤◌}
use mathlib.Core.Path.{◌≡◌}
use lib.ListN.{drop}
use Rattle.lexer.specs.Scan.{key_scan}
use Rattle.lexer.proofs.read_key.Given as goal

abbrev pub invariant-loop-at : goal.invariant-loop-at
invariant-loop-at l =
    (key_scan l.code l.at (drop l.at l.text) ≡ key_scan 0 l.fn.from (drop l.fn.from l.text)) × (l.code ≤ 10460353203)
