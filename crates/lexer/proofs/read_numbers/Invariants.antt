use Prim.Native.Nat.{◌≤◌}
use mathlib.Core.Path.{◌≡◌}
use mathlib.Core.List.{[]}
use lib.ListN.{length, drop}
use Rattle.lexer.specs.declared.Part.{Part}
use Rattle.lexer.specs.Scan.{numbers_scan}
use Rattle.lexer.specs.Told.{list_of, Rested}
use Rattle.lexer.proofs.read_numbers.Given as goal

abbrev pub invariant-loop-at : goal.invariant-loop-at
invariant-loop-at l =
    (numbers_scan (list_of l.numbers) l.part l.at (drop l.at l.text) ≡ numbers_scan [] Part.Empty l.fn.from (drop l.fn.from l.text))
    × (l.numbers.count ≤ 8)
    × (length l.numbers.values ≡ 9)
    × Rested l.numbers
