-- One number more of a line's numbers. Assumes nothing.
use Prim.Native.Nat.{ℕ, ◌+◌, ◌-◌}
use native.Mathlib.Omega.{arith}
use mathlib.Core.Path.{◌≡◌, sym, ap, ◌∙◌}
use lib.ListN.{length, drop, set, replicate}
use lib.Seq.{drop-drop}
use Rattle.std.proofs.lemmas.List.{drop-set-lt, drop-replicate, length-take-le}
use Rattle.lexer.specs.declared.numbers.Numbers.{Numbers}
use Rattle.lexer.specs.Told.{list_of, Rested}

-- as many numbers as are counted
pub length_list : (ns : Numbers) → length ns.values ≡ 9 → length (list_of ns) ≡ ns.count
unfolding list_of
length_list ns e = length-take-le ns.count ns.values (omega (arith, ns.few))

-- where the numbers that are not there were 0, those behind one number more are
pub rested : (ns more : Numbers) (v : ℕ) → more.count ≡ ns.count + 1 → more.values ≡ set ns.values ns.count v → Rested ns → Rested more
rested ns more v e f r =
    rw (e, f, drop-set-lt (ns.count + 1) ns.values ns.count v (omega arith))
    (sym (drop-drop 1 ns.count ns.values) ∙ ap (drop 1) r ∙ drop-replicate 1 (9 - ns.count) 0
    ∙ ap (λ (n : ℕ). replicate n 0) (let z : 9 - ns.count - 1 ≡ 9 - (ns.count + 1) = omega arith in z))
