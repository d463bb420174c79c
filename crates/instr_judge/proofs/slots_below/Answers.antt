use Rattle.std.proofs.Common.{rules, ◌≡◌, drop, []}
use Prim.Native.Nat.{◌-◌}
use lib.ListN.{length, take, length-drop}
use native.Mathlib.Omega.{arith}
use Rattle.std.proofs.lemmas.List.{take_all}
use mathlib.Core.Path.{ap, ◌∙◌}
use Rattle.sheet_rules.specs.FormLines.{all_below}
use Rattle.lexer.specs.Told.{list_of}
use Rattle.instr_judge.proofs.InstrLaws.{below_all, none_below}
use Rattle.instr_judge.proofs.slots_below.Goals as goal

pub returns-in_default : goal.returns-in_default
unfolding list_of
returns-in_default c =
    let none : list_of c.args.numbers ≡ [] = search rules in
    none_below c.args.filled (list_of c.args.numbers) none

pub returns : goal.returns
returns c =
    let xs = c.as_slice.result.now in
    let rest : take (length xs - 1) (drop 1 xs) ≡ drop 1 xs = take_all (length xs - 1) (drop 1 xs) (omega (arith, length-drop 1 xs)) in
    below_all c.args.filled _ c.all_below.result c.all_below.ensures
    ∙ ap (all_below c.args.filled) (rest ∙ ap (drop 1) c.as_slice.ensures)
