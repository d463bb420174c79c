use mathlib.Core.Path.{sym, ap, ◌∙◌}
use mathlib.Core.List.{List}
use native.Mathlib.Omega.{arith}
use borrow.Author.Tests.{lt-ltb, le-ltb}
use Prim.Native.Nat.{ℕ, ◌+◌}
use lib.ListN.{length, drop}
use Rattle.std.proofs.lemmas.List.{length-set}
use Rattle.lexer.specs.declared.Part.{Part}
use Rattle.lexer.specs.Scan.{comma_limit, numbers_scan}
use Rattle.lexer.specs.Told.{list_of}
use Rattle.lexer.proofs.NumbersLaws.{length_list, rested}
use Rattle.lexer.proofs.ScanSteps.{numbers_turn}
use Rattle.lexer.proofs.read_numbers.Goals.{in-More, in-Comma}
use Rattle.lexer.proofs.read_numbers.Goals as goal

pub returns-in-End-clause-rest : goal.returns-in-End-clause-rest
returns-in-End-clause-rest c = rested c.loop-at.numbers c.with.result _ c.with.ensures.count c.with.ensures.values c.loop-at.invariant.3

pub returns-in_default-clause-read : goal.returns-in_default-clause-read
returns-in_default-clause-read c =
    let l = c.loop-at in
    sym (simp (le-ltb (length (list_of l.numbers)) comma_limit (omega (arith, length_list l.numbers l.invariant.2, c.if-numbers-lt8.false))) at
    (numbers_turn c.args.text.now (list_of l.numbers) l.part l.at c.loop-at-test.true _ (sym c.byte_turn.ensures ∙ c.in-Comma.is)))
    ∙ l.invariant.0

pub loop-at-preserved : goal.loop-at-preserved
loop-at-preserved c =
    let l = c.loop-at in
    let turn = numbers_turn c.args.text.now (list_of l.numbers) l.part l.at c.loop-at-test.true in
    elim c.match-byte_turn.branch [
      | in-More w ↦ rw (w.part-is, w.numbers-is)
          (sym (turn _ (sym w.in-More.ensures)) ∙ l.invariant.0, l.invariant.1, l.invariant.2, l.invariant.3)
      | in-Comma w ↦ rw (w.part-is, w.numbers-is) (
        ap (λ (ns : List ℕ). numbers_scan ns Part.Empty (l.at + 1) (drop (l.at + 1) c.args.text.now)) w.with-numbers.ensures.list
            ∙ sym (simp (lt-ltb (length (list_of l.numbers)) comma_limit (omega (arith, length_list l.numbers l.invariant.2, w.if-numbers-lt8.true))) at
            (turn _ (sym w.in-Comma.ensures)))
            ∙ l.invariant.0,
        omega (arith, w.with-numbers.ensures.count, w.if-numbers-lt8.true),
        ap length w.with-numbers.ensures.values ∙ length-set l.numbers.values l.numbers.count w.in-Comma.value ∙ l.invariant.2,
        rested l.numbers w.with-numbers.result w.in-Comma.value w.with-numbers.ensures.count w.with-numbers.ensures.values l.invariant.3,
      )
    ]
