use Prim.Native.Nat.{◌+◌}
use mathlib.Core.Path.{◌≡◌, ap, ◌∙◌}
use Rattle.std.specs.declared.result.Result.TheVariants.{Ok}
use mathlib.Core.Bool.{not}
use mathlib.Core.Path.{refl}
use mathlib.Core.List.{[], ◌∷◌}
use native.Mathlib.Omega.{arith}
use borrow.Author.Tests.{not-true, not-false}
use Rattle.sheet_rules.specs.declared.Reason.TheVariants.{CircularCall}
use Rattle.type_rules.specs.Typing.{unless}
use Rattle.code_typing.proofs.WalkLaws.{line_good, line_bad}
use Rattle.bound.proofs.ItemsLaws.{items_end, items_stop, items_next}
use Rattle.bound.proofs.CallsLaws.{code_end, code_next}
use Rattle.bound.proofs.calls.judge_code.Goals as goal

pub returns-then-not-calls_below : goal.returns-then-not-calls_below
returns-then-not-calls_below c =
    items_stop c.loop-j.invariant (unless c.calls_below.result CircularCall ∷ [])
    (code_next c.args.sheet.now c.args.name c.args.start c.args.count c.loop-j.j c.loop-j-test.true c.wide.ensures c.calls_below.ensures)
    (line_bad (c.args.first + c.loop-j.j) CircularCall c.calls_below.result (not-true _ (ap not c.if-not-calls_below.true))) refl

pub loop-j-preserved : goal.loop-j-preserved
loop-j-preserved c =
    let next : c.args.first + c.loop-j.j + 1 ≡ c.args.first + (c.loop-j.j + 1) = omega arith in
    items_next c.loop-j.invariant (unless c.calls_below.result CircularCall ∷ [])
    (code_next c.args.sheet.now c.args.name c.args.start c.args.count c.loop-j.j c.loop-j-test.true c.wide.ensures c.calls_below.ensures)
    (line_good (c.args.first + c.loop-j.j) CircularCall c.calls_below.result (not-false _ (ap not c.if-not-calls_below.false))) (omega arith) (ap Ok next)

pub returns : goal.returns
returns c =
    let at_end : c.args.first + c.args.count ≡ c.args.first + c.loop-j.j = omega arith in
    ap Ok at_end ∙ items_end c.loop-j.invariant (code_end c.args.sheet.now c.args.name c.args.start c.args.count c.loop-j.j c.loop-j-test.false)
