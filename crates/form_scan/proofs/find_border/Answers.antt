use Rattle.std.proofs.Common.{ap, sym, ◌∙◌, ◌+◌, arith, length-drop, rules, length}
use Rattle.form_scan.specs.Borders.{border_place}
use Rattle.form_scan.proofs.BorderLaws.{border_none, line_left, line_inside, found, passed_border, passed_line}
use Rattle.form_scan.proofs.find_border.Goals.{then-is_border+else-left-eq0, else-is_border}
use Rattle.form_scan.proofs.find_border.Goals as goal

pub returns-then-left-eq0 : goal.returns-then-left-eq0
returns-then-left-eq0 c =
    sym (found (λ f a r f' k. search rules) c.args.text.now c.loop-line.at c.in-Some.line.now _ c.loop-line.invariant.rest c.in-Some.ensures.steps c.is_border.ensures c.if-is_border.true c.if-left-eq0.true)
    ∙ c.loop-line.invariant.place

pub loop-line-preserved : goal.loop-line-preserved
loop-line-preserved c =
    record {
      within = line_inside (λ f a r f' k. search rules) c.args.text.now c.loop-line.at c.in-Some.line.now _ c.loop-line.invariant.rest c.in-Some.ensures.steps;
      rest = line_left (λ f a r f' k. search rules) c.args.text.now c.loop-line.at c.in-Some.line.now _ c.loop-line.invariant.rest c.in-Some.ensures.steps;
      place =
          elim c.if-is_border.branch [
            | then-is_border+else-left-eq0 w ↦ ap (border_place c.args.text.now (c.loop-line.at + length c.in-Some.line.now)) w.left-is
                ∙ sym (passed_border (λ f a r f' k. search rules) c.args.text.now c.loop-line.at c.in-Some.line.now _ c.loop-line.invariant.rest c.in-Some.ensures.steps c.is_border.ensures w.if-is_border.true w.if-left-eq0.false)
                ∙ c.loop-line.invariant.place
            | else-is_border w ↦ ap (border_place c.args.text.now (c.loop-line.at + length c.in-Some.line.now)) w.left-is
                ∙ sym (passed_line (λ f a r f' k. search rules) c.args.text.now c.loop-line.at c.in-Some.line.now _ c.loop-line.invariant.rest c.in-Some.ensures.steps c.is_border.ensures w.if-is_border.false c.loop-line.left)
                ∙ c.loop-line.invariant.place
          ];
    }

pub returns : goal.returns
returns c =
    let s = c.in-None.ensures.steps in
    sym (border_none c.args.text.now c.loop-line.at c.loop-line.left (omega (arith, s.0, ap length c.loop-line.invariant.rest, length-drop c.loop-line.at c.args.text.now)))
    ∙ c.loop-line.invariant.place
