use native.Mathlib.Omega.{arith}
use mathlib.Core.Path.{◌∙◌}
use Rattle.std.proofs.lemmas.Result.{err_from_is_err_and}
use Rattle.form_typing.proofs.PartsLaws.{parts_whole, parts_asks, parts_small, parts_end, parts_stop, parts_next}
use Rattle.form_typing.proofs.judge_parts.Goals as goal

pub of-sheet-requires-in-loop-j : goal.of-sheet-requires-in-loop-j
of-sheet-requires-in-loop-j c = parts_whole c.loop-j.invariant c.requires.0

pub member-member-requires : goal.member-member-requires
member-member-requires c =
    parts_asks c.loop-j.invariant c.requires.0 c.of-sheet.ensures (c.wide-row.ensures ∙ c.form_row.ensures) c.members_at-count.ensures.0 c.loop-j-test.true c.of-sheet-in-loop-j.ensures

pub judge_part-requires : goal.judge_part-requires
judge_part-requires c =
    let row_is = c.wide-row.ensures ∙ c.form_row.ensures in (
      parts_whole c.loop-j.invariant c.requires.0,
      parts_small c.loop-j.invariant c.requires.0 c.of-sheet.ensures row_is c.members_at-count.ensures.0 c.requires.1 c.loop-j-test.true c.of-sheet-in-loop-j.ensures c.member-member.ensures c.part-place.result c.part-place.ensures,
      omega (arith, c.loop-j.invariant.lined, c.requires.2, c.loop-j-test.true, c.members_at-count.ensures.1),
    )

pub returns-in_err-line : goal.returns-in_err-line
returns-in_err-line c =
    let p = err_from_is_err_and c.from_residual.result c.from_residual.ensures.1 in
    rw (p.1, p.2) (parts_stop c.loop-j.invariant c.requires.0 c.of-sheet.ensures (c.wide-row.ensures ∙ c.form_row.ensures) c.members_at-count.ensures.0 c.requires.1 c.loop-j-test.true c.of-sheet-in-loop-j.ensures c.member-member.ensures c.part-place.result c.part-place.ensures c.judge_part.ensures c.in_err-line.was)

pub loop-j-preserved : goal.loop-j-preserved
loop-j-preserved c =
    parts_next c.loop-j.invariant c.requires.0 c.of-sheet.ensures (c.wide-row.ensures ∙ c.form_row.ensures) c.members_at-count.ensures.0 c.requires.1 c.loop-j-test.true c.of-sheet-in-loop-j.ensures c.member-member.ensures c.part-place.result c.part-place.ensures c.judge_part.ensures c.in_ok-line.was

pub returns : goal.returns
returns c =
    parts_end c.loop-j.invariant c.requires.0 c.of-sheet.ensures (c.wide-row.ensures ∙ c.form_row.ensures) c.members_at-count.ensures.0 c.loop-j-test.false
