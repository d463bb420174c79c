use Rattle.std.proofs.lemmas.Result.{err_from_is_err_and}
use mathlib.Core.Path.{◌∙◌}
use native.Mathlib.Omega.{arith}
use Rattle.table.specs.Told.{part_told}
use Rattle.bound.specs.Told.{part_calls}
use Rattle.bound.proofs.ItemsLaws.{items_end, items_stop, items_next}
use Rattle.bound.proofs.MembersLaws.{part_small}
use Rattle.bound.proofs.CallsLaws.{parts_end, parts_next, part_few}
use Rattle.bound.proofs.calls.judge_parts.Goals as goal

pub judge_part-requires : goal.judge_part-requires
judge_part-requires c = (
  part_small c.members_at-j-end.ensures.2 c.requires.0 (c.wide-row.ensures ∙ c.form_row.ensures) c.members_at-j-end.ensures.0 c.loop-j-test.true c.part-place.result c.part-place.ensures,
  omega (arith, c.loop-j.invariant.lined, c.requires.1, c.loop-j-test.true, c.members_at-j-end.ensures.1),
)

pub returns-in_err-line : goal.returns-in_err-line
returns-in_err-line c =
    let p = err_from_is_err_and c.from_residual.result c.from_residual.ensures.1 in
    rw (p.1, p.2) (items_stop c.loop-j.invariant (part_calls c.member-member.result (part_told c.args.sheet.now c.part-place.result))
    (parts_next c.members_at-j-end.ensures.2 c.requires.0 (c.wide-row.ensures ∙ c.form_row.ensures) c.members_at-j-end.ensures.0 c.loop-j.j c.loop-j-test.true c.member-member.ensures c.part-place.result c.part-place.ensures)
    c.judge_part.ensures c.in_err-line.was)

pub loop-j-preserved : goal.loop-j-preserved
loop-j-preserved c =
    let row_is = c.wide-row.ensures ∙ c.form_row.ensures in items_next c.loop-j.invariant (part_calls c.member-member.result (part_told c.args.sheet.now c.part-place.result))
    (parts_next c.members_at-j-end.ensures.2 c.requires.0 row_is c.members_at-j-end.ensures.0 c.loop-j.j c.loop-j-test.true c.member-member.ensures c.part-place.result c.part-place.ensures)
    c.judge_part.ensures
    (part_few c.args.sheet.now c.member-member.result (part_small c.members_at-j-end.ensures.2 c.requires.0 row_is c.members_at-j-end.ensures.0 c.loop-j-test.true c.part-place.result c.part-place.ensures)) c.in_ok-line.was

pub returns : goal.returns
returns c =
    items_end c.loop-j.invariant (parts_end c.members_at-j-end.ensures.2 c.requires.0 (c.wide-row.ensures ∙ c.form_row.ensures) c.members_at-j-end.ensures.0 c.loop-j.j c.loop-j-test.false)
