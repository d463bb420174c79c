use native.Mathlib.Omega.{arith}
use mathlib.Core.Path.{◌≡◌, ◌∙◌}
use Rattle.sheet_rules.specs.Sheet.{row_at}
use Rattle.table.specs.View.{sheet_in}
use Rattle.authority.proofs.OwnLaws.{Counting-start, Counting-next, Counting-end}
use Rattle.authority.proofs.own.field_count.Goals as goal

pub loop-j-init : goal.loop-j-init
loop-j-init c = (omega arith, Counting-start (row_at (sheet_in c.args.sheet.now).rows c.wide-row.result).members)

pub member-requires : goal.member-requires
member-requires c = omega (arith, c.loop-j-test.true, c.members_at-count.ensures.0)

pub fields_with-fields-requires : goal.fields_with-fields-requires
fields_with-fields-requires c = omega (arith, c.loop-j.invariant.1.few, c.loop-j-test.true, c.members_at-count.ensures.1)

pub loop-j-preserved : goal.loop-j-preserved
loop-j-preserved c = (
  omega (arith, c.loop-j-test.true),
  Counting-next (row_at (sheet_in c.args.sheet.now).rows c.wide-row.result).members c.loop-j.fields c.loop-j.j (omega (arith, c.loop-j-test.true, c.members_at-count.ensures.0)) c.loop-j.invariant.1 c.member.result c.member.ensures c.fields_with-fields.result c.fields_with-fields.ensures,
)

pub returns : goal.returns
returns c =
    let end : c.loop-j.j ≡ c.members_at-count.result = omega (arith, c.loop-j.invariant.0, c.loop-j-test.false) in
    Counting-end (sheet_in c.args.sheet.now) c.args.form c.wide-row.result (c.wide-row.ensures ∙ c.form_row.ensures) c.loop-j.fields c.loop-j.j c.loop-j.invariant.1 (end ∙ c.members_at-count.ensures.0) (omega (arith, c.members_at-count.ensures.1))
