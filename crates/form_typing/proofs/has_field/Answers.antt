use native.Mathlib.Omega.{arith}
use Prim.Native.Nat.{◌<◌}
use lib.ListN.{length}
use mathlib.Core.Path.{sym, ◌∙◌}
use Rattle.type_rules.specs.SlotRows.{members_at}
use Rattle.table.specs.View.{sheet_in}
use Rattle.form_typing.proofs.HeadLaws.{field_next, field_hit, field_end}
use Rattle.form_typing.proofs.has_field.Goals as goal

pub returns-then-is_field : goal.returns-then-is_field
returns-then-is_field c =
    let k : c.loop-j.j < length (members_at (sheet_in c.args.sheet.now) c.args.a) = omega (arith, c.loop-j-test.true, c.members_at-j-end.ensures.0) in
    field_hit (members_at (sheet_in c.args.sheet.now) c.args.a) c.loop-j.j c.loop-j.invariant k c.member.ensures (sym c.is_field.ensures ∙ c.if-is_field.true)

pub loop-j-preserved : goal.loop-j-preserved
loop-j-preserved c =
    let k : c.loop-j.j < length (members_at (sheet_in c.args.sheet.now) c.args.a) = omega (arith, c.loop-j-test.true, c.members_at-j-end.ensures.0) in
    field_next (members_at (sheet_in c.args.sheet.now) c.args.a) c.loop-j.j c.loop-j.invariant k c.member.ensures (sym c.is_field.ensures ∙ c.if-is_field.false)

pub returns : goal.returns
returns c = field_end (members_at (sheet_in c.args.sheet.now) c.args.a) c.loop-j.j c.loop-j.invariant (omega (arith, c.loop-j-test.false, c.members_at-j-end.ensures.0))
