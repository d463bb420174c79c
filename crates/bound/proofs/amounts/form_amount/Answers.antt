use mathlib.Core.Path.{refl, ◌∙◌}
use Rattle.bound.proofs.MembersLaws.{part_small}
use Rattle.bound.proofs.PassedLaws.{form_gone, form_other, form_this}
use Rattle.bound.proofs.amounts.form_amount.Goals.{then-count-j-via-then-count-j, then-count-j-via-else-count-j+then-wide-name}
use Rattle.bound.proofs.amounts.form_amount.Goals as goal

pub returns-then-count-j : goal.returns-then-count-j
returns-then-count-j c = elim c.then-count-j.branch [
  | then-count-j-via-then-count-j w ↦
      form_gone c.members_at-count.ensures.2 c.requires.0 (c.wide-row.ensures ∙ c.form_row.ensures) c.members_at-count.ensures.0 c.args.name c.args.next.now c.wide-j.ensures c.requires.1 c.args.amounts.now w.if-count-j.true
  | then-count-j-via-else-count-j+then-wide-name w ↦
      form_other c.members_at-count.ensures.2 c.requires.0 (c.wide-row.ensures ∙ c.form_row.ensures) c.members_at-count.ensures.0 c.args.name c.args.next.now c.wide-j.ensures c.requires.1 c.args.amounts.now
      w.if-count-j.false w.member_name.ensures w.wide.ensures w.if-wide-name.true
]

pub part_amount-requires : goal.part_amount-requires
part_amount-requires c =
    part_small c.members_at-count.ensures.2 c.requires.0 (c.wide-row.ensures ∙ c.form_row.ensures) c.members_at-count.ensures.0 c.if-count-j.false c.part.result c.part.ensures

pub returns : goal.returns
returns c =
    form_this c.members_at-count.ensures.2 c.requires.0 (c.wide-row.ensures ∙ c.form_row.ensures) c.members_at-count.ensures.0 c.args.name c.args.next.now c.wide-j.ensures c.requires.1 c.args.amounts.now
    c.if-count-j.false c.member_name.ensures c.wide.ensures c.if-wide-name.false refl c.part.result c.part.ensures c.part_amount.ensures
