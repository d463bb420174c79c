use native.Mathlib.Omega.{arith}
use Rattle.slot_notes.proofs.NoteLaws.{Room-kept}
use Rattle.slot_notes.proofs.FormNoteLaws.{parts_start, parts_next, form_small, part_small, parts_end}
use Rattle.slot_notes.proofs.note_parts.Goals as goal

pub loop-j-init : goal.loop-j-init
loop-j-init c =
    (omega arith, parts_start c.args.at c.args.work.now c.args.f)

pub note_part-requires : goal.note_part-requires
note_part-requires c = (
  Room-kept c.requires.0 c.loop-j.invariant.1.only,
  form_small c.requires.1 c.requires.2,
  part_small c.requires.1 c.requires.2 c.part_count-count.ensures c.loop-j-test.true,
)

pub loop-j-preserved : goal.loop-j-preserved
loop-j-preserved c = (
  omega (arith, c.loop-j-test.true),
  parts_next c.args.f c.loop-j.j c.requires.0 c.loop-j.invariant.1 c.note_part.ensures,
)

pub returns : goal.returns
returns c =
    parts_end c.requires.1 c.requires.2 c.part_count-count.ensures c.loop-j.invariant c.loop-j-test.false
