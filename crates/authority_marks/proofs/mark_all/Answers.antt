use native.Mathlib.Omega.{arith}
use Rattle.authority_marks.proofs.MarkLaws.{marking_start, marking_next}
use Rattle.authority_marks.proofs.mark_all.Goals as goal

pub loop-i-init : goal.loop-i-init
loop-i-init c = (omega arith, marking_start c.args.work.now c.args.at)

pub loop-i-preserved : goal.loop-i-preserved
loop-i-preserved c = (
  omega (arith, c.loop-i-test.true),
  marking_next c.args.work.now c.args.at c.loop-i.work c.loop-i.i c.wide-v.result c.loop-i.invariant.1 (omega (arith, c.requires.0, c.loop-i-test.true)) c.wide-v.ensures c.mark.new.work c.mark.ensures,
)
