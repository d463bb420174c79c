use native.Mathlib.Omega.{arith}
use Rattle.authority_marks.proofs.MarkLaws.{Noting-start, Noting-next}
use Rattle.authority_marks.proofs.mark_noted.Goals as goal

pub loop-i-init : goal.loop-i-init
loop-i-init c = (omega arith, Noting-start c.args.work.now c.args.at c.args.notes)

pub loop-i-preserved : goal.loop-i-preserved
loop-i-preserved c = (
  omega (arith, c.loop-i-test.true),
  Noting-next c.loop-i.invariant.1 (omega (arith, c.requires.0, c.loop-i-test.true)) c.requires.2 c.mark_if_noted.ensures,
)
