use native.Mathlib.Omega.{arith}
use Rattle.authority.proofs.BelowLaws.{below_start, below_stored, below_small, below_slots, below_next}
use Rattle.authority.proofs.mark_below.Goals as goal

pub loop-f-init : goal.loop-f-init
loop-f-init c = (omega arith, below_start c.args.work.now c.args.n c.args.h)

pub mark_frame-holder-requires : goal.mark_frame-holder-requires
mark_frame-holder-requires c = (
  below_stored c.args.work.now c.args.n c.args.h c.args.d c.requires.0 c.requires.1 c.requires.2 c.loop-f.work c.loop-f.f c.loop-f.holder c.loop-f.invariant.1 c.loop-f-test.true,
  below_small c.args.work.now c.args.n c.args.h c.args.d c.requires.0 c.requires.1 c.requires.2 c.loop-f.work c.loop-f.f c.loop-f.holder c.loop-f.invariant.1 c.loop-f-test.true,
  below_slots c.args.work.now c.args.n c.args.h c.args.d c.requires.0 c.requires.1 c.requires.2 c.loop-f.work c.loop-f.f c.loop-f.holder c.loop-f.invariant.1 c.loop-f-test.true c.restore-frame.result c.restore-frame.ensures,
)

pub loop-f-preserved : goal.loop-f-preserved
loop-f-preserved c = (
  omega (arith, c.loop-f-test.true),
  below_next c.args.work.now c.args.n c.args.h c.args.d c.requires.0 c.requires.1 c.requires.2 c.loop-f.work c.loop-f.f c.loop-f.holder c.loop-f.invariant.1 c.loop-f-test.true c.restore-frame.result c.restore-frame.ensures c.mark_frame-holder.new.work c.mark_frame-holder.result c.mark_frame-holder.ensures,
)
