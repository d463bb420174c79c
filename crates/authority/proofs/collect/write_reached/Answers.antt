use native.Mathlib.Omega.{arith}
use Rattle.authority.specs.Laid.{is_reached}
use Rattle.authority.proofs.WrittenLaws.{Written-start, Written-few, Written-size, Written-next}
use Rattle.authority.proofs.collect.write_reached.Goals as goal

pub loop-b-init : goal.loop-b-init
loop-b-init c = (omega arith, Written-start (is_reached c.args.work.now c.args.n) c.args.res.now)

pub write_one-count-requires : goal.write_one-count-requires
write_one-count-requires c = (
  c.requires.0,
  c.loop-b-test.true,
  Written-few (is_reached c.args.work.now c.args.n) c.args.res.now c.loop-b.b c.loop-b.count c.loop-b.res c.loop-b.invariant.1,
  omega (arith, Written-size (is_reached c.args.work.now c.args.n) c.args.res.now c.loop-b.b c.loop-b.count c.loop-b.res c.loop-b.invariant.1 (omega (arith, c.requires.1, c.loop-b.invariant.0, c.requires.0.few)), c.requires.1),
)

pub loop-b-preserved : goal.loop-b-preserved
loop-b-preserved c = (
  omega (arith, c.loop-b-test.true),
  Written-next (is_reached c.args.work.now c.args.n) c.args.res.now c.loop-b.b c.loop-b.count c.loop-b.res c.write_one-count.new.res c.write_one-count.result c.loop-b.invariant.1 (omega (arith, c.requires.1, c.loop-b-test.true, c.requires.0.few)) c.write_one-count.ensures,
)
