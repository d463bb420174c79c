use native.Mathlib.Omega.{arith}
use Rattle.line_writer.proofs.PutLaws.{none_put, numbers_end, comma_inside, number_inside, numbers_next}
use Rattle.line_writer.proofs.put_numbers.Goals as goal

pub loop-i-init : goal.loop-i-init
loop-i-init c = (omega arith, none_put)

pub put_byte-next-requires : goal.put_byte-next-requires
put_byte-next-requires c =
    comma_inside c.args.numbers.now c.args.from c.args.n c.loop-i.i c.requires.0 c.requires.1 c.loop-i.invariant.1 c.loop-i-test.true

pub bounds-numbers-from : goal.bounds-numbers-from
bounds-numbers-from c =
    omega (arith, c.loop-i-test.true, c.requires.1)

pub put_decimal-next-requires : goal.put_decimal-next-requires
put_decimal-next-requires c =
    number_inside c.args.numbers.now c.args.from c.args.n c.loop-i.i c.requires.0 c.requires.1 c.loop-i.invariant.1 c.loop-i-test.true c.put_byte-next.ensures

pub loop-i-preserved : goal.loop-i-preserved
loop-i-preserved c = (
  omega (arith, c.loop-i-test.true),
  numbers_next c.args.numbers.now c.args.from c.args.n c.loop-i.i c.requires.0 c.requires.1 c.loop-i.invariant.1 c.loop-i-test.true c.put_byte-next.ensures
      c.wide.result c.wide.ensures c.put_decimal-next.ensures,
)

pub returns : goal.returns
returns c =
    numbers_end c.args.numbers.now c.args.from c.args.n c.loop-i.i c.requires.0 c.requires.1 c.loop-i.invariant.1 c.loop-i-test.false c.loop-i.invariant.0
