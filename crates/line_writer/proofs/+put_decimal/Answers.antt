use native.Mathlib.Omega.{arith}
use Rattle.line_writer.proofs.PutLaws.{digit_put, last_inside, digits_put}
use Rattle.line_writer.proofs.+put_decimal.Goals as goal

-- one digit: it is the number
pub returns-then-n-lt10 : goal.returns-then-n-lt10
returns-then-n-lt10 t c = digit_put c.args.n c.if-n-lt10.true c.put_byte.ensures

-- the digits of its tenth, and then the last digit
pub put_byte-requires-2 : goal.put_byte-requires-2
put_byte-requires-2 t c = last_inside c.args.n (omega (arith, c.ranges.n)) c.if-n-lt10.false c.requires c.put_decimal-next.ensures

pub returns : goal.returns
returns t c = digits_put c.args.n (omega (arith, c.ranges.n)) c.if-n-lt10.false c.requires c.put_decimal-next.ensures c.put_byte-2.ensures
