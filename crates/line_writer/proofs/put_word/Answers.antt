use native.Mathlib.Omega.{arith}
use Rattle.std.proofs.Common.{refl}
use Rattle.line_writer.proofs.PutLaws.{Put-none, word_next}
use Rattle.line_writer.proofs.put_word.Goals as goal

pub loop-byte-init : goal.loop-byte-init
loop-byte-init c = (omega arith, Put-none)

pub loop-byte-preserved : goal.loop-byte-preserved
loop-byte-preserved c =
    (omega (arith, c.loop-byte-test.true), word_next c.args.word.now c.requires c.loop-byte.invariant.1 c.loop-byte-test.true refl c.put_byte-next.ensures)
