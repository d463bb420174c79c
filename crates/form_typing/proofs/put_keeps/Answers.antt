use native.Mathlib.Omega.{arith}
use Rattle.code_typing.proofs.CodeLaws.{slots_whole}
use Rattle.form_typing.proofs.SlotsLaws.{keeps_next}
use Rattle.form_typing.proofs.put_keeps.Goals as goal

pub of-requires : goal.of-requires
of-requires c = slots_whole c.loop-k.invariant.0.only c.requires.0

pub loop-k-preserved : goal.loop-k-preserved
loop-k-preserved c =
    (keeps_next c.loop-k.invariant.0 (omega (arith, c.requires.1, c.loop-k-test.true)) c.requires.0.size c.of.ensures c.keep-row.ensures c.put_slot_row.ensures, omega (arith, c.loop-k-test.true))
