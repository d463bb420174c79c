use native.Mathlib.Omega.{arith}
use mathlib.Core.Path.{sym, ◌∙◌}
use Rattle.instr_typing.proofs.InstrLaws.{answer_low}
use Rattle.instr_typing.proofs.judge_fit.Goals as goal

pub overflow_cast-lack : goal.overflow_cast-lack
overflow_cast-lack c = omega (arith, answer_low c.table_answer.ensures.whole _ _ (sym c.in-Unmet.is ∙ c.table_answer.ensures.answer))
