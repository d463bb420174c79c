use native.Mathlib.Omega.{arith}
use mathlib.Core.Path.{refl}
use Rattle.authority_question.proofs.ReportLaws.{entries_fit, report_told}
use Rattle.authority_question.proofs.report.report_in.Goals as goal

pub overflow_cast-result : goal.overflow_cast-result
overflow_cast-result c =
    omega (arith, entries_fit c.args.work.now c.args.budget c.run_noted-halt.new.work c.run_noted-halt.result c.run_noted-halt.ensures c.answer-answer.result c.answer-answer.ensures c.args.res.now c.write_every-count.new.work c.write_every-count.new.res c.write_every-count.result c.write_every-count.ensures)

pub returns : goal.returns
returns c =
    report_told c.args.work.now c.args.budget c.run_noted-halt.new.work c.run_noted-halt.result c.run_noted-halt.ensures c.answer-answer.result c.answer-answer.ensures c.args.res.now c.write_every-count.new.work c.write_every-count.new.res c.write_every-count.result c.write_every-count.ensures c.write_every-count.result refl
