use Rattle.std.proofs.Common.{ap}
use Rattle.std.specs.declared.result.Result.TheVariants.{Err}
use Rattle.question.proofs.AskedLaws.{asked_into}
use Rattle.authority_question.proofs.report.ask_report.Goals as goal

pub returns : goal.returns
returns c = asked_into (ap Err c.at.ensures) c.ask_into.ensures.short c.ask_into.ensures.told (λ b d b' d' x p. p)
