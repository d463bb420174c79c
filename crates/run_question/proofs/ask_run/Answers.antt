use Rattle.std.proofs.Common.{ap}
use Rattle.std.specs.declared.result.Result.TheVariants.{Err}
use Rattle.question.proofs.AskedLaws.{asked_alone}
use Rattle.run_question.proofs.ask_run.Goals as goal

pub returns : goal.returns
returns c = asked_alone (ap Err c.at.ensures) c.ask.ensures.short c.ask.ensures.told (λ b b' x p. p)
