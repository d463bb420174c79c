use Rattle.std.proofs.Common.{refl}
use Rattle.question.proofs.AskedLaws.{asked_alone}
use Rattle.verdict_question.proofs.ask_verdict.Goals as goal

pub returns : goal.returns
returns c = asked_alone refl c.ask.ensures.short c.ask.ensures.told (λ b b' x p. p)
