use Rattle.std.proofs.Common.{ap, ◌∙◌}
use Rattle.sheet_rules.specs.declared.Refusal.{Refusal}
use Rattle.type_rules.specs.FitQuestion.{told_refused}
use Rattle.question.proofs.AskedLaws.{asked_alone}
use Rattle.fit_question.proofs.ask_fit.Goals as goal

pub returns : goal.returns
returns c = asked_alone (c.refused-short.ensures ∙ ap (λ (x : Refusal). told_refused x.reason x.line) c.at.ensures) c.ask.ensures.short c.ask.ensures.told (λ b b' x p. p)
