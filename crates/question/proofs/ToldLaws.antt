-- The verdict, by what is told of it. Assumes nothing.
use Rattle.std.proofs.Common.{◌≡◌, refl, sym, ap, ◌∙◌}
use Rattle.std.specs.declared.result.Result.{Result}
use Rattle.std.specs.declared.result.Result.TheVariants.{Ok, Err}
use Rattle.sheet_rules.specs.declared.Refusal.{Refusal}
use Rattle.sheet_rules.specs.declared.Verdict.{Verdict}
use Rattle.sheet_rules.specs.declared.Verdict.TheVariants.{Accepted, Refused}
use Rattle.sheet_rules.specs.Answers.{verdict_told, verdict_from}

-- it is read off what is told
again : (v : Verdict) → verdict_from (verdict_told v) ≡ v
again Accepted = refl
again (Refused r n) = refl

pub told_ok : {v : Verdict} {t : Result Unit Refusal} → t ≡ verdict_told v → {u : Unit} → t ≡ Ok u → v ≡ Accepted
told_ok {v} e o = sym (again v) ∙ ap verdict_from (sym e ∙ o)

pub told_err : {v : Verdict} {t : Result Unit Refusal} → t ≡ verdict_told v → {x : Refusal} → t ≡ Err x → v ≡ Refused x.reason x.line
told_err {v} e o = sym (again v) ∙ ap verdict_from (sym e ∙ o)
