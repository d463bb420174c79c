-- A refusal that is passed on. Assumes nothing.
use mathlib.Core.Path.{◌≡◌, sym, ap, ◌∙◌, subst}
use Rattle.std.specs.Prelude.{IsErrAnd}
use Rattle.std.specs.declared.result.Result.{Result}
use Rattle.std.specs.declared.result.Result.TheVariants.{Ok, Err}
use Rattle.std.proofs.lemmas.Result.{err_from_is_err_and}
use Rattle.lists.proofs.Tests.{clash}
use Rattle.sheet_rules.specs.declared.Refusal.{Refusal}

-- an answer that passes a refusal on
abbrev pub Passes : {A : Type 0} → Result A Refusal → Refusal → Type 0
Passes r e = IsErrAnd r (λ y. y ≡ e)

-- what is so of the refusal is so of that answer
pub passed_on : {A : Type 0} (P : Result A Refusal → Type 0) {r : Result A Refusal} {e : Refusal} → Passes r e → P (Err e) → P r
passed_on P {r} h p = let q = err_from_is_err_and r h in subst P (sym (q.1 ∙ ap Err q.2)) p

-- a refusal is no answer, and equal answers have equal values
pub no_answer : {A B : Type 0} {e : Refusal} {a : A} → ◌≡◌ {A = Result A Refusal} (Err e) (Ok a) → B
no_answer x = clash (cc)

pub same_answer : {A : Type 0} {a b : A} → ◌≡◌ {A = Result A Refusal} (Ok a) (Ok b) → a ≡ b
same_answer x = cc

pub none_passed : {A B : Type 0} {r : Result A Refusal} (e : Refusal) {a : A} → Passes r e → r ≡ Ok a → B
none_passed {B = B} e {a} h = passed_on (λ r. r ≡ Ok a → B) h no_answer
