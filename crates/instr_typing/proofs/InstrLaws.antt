-- What a judgement tells, and what the fit table does. Assumes nothing.
use Prim.Native.Nat.{ℕ, ◌≤◌}
use mathlib.Core.Path.{◌≡◌, refl}
use mathlib.Core.Bool.{Bool, true, false, cond}
use mathlib.Core.List.{List}
use mathlib.Core.Option.{none, some}
use Rattle.lists.proofs.Tests.{clash}
use Rattle.sheet_rules.specs.declared.FitAnswer.TheVariants.{Yes, Unmet}
use Rattle.sheet_rules.specs.declared.Reason.{Reason}
use Rattle.type_rules.specs.Typing.{Fault}
use Rattle.table.specs.Whole.{Whole}
use Rattle.fit.specs.Told.{tells}
use Rattle.fit_answer.specs.Told.{answers, rows_say}
use Rattle.fit_answer.proofs.SheetLaws.{named_low}
use Rattle.std.specs.declared.result.Result.TheVariants.{Ok, Err}
use Rattle.instr_typing.specs.Told.{judged_of}

-- a judgement tells the fault, or the row of the slot

pub good_none : (f : Fault) (row a : ℕ) → judged_of f row ≡ Ok a → f ≡ none
good_none none row a e = refl
good_none (some q) row a e = clash (cc)

pub good_row : (f : Fault) (row a : ℕ) → judged_of f row ≡ Ok a → a ≡ row
good_row none row a e = cc
good_row (some q) row a e = clash (cc)

pub refused_some : (f : Fault) (row : ℕ) (q : Reason) → judged_of f row ≡ Err q → f ≡ some q
refused_some none row q e = clash (cc)
refused_some (some r) row q e = cc

-- a member that is named as lacking has one of the names
pub answer_low : {w : List ℕ} → Whole w → (a b : ℕ) {n : ℕ} → Unmet n ≡ answers w a b → n ≤ 63
unfolding answers
answer_low {w} h a b {n} e = go (tells w a b) e
  where
    go : (t : Bool) → Unmet n ≡ cond t Yes (rows_say w a b) → n ≤ 63
    go true e = clash (cc)
    go false e = named_low h a b e
