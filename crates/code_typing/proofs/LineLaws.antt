-- A line judged alone. Assumes nothing.
use Prim.Native.Nat.{ℕ, ◌+◌}
use mathlib.Core.Path.{◌≡◌, sym, ap, ◌∙◌}
use mathlib.Core.List.{[], ◌∷◌}
use Rattle.sheet_rules.specs.declared.Reason.{Reason}
use Rattle.type_rules.specs.Typing.{Fault}
use Rattle.instr_typing.specs.Told.{judged_of}
use Rattle.instr_typing.proofs.InstrLaws.{good_none, refused_some}
use Rattle.std.specs.declared.result.Result.TheVariants.{Ok, Err}
use Rattle.sheet_rules.specs.Answers.{turned_away}
use Rattle.code_typing.specs.Walk.{walk}
use Rattle.code_typing.proofs.WalkLaws.{walk_none, walk_good, walk_bad}

-- a line judged alone: the walk goes on to the next, or stops at it

pub judged_on : (n : ℕ) (f : Fault) (row a : ℕ) → judged_of f row ≡ Ok a → Ok (n + 1) ≡ walk n (f ∷ [])
judged_on n f row a e = sym (walk_none (n + 1)) ∙ walk_good n [] ∙ ap (λ (x : Fault). walk n (x ∷ [])) (sym (good_none f row a e))

pub judged_stop : (n : ℕ) (f : Fault) (row : ℕ) (q : Reason) → judged_of f row ≡ Err q → turned_away q n ≡ walk n (f ∷ [])
judged_stop n f row q e = walk_bad n q [] ∙ ap (λ (x : Fault). walk n (x ∷ [])) (sym (refused_some f row q e))
