-- What a look-up among members finds. Stands on the sheet.
use Rattle.std.specs.Prelude.{List, [], ◌∷◌}
use Rattle.std.specs.declared.option.Option.{Option}
use Rattle.std.specs.declared.option.Option.TheVariants.{Some, None}
use Rattle.sheet_rules.specs.declared.Member.{Member}

-- what the first of some members that answers says, where `says` tells what each may answer; nothing where none answers
pub data FirstOf {A : Type 0} (says : Member → Option A → Type 0) : List Member → Option A → Type 0 where
  at_end : FirstOf says [] None
  passed : {m : Member} {ms : List Member} {r : Option A} → says m None → FirstOf says ms r → FirstOf says (m ∷ ms) r
  found : {m : Member} {ms : List Member} {x : A} → says m (Some x) → FirstOf says (m ∷ ms) (Some x)
