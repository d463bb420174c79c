-- By an enum's tags: a refusal that is no misfit says nothing is lacking, and a lack that is no member has no name.
-- Assumes nothing.
use Prim.Native.Nat.{ℕ}
use mathlib.Core.Path.{◌≡◌, refl}
use mathlib.Core.Bool.{not}
use mathlib.Core.List.{List, [], ◌∷◌}
use mathlib.Core.Option.{none, some}
use lib.Dec.{T}
use types.Run.{OneOf, miss}
use mir.Val.{has_key}
use denote.Enum.Declared.{tag_of}
use Rattle.sheet_rules.specs.contracts.Lack as lack
use Rattle.sheet_rules.specs.contracts.Reason as reason
use Rattle.sheet_rules.specs.declared.Lack.{Lack}
use Rattle.sheet_rules.specs.declared.Lack.TheVariants.{Count, WrongKind, Unmet}
use Rattle.sheet_rules.specs.declared.Reason.{Reason}
use Rattle.sheet_rules.specs.declared.Reason.TheVariants.{BufferTooShort, TextTooLong, Malformed, OutOfLimit, NotAscending, DuplicateRow, NotDefined, ImpureForm, NoSuchMember, Misfit, NoHolder, CircularCall, BeyondCount, WrongDevice}
use Rattle.sheet_rules.specs.Answers.{reason_lack, lack_name}

-- the tags of the reasons that are no misfit
abbrev others : List ℕ
others = 0 ∷ 1 ∷ 2 ∷ 3 ∷ 4 ∷ 5 ∷ 6 ∷ 7 ∷ 8 ∷ 10 ∷ 11 ∷ 12 ∷ 13 ∷ []

pub no_misfit : (r : Reason) → OneOf others (tag_of reason.the_type r) → none ≡ reason_lack r
no_misfit BufferTooShort o = refl
no_misfit TextTooLong o = refl
no_misfit Malformed o = refl
no_misfit OutOfLimit o = refl
no_misfit NotAscending o = refl
no_misfit DuplicateRow o = refl
no_misfit NotDefined o = refl
no_misfit ImpureForm o = refl
no_misfit NoSuchMember o = refl
no_misfit (Misfit l) o = absurd (miss others 9 tt o)
no_misfit NoHolder o = refl
no_misfit CircularCall o = refl
no_misfit BeyondCount o = refl
no_misfit WrongDevice o = refl

pub no_name : (l : Lack) (ks : List ℕ) → T (not (has_key ks 2)) → OneOf ks (tag_of lack.the_type l) → 0 ≡ lack_name (some l)
no_name Count ks t o = refl
no_name WrongKind ks t o = refl
no_name (Unmet n) ks t o = absurd (miss ks 2 t o)
