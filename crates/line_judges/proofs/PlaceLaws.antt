-- A place whose tag is not the wanted one's is another one: an enum's tags count its cases as the rules' numbers count the places.
-- Assumes nothing.
use Prim.Native.Nat.{ℕ}
use mathlib.Core.Path.{◌≡◌, refl, subst, ◌∙◌}
use mathlib.Core.Bool.{false, not}
use mathlib.Core.List.{List}
use lib.Dec.{T}
use borrow.Author.Tests.{ne_eqb}
use types.Run.{OneOf, miss}
use mir.Val.{has_key}
use denote.Enum.Declared.{tag_of}
use Rattle.sheet_rules.specs.contracts.Place.{the_type}
use Rattle.sheet_rules.specs.declared.MemberKind.{MemberKind}
use Rattle.sheet_rules.specs.declared.Operation.{Operation}
use Rattle.sheet_rules.specs.declared.Place.{Place}
use Rattle.sheet_rules.specs.declared.Place.TheVariants.{Types, Row, Member, Forms, Form, Keep, Init, Body, Devices, Device, Main, Instruction, Nowhere}
use Rattle.sheet_rules.specs.Keys.{place_number, same_place, member_kind, operation_of}

tag_number : (k : Place) → tag_of the_type k ≡ place_number k
tag_number Types = refl
tag_number Row = refl
tag_number (Member kind) = refl
tag_number Forms = refl
tag_number Form = refl
tag_number Keep = refl
tag_number Init = refl
tag_number Body = refl
tag_number Devices = refl
tag_number Device = refl
tag_number Main = refl
tag_number (Instruction operation) = refl
tag_number Nowhere = refl

-- where the wanted place's tag is not among some tags, no place with one of them is the same
pub other_place : (k w : Place) (ks : List ℕ) → T (not (has_key ks (place_number w))) → OneOf ks (tag_of the_type k) → same_place k w ≡ false
other_place k w ks t o = ne_eqb (place_number k) (place_number w) (λ e. miss ks (place_number w) t (subst (OneOf ks) (tag_number k ∙ e) o))

-- where no member, and no instruction, may stand

pub no_member : (k : Place) (ks : List ℕ) → T (not (has_key ks 2)) → OneOf ks (tag_of the_type k) → MemberKind.Field ≡ member_kind k
no_member Types ks t o = refl
no_member Row ks t o = refl
no_member (Member kind) ks t o = absurd (miss ks 2 t o)
no_member Forms ks t o = refl
no_member Form ks t o = refl
no_member Keep ks t o = refl
no_member Init ks t o = refl
no_member Body ks t o = refl
no_member Devices ks t o = refl
no_member Device ks t o = refl
no_member Main ks t o = refl
no_member (Instruction operation) ks t o = refl
no_member Nowhere ks t o = refl

pub no_instruction : (k : Place) (ks : List ℕ) → T (not (has_key ks 11)) → OneOf ks (tag_of the_type k) → Operation.Copy ≡ operation_of k
no_instruction Types ks t o = refl
no_instruction Row ks t o = refl
no_instruction (Member kind) ks t o = refl
no_instruction Forms ks t o = refl
no_instruction Form ks t o = refl
no_instruction Keep ks t o = refl
no_instruction Init ks t o = refl
no_instruction Body ks t o = refl
no_instruction Devices ks t o = refl
no_instruction Device ks t o = refl
no_instruction Main ks t o = refl
no_instruction (Instruction operation) ks t o = absurd (miss ks 11 t o)
no_instruction Nowhere ks t o = refl
