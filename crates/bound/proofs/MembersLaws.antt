-- Member j of a form's row and part j of the form, as the loops over them read the table. Assumes nothing.
use Prim.Native.Nat.{ℕ, ◌<◌}
use native.Mathlib.Omega.{arith}
use mathlib.Core.Path.{◌≡◌, sym, ap, ◌∙◌}
use mathlib.Core.List.{List}
use lib.ListN.{length, get_or}
use Rattle.lists.proofs.PairwiseLaws.{Pairwise-at}
use Rattle.sheet_rules.specs.declared.Member.{Member}
use Rattle.sheet_rules.specs.Sheet.{Part, init, no_member, form_at}
use Rattle.sheet_rules.specs.WellFormed.{PartOf}
use Rattle.type_rules.specs.SlotRows.{members_at}
use Rattle.table.specs.View.{part_in, sheet_in}
use Rattle.table.specs.declared.forms.PartPlace.{PartPlace}
use Rattle.table.specs.Told.{part_told}
use Rattle.table.specs.Whole.{Whole}
use Rattle.table.proofs.SheetLaws.{member_small, forms_few, parts-Pairwise, parts-length, part_there}
use Rattle.form_typing.specs.Told.{PlaceSmall}
use Rattle.form_typing.proofs.PartLaws.{place_small}

-- the members of form f's row, and its parts
abbrev pub members_in : List ℕ → ℕ → List Member
members_in w f = members_at (sheet_in w) (form_at (sheet_in w) f).row

abbrev pub parts_in : List ℕ → ℕ → List Part
parts_in w f = (form_at (sheet_in w) f).parts

module _ {w : List ℕ} (h : Whole w) {f : ℕ} (l : f < length (sheet_in w).forms) {row : ℕ} (row_is : row ≡ (form_at (sheet_in w) f).row) {count : ℕ}
    (count-is : count ≡ length (members_at (sheet_in w) row)) where
  pub all_members : count ≡ length (members_in w f)
  all_members = count-is ∙ ap (λ (a : ℕ). length (members_at (sheet_in w) a)) row_is

  module _ {j : ℕ} (more : j < count) where
    pub in_members : j < length (members_in w f)
    in_members = omega (arith, all_members)

    pub in_parts : j < length (parts_in w f)
    in_parts = omega (arith, in_members, parts-length w h f l)

    -- a turn asks for a part that is there
    there_in_row : j < length (members_at (sheet_in w) row)
    there_in_row = omega (arith, count-is)

    pub part_asks : (f < 64) × (j < 8)
    part_asks = (omega (arith, forms_few w h), member_small w h row j there_in_row)

    -- and gets them as the rules have them
    pub Member-is : {m : Member} → m ≡ get_or (members_at (sheet_in w) row) j no_member → m ≡ get_or (members_in w f) j no_member
    Member-is e = e ∙ ap (λ (x : ℕ). get_or (members_at (sheet_in w) x) j no_member) row_is

    pub part_is : (p : PartPlace) → part_told w p ≡ part_in w f j → part_told w p ≡ get_or (parts_in w f) j (init 0)
    part_is p e = e ∙ sym (part_there w h f l j in_parts)

    -- they belong together
    pub part_of : PartOf (length (sheet_in w).forms) (length (form_at (sheet_in w) f).keeps) (get_or (members_in w f) j no_member) (get_or (parts_in w f) j (init 0))
    part_of = Pairwise-at (members_in w f) (parts_in w f) j no_member (init 0) (parts-Pairwise w h f l) in_members

    pub part_small : (p : PartPlace) → part_told w p ≡ part_in w f j → PlaceSmall p
    part_small p e = place_small w p (part_is p e) part_of
