-- The loops that store: over the members of a row, with its invariant and a law for each turn; and over the forms. Assumes
-- nothing.
use Prim.Native.Nat.{ℕ, suc, ◌+◌, ◌≤◌, ◌<◌}
use native.Mathlib.Omega.{arith}
use native.Mathlib.Numerals.{add-one}
use mathlib.Core.Path.{◌≡◌, refl, sym, ap, ap₂, ◌∙◌, subst}
use mathlib.Core.List.{List}
use lib.ListN.{length, get_or, drop}
use lib.Seq.{drop-cons, drop-length}
use Rattle.sheet_rules.specs.declared.Member.{Member}
use Rattle.sheet_rules.specs.declared.Member.TheVariants.{Method, Field}
use Rattle.sheet_rules.specs.Sheet.{Sheet, no_member, form_at}
use Rattle.type_rules.specs.SlotRows.{members_at}
use Rattle.table.specs.View.{member_in, sheet_in}
use Rattle.table.specs.Whole.{Whole}
use Rattle.table.proofs.ViewLaws.{Only-trans, member_same}
use Rattle.table.proofs.SheetLaws.{member_there}
use Rattle.machine_places.specs.Located.{PlacesFilled}
use Rattle.machine_places.specs.Placed.{fields_after, member_placed, members_placed, forms_placed}
use Rattle.machine_places.proofs.PlacedLaws.{PlacesOnly, Member-only, forms_only, forms_next}
use Rattle.machine_places.proofs.LocatedLaws.{places_sheet, places_whole, all_placed}

-- w is w₀ with the first j members of a row stored, i of them fields: storing the rest leaves what storing all of them does
pub record Storing (w₀ : List ℕ) (f row count : ℕ) (w : List ℕ) (i j : ℕ) : Type 0 where
  pub within : j ≤ count
  pub few : i ≤ j
  pub only : PlacesOnly w₀ w
  pub rest : members_placed w f (drop j (members_at (sheet_in w₀) row)) j i ≡ members_placed w₀ f (members_at (sheet_in w₀) row) 0 0

fields_most : (m : Member) (j i : ℕ) → i ≤ j → fields_after m i ≤ j + 1
fields_most (Method n a r) j i h = omega arith
fields_most (Field n r) j i h = omega arith

module _ (w₀ : List ℕ) (f row count : ℕ) (h : Whole w₀) (counted : (count ≡ length (members_at (sheet_in w₀) row)) × (count ≤ 8)) where
  abbrev members : List Member
  members = members_at (sheet_in w₀) row

  module _ (w : List ℕ) (i j : ℕ) (s : Storing w₀ f row count w i j) where
    the_member : j < count → member_in w row j ≡ get_or members j no_member
    the_member l =
        member_same w₀ w row j (λ k a b. s.only.below k (omega arith))
        ∙ sym (member_there w₀ h row j (omega (arith, counted.0)))

    pub Storing-next : (m : Member) (i' : ℕ) (w' : List ℕ) → j < count → m ≡ member_in w row j → i' ≡ fields_after m i → w' ≡ member_placed w f m j i
        → Storing w₀ f row count w' i' (j + 1)
    unfolding members_placed
    Storing-next m i' w' l em ei ew =
        subst (λ (x : List ℕ). Storing w₀ f row count x i' (j + 1)) (sym ew)
        (subst (λ (x : ℕ). Storing w₀ f row count (member_placed w f m j i) x (j + 1)) (sym ei) one_more)
      where
        one_more : Storing w₀ f row count (member_placed w f m j i) (fields_after m i) (j + 1)
        one_more =
            record {
              within = omega arith;
              few = fields_most m j i s.few;
              only = Only-trans s.only (Member-only w f m j i);
              rest =
                  ap (λ (k : ℕ). members_placed (member_placed w f m j i) f (drop k members) (j + 1) (fields_after m i)) (add-one j)
                  ∙ ap (λ (x : Member). members_placed (member_placed w f x j i) f (drop (suc j) members) (j + 1) (fields_after x i)) (em ∙ the_member l)
                  ∙ ap (λ (xs : List Member). members_placed w f xs j i) (sym (drop-cons members j no_member (omega (arith, counted.0))))
                  ∙ s.rest;
            }

    pub storing_end : count ≤ j → w ≡ members_placed w₀ f members 0 0
    unfolding members_placed
    storing_end l =
        let e : j ≡ length members = omega (arith, counted.0, s.within) in
        ap (λ (xs : List Member). members_placed w f xs j i) (sym (ap (λ (k : ℕ). drop k members) e ∙ drop-length members))
        ∙ s.rest

-- the forms

module _ (w₀ : List ℕ) (h : Whole w₀) (w : List ℕ) (f : ℕ) (stored : w ≡ forms_placed (sheet_in w₀) w₀ f) where
  forms_stored : PlacesOnly w₀ w
  forms_stored = subst (PlacesOnly w₀) (sym stored) (forms_only (sheet_in w₀) w₀ f)

  pub forms_whole : Whole w
  forms_whole = places_whole w₀ w forms_stored h

  pub form_next : (w' : List ℕ) (row : ℕ) → row ≡ (form_at (sheet_in w) f).row → w' ≡ members_placed w f (members_at (sheet_in w) row) 0 0 → w' ≡ forms_placed (sheet_in w₀) w₀ (f + 1)
  form_next w' row er ew =
      ew
      ∙ ap (λ (a : ℕ). members_placed w f (members_at (sheet_in w) a) 0 0) er
      ∙ ap₂ (λ (v : List ℕ) (s : Sheet). members_placed v f (members_at s (form_at s f).row) 0 0) stored (places_sheet w₀ w forms_stored)
      ∙ forms_next (sheet_in w₀) w₀ f

  pub forms_end : f ≡ length (sheet_in w₀).forms → PlacesFilled w₀ w
  forms_end e = subst (PlacesFilled w₀) (sym (stored ∙ ap (forms_placed (sheet_in w₀) w₀) e)) (all_placed w₀ h)

pub forms_start : (w : List ℕ) → w ≡ forms_placed (sheet_in w) w 0
unfolding forms_placed
forms_start w = refl
