-- Laws of Placed: storing numbers changes the table by form and name alone, and at the end each member's cell holds its number,
-- as names ascend. Assumes nothing.
use Prim.Native.Nat.{ℕ, zero, suc, ◌+◌, ◌≤◌, ◌<◌}
use native.Mathlib.Omega.{arith}
use native.Mathlib.Numerals.{add-one}
use native.Mathlib.Decide.{dec_le}
use mathlib.Core.Path.{◌≡◌, refl, sym, ap, ◌∙◌}
use mathlib.Core.Bool.{Bool, true, false, cond}
use mathlib.Core.List.{List, [], ◌∷◌}
use mathlib.Core.Option.{Option, none, some}
use lib.Dec.{eqb}
use lib.ListN.{length, get_or, length-set}
use lib.Seq.{get_or-set_same, get_or-set_other}
use borrow.Author.Tests.{eqb-true}
use Rattle.lists.specs.In.{In, here, there}
use Rattle.lists.proofs.Tests.{clash}
use Rattle.sheet_rules.specs.declared.Member.{Member}
use Rattle.sheet_rules.specs.declared.Member.TheVariants.{Method, Field}
use Rattle.sheet_rules.specs.Sheet.{Instr, Part, init, body, Sheet, row_of_form}
use Rattle.sheet_rules.specs.RowLines.{name_of}
use Rattle.sheet_rules.specs.WellFormed.{NamesAscend, above}
use Rattle.machine_rules.specs.Step.{body_in, next_place, field_place}
use Rattle.table.specs.Layout.{place_address, table_end, slot_row_address}
use Rattle.table.specs.View.{cell}
use Rattle.table.specs.Only.{Only}
use Rattle.table.proofs.ViewLaws.{Only-refl, Only-trans, Only-set}
use Rattle.machine_places.specs.Placed.{number_of, fields_after, member_placed, members_placed, forms_placed}

-- nothing else is changed

-- w' is w but for the table by form and name
abbrev pub PlacesOnly : List ℕ → List ℕ → Type 0
PlacesOnly w w' = Only table_end (slot_row_address 0) w w'

pub Member-only : (w : List ℕ) (f : ℕ) (m : Member) (j i : ℕ) → PlacesOnly w (member_placed w f m j i)
Member-only w f m j i = Only-set table_end (slot_row_address 0) w (place_address f (name_of m)) (number_of m j i) (omega arith) (omega arith)

pub members_only : (w : List ℕ) (f : ℕ) (ms : List Member) (j i : ℕ) → PlacesOnly w (members_placed w f ms j i)
unfolding members_placed
members_only w f [] j i = Only-refl table_end (slot_row_address 0) w
members_only w f (m ∷ ms) j i = Only-trans (Member-only w f m j i) (members_only (member_placed w f m j i) f ms (j + 1) (fields_after m i))

pub forms_only : (s : Sheet) (w : List ℕ) (n : ℕ) → PlacesOnly w (forms_placed s w n)
unfolding forms_placed
forms_only s w zero = Only-refl table_end (slot_row_address 0) w
forms_only s w (suc f) = Only-trans (forms_only s w f) (members_only (forms_placed s w f) f (row_of_form s f).members 0 0)

-- the two stores of a member

-- one form more, at the code's sum
pub forms_next : (s : Sheet) (w : List ℕ) (f : ℕ) → members_placed (forms_placed s w f) f (row_of_form s f).members 0 0 ≡ forms_placed s w (f + 1)
unfolding forms_placed
forms_next s w f = ap (forms_placed s w) (sym (add-one f))

-- a store leaves the cells of other forms, and of other names

pub other_forms : (w : List ℕ) (f : ℕ) (ms : List Member) (j i g n : ℕ) → f < 64 → g < f → cell (members_placed w f ms j i) (place_address g n) ≡ cell w (place_address g n)
unfolding members_placed
other_forms w f [] j i g n h k = refl
other_forms w f (m ∷ ms) j i g n h k =
    other_forms (member_placed w f m j i) f ms (j + 1) (fields_after m i) g n h k
    ∙ get_or-set_other w (place_address f (name_of m)) (place_address g n) (number_of m j i) 0 (λ e. omega arith)

-- names within the table's 64
abbrev pub LowNames : List Member → Type 0
LowNames ms = (x : Member) → In x ms → name_of x ≤ 63

lower_names : (w : List ℕ) (f : ℕ) (ms : List Member) (j i b n : ℕ) → NamesAscend b ms → LowNames ms → n < b
    → cell (members_placed w f ms j i) (place_address f n) ≡ cell w (place_address f n)
unfolding members_placed
lower_names w f [] j i b n up low h = refl
lower_names w f (m ∷ ms) j i b n (above l up) low h =
    let k = low m (here refl) in
    lower_names (member_placed w f m j i) f ms (j + 1) (fields_after m i) (suc (name_of m)) n up (λ x q. low x (there q)) (omega arith)
    ∙ get_or-set_other w (place_address f (name_of m)) (place_address f n) (number_of m j i) 0 (λ e. omega arith)

-- so the first member's number stays

module _ (w : List ℕ) (f : ℕ) (m : Member) (ms : List Member) (j i n : ℕ) (size : slot_row_address 0 ≤ length w) where
  first_stays : NamesAscend (suc (name_of m)) ms → LowNames ms → name_of m ≡ n
      → cell (members_placed (member_placed w f m j i) f ms (j + 1) (fields_after m i)) (place_address f n) ≡ number_of m j i
  first_stays up low e =
      ap (λ (x : ℕ). cell (members_placed (member_placed w f m j i) f ms (j + 1) (fields_after m i)) (place_address f x)) (sym e)
      ∙ lower_names (member_placed w f m j i) f ms (j + 1) (fields_after m i) (suc (name_of m)) (name_of m) up low (omega arith)
      ∙ get_or-set_same w (place_address f (name_of m)) (number_of m j i) 0 (omega arith)

  -- and the buffer is as long as before
  long_enough : slot_row_address 0 ≤ length (member_placed w f m j i)
  long_enough = omega (arith, length-set w (place_address f (name_of m)) (number_of m j i))

-- c is the number of a part that is a body with the given code, where j parts come before
pub record PartFound (ps : List Part) (is : List Instr) (j c : ℕ) : Type 0 where
  pub place : ℕ
  pub counted : c ≡ j + place
  pub inside : place < length ps
  pub part : get_or ps place (init 0) ≡ body is

part_first : (is code : List Instr) (ps : List Part) (j c : ℕ) → c ≡ j → ◌≡◌ {A = Option (List Instr)} (some is) (some code) → PartFound (body is ∷ ps) code j c
part_first is code ps j c e q = record { place = 0; counted = omega arith; inside = omega arith; part = cc }

part_later : (p : Part) (ps : List Part) (is : List Instr) (j c : ℕ) → PartFound ps is (j + 1) c → PartFound (p ∷ ps) is j c
part_later p ps is j c r = record { place = suc r.place; counted = omega (arith, r.counted); inside = omega (arith, r.inside); part = r.part }

-- the body of a method: its cell holds the number of its part

pub body_found : (w : List ℕ) (f : ℕ) (ms : List Member) (ps : List Part) (j i b n : ℕ) (code : List Instr) → slot_row_address 0 ≤ length w
    → NamesAscend b ms → LowNames ms → body_in ms ps n ≡ some code → PartFound ps code j (cell (members_placed w f ms j i) (place_address f n))
unfolding body_in members_placed
body_found w f [] ps j i b n code z up low e = clash (cc)
body_found w f (m ∷ ms) [] j i b n code z up low e = clash (cc)
body_found w f (Method m a r ∷ ms) (body is ∷ ps) j i b n code z (above l up) low e =
    go (eqb m n) refl e
    (λ q. body_found (member_placed w f (Method m a r) j i) f ms ps (j + 1) i (suc m) n code (long_enough w f (Method m a r) ms j i n z) up (λ x k. low x (there k)) q)
  where
    at : ℕ
    at = cell (members_placed (member_placed w f (Method m a r) j i) f ms (j + 1) i) (place_address f n)

    go : (t : Bool) → eqb m n ≡ t → cond t (some is) (body_in ms ps n) ≡ some code → (body_in ms ps n ≡ some code → PartFound ps code (j + 1) at) → PartFound (body is ∷ ps) code j at
    go true d q rec = part_first is code ps j at (first_stays w f (Method m a r) ms j i n z up (λ x k. low x (there k)) (eqb-true m n d)) q
    go false d q rec = part_later (body is) ps code j at (rec q)
body_found w f (Method m a r ∷ ms) (init k ∷ ps) j i b n code z (above l up) low e =
    part_later (init k) ps code j (cell (members_placed (member_placed w f (Method m a r) j i) f ms (j + 1) i) (place_address f n))
    (body_found (member_placed w f (Method m a r) j i) f ms ps (j + 1) i (suc m) n code (long_enough w f (Method m a r) ms j i n z) up (λ x q. low x (there q)) e)
body_found w f (Field m r ∷ ms) (p ∷ ps) j i b n code z (above l up) low e =
    part_later p ps code j (cell (members_placed (member_placed w f (Field m r) j i) f ms (j + 1) (i + 1)) (place_address f n))
    (body_found (member_placed w f (Field m r) j i) f ms ps (j + 1) (i + 1) (suc m) n code (long_enough w f (Field m r) ms j i n z) up (λ x q. low x (there q)) e)

-- a field: its cell holds its place among the fields

place_later : (o : Option ℕ) (k : ℕ) → next_place o ≡ some k → (c i : ℕ) → ((x : ℕ) → o ≡ some x → c ≡ i + 1 + x) → c ≡ i + k
place_later none k e c i rec = clash (cc)
place_later (some x) k e c i rec = let d : suc x ≡ k = cc in omega (arith, rec x refl)

pub field_found : (w : List ℕ) (f : ℕ) (ms : List Member) (j i b n k : ℕ) → slot_row_address 0 ≤ length w
    → NamesAscend b ms → LowNames ms → field_place ms n ≡ some k → cell (members_placed w f ms j i) (place_address f n) ≡ i + k
unfolding field_place members_placed
field_found w f [] j i b n k z up low e = clash (cc)
field_found w f (Method m a r ∷ ms) j i b n k z (above l up) low e =
    field_found (member_placed w f (Method m a r) j i) f ms (j + 1) i (suc m) n k (long_enough w f (Method m a r) ms j i n z) up (λ x q. low x (there q)) e
field_found w f (Field m r ∷ ms) j i b n k z (above l up) low e =
    go (eqb m n) refl e
    (λ x q. field_found (member_placed w f (Field m r) j i) f ms (j + 1) (i + 1) (suc m) n x (long_enough w f (Field m r) ms j i n z) up (λ x k. low x (there k)) q)
  where
    at : ℕ
    at = cell (members_placed (member_placed w f (Field m r) j i) f ms (j + 1) (i + 1)) (place_address f n)

    go : (t : Bool) → eqb m n ≡ t → cond t (some 0) (next_place (field_place ms n)) ≡ some k → ((x : ℕ) → field_place ms n ≡ some x → at ≡ i + 1 + x) → at ≡ i + k
    go true d q rec = let c : 0 ≡ k = cc in omega (arith, first_stays w f (Field m r) ms j i n z up (λ x k. low x (there k)) (eqb-true m n d))
    go false d q rec = place_later (field_place ms n) k q at i rec

-- the cells of a form are settled when its members are stored

pub forms_later : (s : Sheet) (w : List ℕ) (n g m : ℕ) → n ≤ 64 → g < n
    → cell (forms_placed s w n) (place_address g m) ≡ cell (members_placed (forms_placed s w g) g (row_of_form s g).members 0 0) (place_address g m)
unfolding forms_placed
forms_later s w zero g m h k = absurd (omega arith)
forms_later s w (suc n) g m h k = go (dec_le (suc g) n) (λ l. forms_later s w n g m (omega arith) l)
  where
    there-cell : ℕ → ℕ
    there-cell x = cell (members_placed (forms_placed s w x) x (row_of_form s x).members 0 0) (place_address g m)

    go : Dec (suc g ≤ n) → (g < n → cell (forms_placed s w n) (place_address g m) ≡ there-cell g) → there-cell n ≡ there-cell g
    go (yes l) rec = other_forms (forms_placed s w n) n (row_of_form s n).members 0 0 g m (omega arith) l ∙ rec l
    go (no l) rec = let e : n ≡ g = omega arith in ap there-cell e
