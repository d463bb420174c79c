-- Laws of Located: once the members of every form are stored, the table tells what a run looks up; and what it tells depends on
-- the numbers below the slots' rows alone. Assumes nothing.
use Prim.Native.Nat.{ℕ, ◌+◌, ◌≤◌, ◌<◌}
use native.Mathlib.Omega.{arith}
use mathlib.Core.Path.{◌≡◌, refl, sym, ap, ◌∙◌, subst}
use mathlib.Core.Bool.{Bool, true, false, cond}
use mathlib.Core.List.{List}
use mathlib.Core.Option.{some}
use lib.Dec.{eqb}
use lib.ListN.{length}
use borrow.Author.Tests.{eqb-false}
use Rattle.lists.proofs.Tests.{clash}
use Rattle.lists.proofs.TabLaws.{length-tab}
use Rattle.sheet_rules.specs.Sheet.{Instr, init, body, Sheet, form_at, row_of_form}
use Rattle.sheet_rules.specs.WellFormed.{WellFormed}
use Rattle.machine_rules.specs.Step.{body_in, field_place}
use Rattle.table.specs.Layout.{form_address, part_address, place_address, table_end, slot_row_address}
use Rattle.table.specs.View.{cell, instrs_in, part_in, sheet_in}
use Rattle.table.specs.Whole.{Whole}
use Rattle.table.proofs.ViewLaws.{SameTable, only→same, instrs_in_same, sheet_in_same}
use Rattle.table.proofs.SheetLaws.{forms_few, parts_are, part_there}
use Rattle.machine_places.specs.Located.{BodyAt, Located, PlacesFilled}
use Rattle.machine_places.specs.Placed.{forms_placed}
use Rattle.machine_places.proofs.PlacedLaws.{PlacesOnly, forms_only, PartFound, body_found, field_found, forms_later}

-- storing leaves the sheet, so a whole buffer stays whole

module _ (w w' : List ℕ) (o : PlacesOnly w w') where
  pub places_sheet : sheet_in w' ≡ sheet_in w
  places_sheet = sheet_in_same w w' (only→same table_end (slot_row_address 0) w w' (omega arith) o)

  pub places_whole : Whole w → Whole w'
  places_whole h = record { size = omega (arith, o.size, h.size); sheet = subst WellFormed (sym places_sheet) h.sheet }

-- a part that is a body, by its numbers

body_there : (w : List ℕ) (f j : ℕ) (is : List Instr) → part_in w f j ≡ body is
    → (cell w (part_address f j) ≡ 0 → ⊥) × (instrs_in w (cell w (part_address f j + 1)) (cell w (part_address f j + 2)) ≡ is)
unfolding part_in
body_there w f j is e = go (eqb (cell w (part_address f j)) 0) refl (instrs_in w (cell w (part_address f j + 1)) (cell w (part_address f j + 2))) e
  where
    go : (t : Bool) → eqb (cell w (part_address f j)) 0 ≡ t → (code : List Instr) → cond t (init (cell w (part_address f j + 1))) (body code) ≡ body is
        → (cell w (part_address f j) ≡ 0 → ⊥) × (code ≡ is)
    go true d code q = clash (cc)
    go false d code q = (eqb-false (cell w (part_address f j)) 0 d, cc)

pub found→at : (w : List ℕ) (f c : ℕ) (is : List Instr) → Whole w → f < length (sheet_in w).forms
    → PartFound (form_at (sheet_in w) f).parts is 0 c → BodyAt w f c is
found→at w f c is h l r =
    let n : length (form_at (sheet_in w) f).parts ≡ cell w (form_address f + 2) = ap length (parts_are w f l) ∙ length-tab (part_in w f) (cell w (form_address f + 2)) in
    let e : c ≡ r.place = omega (arith, r.counted) in
    let b = body_there w f r.place is (sym (part_there w h f l r.place r.inside) ∙ r.part) in
    subst (λ (x : ℕ). BodyAt w f x is) (sym e) (record { inside = omega (arith, r.inside); tag = b.0; code = b.1 })

-- the table is filled

module _ (w : List ℕ) (h : Whole w) where
  abbrev s : Sheet
  s = sheet_in w

  abbrev count : ℕ
  count = length s.forms

  abbrev done : List ℕ
  done = forms_placed s w count

  same_sheet : (n : ℕ) → sheet_in (forms_placed s w n) ≡ s
  same_sheet n = places_sheet w (forms_placed s w n) (forms_only s w n)

  long : (n : ℕ) → slot_row_address 0 ≤ length (forms_placed s w n)
  long n = omega (arith, (forms_only s w n).size, h.size)

  bodies_told : (f n : ℕ) (code : List Instr) → f < count → body_in (row_of_form s f).members (form_at s f).parts n ≡ some code
      → PartFound (form_at s f).parts code 0 (cell done (place_address f n))
  bodies_told f n code l e =
      subst (PartFound (form_at s f).parts code 0) (sym (forms_later s w count f n (forms_few w h) l))
      (body_found (forms_placed s w f) f (row_of_form s f).members (form_at s f).parts 0 0 0 n code (long f)
      (h.sheet.rows (form_at s f).row).names (h.sheet.rows (form_at s f).row).low e)

  fields_told : (f n i : ℕ) → f < count → field_place (row_of_form s f).members n ≡ some i → cell done (place_address f n) ≡ i
  fields_told f n i l e =
      let settled = forms_later s w count f n (forms_few w h) l in
      let found =
      field_found (forms_placed s w f) f (row_of_form s f).members 0 0 0 n i (long f)
      (h.sheet.rows (form_at s f).row).names (h.sheet.rows (form_at s f).row).low e
      in
      omega arith

  pub all_placed : PlacesFilled w done
  all_placed =
      record {
        only = forms_only s w count;
        located = record { bodies = bodies; fields = fields };
      }
    where
      e : sheet_in done ≡ s
      e = same_sheet count

      bodies : (f n : ℕ) (code : List Instr) → f < length (sheet_in done).forms
          → body_in (row_of_form (sheet_in done) f).members (form_at (sheet_in done) f).parts n ≡ some code → BodyAt done f (cell done (place_address f n)) code
      bodies f n code l q =
          found→at done f (cell done (place_address f n)) code (places_whole w done (forms_only s w count) h) l
          (subst (λ (x : Sheet). PartFound (form_at x f).parts code 0 (cell done (place_address f n))) (sym e)
          (bodies_told f n code (subst (λ (x : Sheet). f < length x.forms) e l)
          (subst (λ (x : Sheet). body_in (row_of_form x f).members (form_at x f).parts n ≡ some code) e q)))

      fields : (f n i : ℕ) → f < length (sheet_in done).forms → field_place (row_of_form (sheet_in done) f).members n ≡ some i → cell done (place_address f n) ≡ i
      fields f n i l q =
          fields_told f n i (subst (λ (x : Sheet). f < length x.forms) e l)
          (subst (λ (x : Sheet). field_place (row_of_form x f).members n ≡ some i) e q)

-- what the table tells depends on the numbers below the slots' rows alone

module _ (w w' : List ℕ) (same : (i : ℕ) → i < slot_row_address 0 → cell w' i ≡ cell w i) where
  table_same : SameTable w w'
  table_same i h = same i (omega arith)

  pub BodyAt-same : (f j : ℕ) (is : List Instr) → BodyAt w f j is → BodyAt w' f j is
  BodyAt-same f j is b =
      record {
        inside = (let e = same (form_address f + 2) (omega arith) in omega (arith, b.inside));
        tag = λ z. b.tag (sym (same (part_address f j) (omega arith)) ∙ z);
        code =
            ap (λ (x : ℕ). instrs_in w' x (cell w' (part_address f j + 2))) (same (part_address f j + 1) (omega arith))
            ∙ ap (λ (x : ℕ). instrs_in w' (cell w (part_address f j + 1)) x) (same (part_address f j + 2) (omega arith))
            ∙ instrs_in_same w w' table_same (cell w (part_address f j + 1)) (cell w (part_address f j + 2))
            ∙ b.code;
      }

  pub Located-same : Located w → Located w'
  Located-same h = record { bodies = bodies; fields = fields }
    where
      e : sheet_in w' ≡ sheet_in w
      e = sheet_in_same w w' table_same

      bodies : (f n : ℕ) (code : List Instr) → f < length (sheet_in w').forms
          → body_in (row_of_form (sheet_in w') f).members (form_at (sheet_in w') f).parts n ≡ some code → BodyAt w' f (cell w' (place_address f n)) code
      bodies f n code l q =
          subst (λ (x : ℕ). BodyAt w' f x code) (sym (same (place_address f n) (omega arith)))
          (BodyAt-same f (cell w (place_address f n)) code
          (h.bodies f n code (subst (λ (x : Sheet). f < length x.forms) e l)
          (subst (λ (x : Sheet). body_in (row_of_form x f).members (form_at x f).parts n ≡ some code) e q)))

      fields : (f n i : ℕ) → f < length (sheet_in w').forms → field_place (row_of_form (sheet_in w') f).members n ≡ some i → cell w' (place_address f n) ≡ i
      fields f n i l q =
          same (place_address f n) (omega arith)
          ∙ h.fields f n i (subst (λ (x : Sheet). f < length x.forms) e l)
          (subst (λ (x : Sheet). field_place (row_of_form x f).members n ≡ some i) e q)
