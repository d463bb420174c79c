-- Notes on a form's parts, on a form and on all forms, and what leaves them as they are. Assumes nothing.
use Prim.Native.Nat.{ℕ, suc, ◌+◌, ◌≤◌, ◌<◌}
use native.Mathlib.Omega.{arith}
use native.Mathlib.Decide.{dec_le}
use mathlib.Core.Path.{◌≡◌, sym, ap, ◌∙◌, subst}
use mathlib.Core.Bool.{Bool, ◌||◌}
use mathlib.Core.List.{List}
use lib.ListN.{length}
use Rattle.lists.specs.AnyAll.{any}
use Rattle.lists.specs.Tab.{tab}
use Rattle.lists.proofs.AnyAllLaws.{any-tab}
use Rattle.lists.proofs.TabLaws.{length-tab}
use Rattle.sheet_rules.specs.Sheet.{Part, Sheet, part_names, form_names, form_at}
use Rattle.table.specs.Layout.{part_count_address, table_end, marks_end, form_notes_address, notes_end}
use Rattle.table.specs.Only.{Only}
use Rattle.table.specs.View.{cell, part_in, parts_in, sheet_in}
use Rattle.table.specs.Whole.{Whole}
use Rattle.table.proofs.SheetLaws.{forms_few, parts_are, parts-length, only_sheet, only_whole}
use Rattle.table.proofs.ViewLaws.{Only-refl, Only-trans, Only-widen, part_in_same}
use Rattle.slot_notes.specs.Noted.{note_count, is_noted, Room, NotesCleared, Noted, NotedAfresh, FormsTold, FormsNoted, FormsNotedIn}
use Rattle.slot_notes.proofs.NoteLaws.{Room-kept, notes_table, noted_below, noted_above, Noted-none, Noted-then, noted→afresh}

-- A PART

-- THE PARTS OF A FORM

-- the first n parts of form f name slot v
abbrev pub parts_name : List ℕ → ℕ → ℕ → ℕ → Bool
parts_name w f n v = any (λ p. part_names p v) (parts_in w f n)

pub parts_start : (at : ℕ) (w : List ℕ) (f : ℕ) → Noted at w (parts_name w f 0) w
unfolding any tab
parts_start at w f = Noted-none at w

pub parts_next : {at : ℕ} {w w₁ w₂ : List ℕ} (f j : ℕ) → Room at w → Noted at w (parts_name w f j) w₁
    → Noted at w₁ (part_names (part_in w₁ f j)) w₂ → Noted at w (parts_name w f (j + 1)) w₂
parts_next {at} {w} {w₁} f j r m n =
    Noted-then m n
    (λ v. ap (λ (p : Part). parts_name w f j v || part_names p v) (part_in_same w w₁ (notes_table r m.only) f j)
    ∙ sym (any-tab (λ p. part_names p v) (part_in w f) j))

module _ {w : List ℕ} {f : ℕ} (h : Whole w) (l : f < length (sheet_in w).forms) where
  pub form_small : f < 64
  form_small = omega (arith, forms_few w h)

  parts_counted : length (form_at (sheet_in w) f).parts ≡ cell w (part_count_address f)
  parts_counted = ap length (parts_are w f l) ∙ length-tab (part_in w f) (cell w (part_count_address f))

  module _ {count j : ℕ} (ec : count ≡ cell w (part_count_address f)) where
    pub part_small : j < count → j < 8
    part_small k = omega (arith, parts_counted, parts-length w h f l, (h.sheet.rows (form_at (sheet_in w) f).row).few)

    pub parts_end : {at : ℕ} {w' : List ℕ} → (j ≤ count) × Noted at w (parts_name w f j) w' → count ≤ j
        → Noted at w (form_names (form_at (sheet_in w) f)) w'
    parts_end {at} {w'} m k =
        let e : j ≡ cell w (part_count_address f) = omega (arith, m.0) in
        subst (λ (ps : List Part). Noted at w (λ v. any (λ p. part_names p v) ps) w') (ap (parts_in w f) e ∙ sym (parts_are w f l)) m.1

-- A BUFFER THAT IS CHANGED ABOVE THE TABLE

module _ {lo hi : ℕ} {w w' : List ℕ} (o : Only lo hi w w') (l : table_end ≤ lo) where
  pub forms_kept : length (sheet_in w').forms ≡ length (sheet_in w).forms
  forms_kept = ap (λ (s : Sheet). length s.forms) (only_sheet o l)

  -- the first n forms' notes, that are as they were
  pub told_kept : (n : ℕ)
      → ((f v : ℕ) → f < n → v < note_count → is_noted w' (form_notes_address f) v ≡ is_noted w (form_notes_address f) v)
      → FormsTold w n → FormsTold w' n
  told_kept n same told f v k u = same f v k u ∙ told f v k u ∙ ap (λ (s : Sheet). form_names (form_at s f) v) (sym (only_sheet o l))

  -- all forms' notes, where the change ends below them
  pub FormsNoted-kept : hi ≤ marks_end → FormsNoted w → FormsNoted w'
  FormsNoted-kept u told =
      subst (FormsTold w') (sym forms_kept)
      (told_kept (length (sheet_in w).forms) (λ f v k b. noted_above o (form_notes_address f) v (omega arith)) told)

-- A FORM

module _ {w : List ℕ} {f : ℕ} (h : Whole w) (l : f < length (sheet_in w).forms) {at : ℕ} (e : (at ≡ form_notes_address f) × (at ≤ 30544)) where
  pub form_room : Room at w
  form_room = record { above = omega (arith, e.0); inside = omega (arith, e.1); size = h.size }

  module _ {w₁ : List ℕ} (c : NotesCleared at w w₁) where
    table_below : table_end ≤ at
    table_below = omega (arith, e.0)

    pub cleared_asks : Room at w₁ × Whole w₁ × (f < length (sheet_in w₁).forms)
    cleared_asks = (
      Room-kept form_room c.only,
      only_whole c.only table_below h,
      omega (arith, forms_kept c.only table_below),
    )

    pub form_noted : {w₂ : List ℕ} → Noted at w₁ (form_names (form_at (sheet_in w₁) f)) w₂
        → NotedAfresh (form_notes_address f) w (form_names (form_at (sheet_in w) f)) w₂
    form_noted {w₂} m =
        subst (λ (x : ℕ). NotedAfresh x w (form_names (form_at (sheet_in w) f)) w₂) e.0
        (noted→afresh c m (λ v. ap (λ (a : Sheet). form_names (form_at a f) v) (only_sheet c.only table_below)))

-- ALL FORMS

pub forms_start : (w : List ℕ) → FormsNotedIn w 0 w
forms_start w = record { only = Only-refl marks_end notes_end w; told = λ f v h u. absurd (omega arith) }

module _ {w w₁ : List ℕ} {f : ℕ} (m : FormsNotedIn w f w₁) where
  pub next_asks : {count : ℕ} → Whole w → count ≡ length (sheet_in w).forms → f < count
      → Whole w₁ × (f < length (sheet_in w₁).forms)
  next_asks h e l = (only_whole m.only (omega arith) h, omega (arith, forms_kept m.only (omega arith)))

  pub forms_next : {count : ℕ} {w₂ : List ℕ} → count ≤ 64 → f < count
      → NotedAfresh (form_notes_address f) w₁ (form_names (form_at (sheet_in w₁) f)) w₂ → FormsNotedIn w (f + 1) w₂
  forms_next {w₂ = w₂} few l n =
      record {
        only = Only-trans m.only (Only-widen (omega arith) (omega arith) n.only);
        told = λ g v k u. go g v k u (dec_le (suc g) f);
      }
    where
      go : (g v : ℕ) → g < f + 1 → v < note_count → Dec (suc g ≤ f)
          → is_noted w₂ (form_notes_address g) v ≡ form_names (form_at (sheet_in w₂) g) v
      go g v k u (yes b) =
          told_kept n.only (omega arith) f (λ i x p q. noted_below n.only (form_notes_address i) x (omega arith)) m.told g v b u
      go g v k u (no b) =
          let e : f ≡ g = omega arith in
          subst (λ (i : ℕ). is_noted w₂ (form_notes_address i) v ≡ form_names (form_at (sheet_in w₂) i) v) e
          (n.told v u ∙ ap (λ (s : Sheet). form_names (form_at s f) v) (sym (only_sheet n.only (omega arith))))

  pub forms_end : {count : ℕ} → count ≡ length (sheet_in w).forms → count ≤ f
      → FormsNotedIn w (length (sheet_in w).forms) w₁
  forms_end e l = record { only = m.only; told = λ g v k u. m.told g v (omega arith) u }

-- what the notes of all forms tell, in the buffer that holds them
pub forms_noted : {w w' : List ℕ} → FormsNotedIn w (length (sheet_in w).forms) w' → FormsNoted w'
forms_noted {w} {w'} m = subst (FormsTold w') (sym (forms_kept m.only (omega arith))) m.told
