-- The sheet of a whole buffer, by the numbers that the accessors read, and in a buffer that is changed above the table. Assumes nothing.
use Prim.Native.Nat.{ℕ, suc, ◌+◌, ◌≤◌, ◌<◌}
use native.Mathlib.Omega.{arith}
use native.Mathlib.Decide.{dec_le}
use mathlib.Core.Path.{◌≡◌, sym, ap, ◌∙◌, subst}
use mathlib.Core.List.{List}
use lib.ListN.{length, get_or, get_or-eq_default}
use Rattle.lists.specs.Pairwise.{Pairwise}
use Rattle.lists.proofs.InLaws.{In-get_or}
use Rattle.lists.proofs.PairwiseLaws.{Pairwise-length}
use Rattle.lists.proofs.TabLaws.{length-tab, get_or-tab}
use Rattle.sheet_rules.specs.Sheet.{Row, Part, init, Form, no_row, no_member, no_form, row_at, form_at, device_at}
use Rattle.sheet_rules.specs.WellFormed.{WellFormedRow, PartOf, WellFormedForm, WellFormed}
use Rattle.table.specs.Layout.{row_count_at, form_count_at, main_start_at, main_count_at, device_count_at, device_address, row_address, form_address, keep_address, keep_count_address, table_end}
use Rattle.table.specs.View.{cell, member_in, row_in, rows_in, instr_in, instrs_in, part_in, parts_in, keeps_in, form_in, sheet_in}
use Rattle.table.specs.Only.{Only}
use Rattle.table.specs.Ready.{Ready}
use Rattle.table.specs.Whole.{Whole}
use Rattle.table.proofs.ViewLaws.{only→same, sheet_in_same}
use Rattle.table.proofs.RowLaws.{rows-length, rows_ready, members-length, members-get_or}

module _ (w : List ℕ) where
  -- rows

  pub row_there : (a : ℕ) → a < cell w row_count_at → row_at (sheet_in w).rows a ≡ row_in w a
  unfolding sheet_in
  row_there a h = get_or-tab (row_in w) (cell w row_count_at) a no_row h

  pub row_missing : (a : ℕ) → cell w row_count_at ≤ a → row_at (sheet_in w).rows a ≡ no_row
  row_missing a h = get_or-eq_default (sheet_in w).rows no_row (omega (arith, rows-length w))

  -- forms

  pub forms-length : length (sheet_in w).forms ≡ cell w form_count_at
  unfolding sheet_in
  forms-length = length-tab (form_in w) (cell w form_count_at)

  pub form_there : (f : ℕ) → f < length (sheet_in w).forms → form_at (sheet_in w) f ≡ form_in w f
  unfolding sheet_in
  form_there f h = get_or-tab (form_in w) (cell w form_count_at) f no_form (omega (arith, forms-length))

  pub form_missing : (f : ℕ) → length (sheet_in w).forms ≤ f → form_at (sheet_in w) f ≡ no_form
  form_missing f h = get_or-eq_default (sheet_in w).forms no_form h

  pub form_keeps_are : (f : ℕ) → (form_in w f).keeps ≡ keeps_in w f (cell w (form_address f + 1))
  unfolding form_in
  form_keeps_are f = λ x. keeps_in w f (cell w (form_address f + 1))

  pub keeps-length : (f : ℕ) → length (form_in w f).keeps ≡ cell w (form_address f + 1)
  keeps-length f = ap length (form_keeps_are f) ∙ length-tab (λ j. cell w (keep_address f j)) (cell w (form_address f + 1))

  pub keep_there : (f j : ℕ) → j < length (form_in w f).keeps → get_or (form_in w f).keeps j 0 ≡ cell w (keep_address f j)
  keep_there f j h =
      ap (λ (ks : List ℕ). get_or ks j 0) (form_keeps_are f)
      ∙ get_or-tab (λ i. cell w (keep_address f i)) (cell w (form_address f + 1)) j 0 (omega (arith, keeps-length f))

  -- a whole buffer's counts are within their limits

  module _ (h : Whole w) where
    rows_well : (i : ℕ) → WellFormedRow i (row_at (rows_in w (cell w row_count_at)) i)
    unfolding sheet_in
    rows_well i = h.sheet.rows i

    pub sheet_rows_ready : Ready (cell w row_count_at) w
    sheet_rows_ready = let k = h.sheet.few_rows in rows_ready (cell w row_count_at) w h.size (omega (arith, rows-length w)) rows_well

    pub rows_few : cell w row_count_at ≤ 64
    rows_few = sheet_rows_ready.rows

    pub forms_few : length (sheet_in w).forms ≤ 64
    forms_few = h.sheet.few_forms

    pub form_well : (f : ℕ) → f < length (sheet_in w).forms → WellFormedForm (sheet_in w).rows (length (sheet_in w).forms) (form_at (sheet_in w) f)
    form_well f l = h.sheet.forms (form_at (sheet_in w) f) (In-get_or (sheet_in w).forms f no_form l)

    pub keeps_few : (f : ℕ) → f < length (sheet_in w).forms → length (form_at (sheet_in w) f).keeps ≤ 8
    keeps_few f l = (form_well f l).few

  -- how many rows a form keeps, and each of them, as the rules have it
  pub keeps_counted : (f : ℕ) → f < length (sheet_in w).forms → cell w (keep_count_address f) ≡ length (form_at (sheet_in w) f).keeps
  keeps_counted f h = sym (ap (λ (a : Form). length a.keeps) (form_there f h) ∙ keeps-length f)

  pub kept_form : (f j : ℕ) → j < length (form_at (sheet_in w) f).keeps → f < length (sheet_in w).forms
  kept_form f j k = go (dec_le (suc f) (length (sheet_in w).forms))
    where
      go : Dec (suc f ≤ length (sheet_in w).forms) → f < length (sheet_in w).forms
      go (yes l) = l
      go (no l) =
          let e : length (form_at (sheet_in w) f).keeps ≡ 0 = ap (λ (a : Form). length a.keeps) (form_missing f (omega arith)) in
          absurd (omega arith)

  pub keep_at : (f j : ℕ) → j < length (form_at (sheet_in w) f).keeps → cell w (keep_address f j) ≡ get_or (form_at (sheet_in w) f).keeps j 0
  keep_at f j k =
      let e : form_at (sheet_in w) f ≡ form_in w f = form_there f (kept_form f j k) in
      sym (ap (λ (a : Form). get_or a.keeps j 0) e ∙ keep_there f j (subst (λ (a : Form). j < length a.keeps) e k))

  pub kept_small : Whole w → (f j : ℕ) → j < length (form_at (sheet_in w) f).keeps → j < 8
  kept_small h f j k = omega (arith, keeps_few h f (kept_form f j k))

  -- a member of a row, as the rules have it
  module _ (h : Whole w) (a j : ℕ) (k : j < length (row_at (sheet_in w).rows a).members) where
    row_is_there : Dec (suc a ≤ cell w row_count_at) → a < cell w row_count_at
    row_is_there (yes l) = l
    row_is_there (no l) =
        let e : length (row_at (sheet_in w).rows a).members ≡ 0 = ap (λ (r : Row). length r.members) (row_missing a (omega arith)) in
        absurd (omega arith)

    pub member_row : a < cell w row_count_at
    member_row = row_is_there (dec_le (suc a) (cell w row_count_at))

    pub member_row_small : a < 64
    member_row_small = omega (arith, member_row, (sheet_rows_ready h).rows)

    counted : length (row_at (sheet_in w).rows a).members ≡ cell w (row_address a + 1)
    counted = ap (λ (r : Row). length r.members) (row_there a member_row) ∙ members-length w a

    pub member_small : j < 8
    member_small = omega (arith, counted, (sheet_rows_ready h).few a member_row)

    pub member_there : get_or (row_at (sheet_in w).rows a).members j no_member ≡ member_in w a j
    member_there = ap (λ (r : Row). get_or r.members j no_member) (row_there a member_row) ∙ members-get_or w a j (omega (arith, counted))

  -- the parts of a form, one for each member of its row

  pub parts_are : (f : ℕ) → f < length (sheet_in w).forms → (form_at (sheet_in w) f).parts ≡ parts_in w f (cell w (form_address f + 2))
  unfolding form_in
  parts_are f h = ap (λ (a : Form). a.parts) (form_there f h)

  module _ (h : Whole w) (f : ℕ) (l : f < length (sheet_in w).forms) where
    pub parts-Pairwise : Pairwise (PartOf (length (sheet_in w).forms) (length (form_at (sheet_in w) f).keeps)) (row_at (sheet_in w).rows (form_at (sheet_in w) f).row).members (form_at (sheet_in w) f).parts
    parts-Pairwise = (form_well h f l).parts

    pub parts-length : length (form_at (sheet_in w) f).parts ≡ length (row_at (sheet_in w).rows (form_at (sheet_in w) f).row).members
    parts-length = sym (Pairwise-length parts-Pairwise)

    pub part_there : (j : ℕ) → j < length (form_at (sheet_in w) f).parts → get_or (form_at (sheet_in w) f).parts j (init 0) ≡ part_in w f j
    part_there j k =
        let n : length (form_at (sheet_in w) f).parts ≡ cell w (form_address f + 2) = ap length (parts_are f l) ∙ length-tab (part_in w f) (cell w (form_address f + 2)) in
        ap (λ (ps : List Part). get_or ps j (init 0)) (parts_are f l) ∙ get_or-tab (part_in w f) (cell w (form_address f + 2)) j (init 0) (omega arith)

  -- devices

  pub devices-length : length (sheet_in w).devices ≡ cell w device_count_at
  unfolding sheet_in
  devices-length = length-tab (λ i. cell w (device_address i)) (cell w device_count_at)

  pub device_there : (i : ℕ) → i < length (sheet_in w).devices → device_at (sheet_in w) i ≡ cell w (device_address i)
  unfolding sheet_in
  device_there i h = get_or-tab (λ k. cell w (device_address k)) (cell w device_count_at) i 0 (omega (arith, devices-length))

  pub devices_few : Whole w → length (sheet_in w).devices ≤ 8
  devices_few h = h.sheet.few_devices

  -- main

  pub main_is : instrs_in w (cell w main_start_at) (cell w main_count_at) ≡ (sheet_in w).main
  unfolding sheet_in
  main_is = λ x. instrs_in w (cell w main_start_at) (cell w main_count_at)

  pub main_few : Whole w → cell w main_count_at ≤ 32
  main_few h =
      let a = h.sheet.main.few in
      let b : length (instrs_in w (cell w main_start_at) (cell w main_count_at)) ≡ length (sheet_in w).main = ap length main_is in
      let c = length-tab (λ k. instr_in w (cell w main_start_at + k)) (cell w main_count_at) in
      omega arith

-- A BUFFER THAT IS CHANGED ABOVE THE TABLE

module _ {lo hi : ℕ} {w w' : List ℕ} (o : Only lo hi w w') (l : table_end ≤ lo) where
  pub only_sheet : sheet_in w' ≡ sheet_in w
  only_sheet = sheet_in_same w w' (only→same lo hi w w' l o)

  pub only_whole : Whole w → Whole w'
  only_whole h = record { size = omega (arith, h.size, o.size); sheet = subst WellFormed (sym only_sheet) h.sheet }
