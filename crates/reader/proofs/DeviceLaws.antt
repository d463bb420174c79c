-- Reading the devices, or finding none, and then main: a law for each exit. Assumes nothing.
use Prim.Native.Nat.{ℕ, ◌+◌, ◌≤◌}
use native.Mathlib.Omega.{arith}
use mathlib.Core.Path.{◌≡◌, refl, sym, ap, ◌∙◌, subst}
use mathlib.Core.Bool.{Bool, true, false, cond, not}
use mathlib.Core.List.{List, []}
use lib.ListN.{length, drop, set}
use lib.Seq.{get_or-set_same}
use borrow.Author.Tests.{not-true, not-false}
use Rattle.lists.specs.Tab.{tab}
use Rattle.lists.proofs.TabLaws.{length-tab, tab_ext}
use Rattle.lists.proofs.Tests.{clash}
use Rattle.sheet_rules.specs.declared.Place.{Place}
use Rattle.sheet_rules.specs.declared.Reason.TheVariants.{Malformed}
use Rattle.sheet_rules.specs.declared.Verdict.{Verdict}
use Rattle.sheet_rules.specs.Limits.{device_limit}
use Rattle.sheet_rules.specs.Lines.{Line, lines_of}
use Rattle.sheet_rules.specs.Sheet.{Row, Form, size_of_forms}
use Rattle.sheet_rules.specs.Reader.{refused, give, and_then, count_line}
use Rattle.sheet_rules.specs.FormLines.{body_line}
use Rattle.sheet_rules.specs.DeviceLines.{next_is, read_device_lines, read_devices}
use Rattle.sheet_rules.specs.Reading.{conclude}
use Rattle.sheet_rules.proofs.ReaderLaws.{Gives, its_got}
use Rattle.sheet_rules.proofs.DeviceLinesLaws.{WellFormedDevices, device_lines}
use Rattle.table.specs.Layout.{device_count_at, device_address, row_address, work_size}
use Rattle.table.specs.View.{cell, row_in, rows_in, form_in, forms_in, devices_in}
use Rattle.table.specs.Only.{Only}
use Rattle.table.specs.Ready.{Ready}
use Rattle.table.proofs.ViewLaws.{Only-trans, Only-widen, Only-set}
use Rattle.lexer.proofs.LineLaws.{Refusing}
use Rattle.line_judges.proofs.StrictLaws.{Strict-count, Strict-body, one-Refusing}
use Rattle.line_reader.specs.declared.Cursor.{Cursor}
use Rattle.line_reader.specs.Told.{Room, NextTold, read_from, got_at, read_told}
use Rattle.reader_loop.proofs.LoopLaws.{Moved-on}
use Rattle.reader_loop.proofs.ThenLaws.{then_stop, Moved-then, moved_stop}
use Rattle.number_reader.specs.Reads.{DevicesRead}
use Rattle.form_reader.specs.Reads.{FormsUsed}
use Rattle.reader.specs.Reads.{instrs_rest, main_rest, devices_rest, RestRead}
use Rattle.reader.proofs.MainLaws.{counts_row, counts_form, counts_ends, refused_by, rest_refused}
use Rattle.std.specs.declared.result.Result.{Result}
use Rattle.std.specs.declared.result.Result.TheVariants.{Ok, Err}
use Rattle.sheet_rules.specs.declared.Refusal.{Refusal}
use Rattle.sheet_rules.specs.Answers.{verdict_from}
use Rattle.line_reader.proofs.ExitLaws.{Passes}

-- WHETHER THERE ARE DEVICES

module _ (rows : List Row) (f : ℕ) (forms : List Form) (ls : List Line) (n : ℕ) where
  some_lines : next_is Place.Devices ls ≡ true → devices_rest rows f forms ls n ≡ and_then (read_device_lines f ls n) (main_rest rows f forms)
  unfolding devices_rest read_devices
  some_lines e = ap (λ (b : Bool). and_then (cond b (read_device_lines f ls n) (give [] ls n)) (main_rest rows f forms)) e

  no_lines : next_is Place.Devices ls ≡ false → devices_rest rows f forms ls n ≡ main_rest rows f forms [] ls n
  unfolding devices_rest read_devices and_then
  no_lines e = ap (λ (b : Bool). and_then (cond b (read_device_lines f ls n) (give [] ls n)) (main_rest rows f forms)) e

  -- a line that no place takes is refused, whichever was wanted
  untaken_lines : Refusing ls → devices_rest rows f forms ls n ≡ main_rest rows f forms [] ls n
  unfolding read_device_lines main_rest
  untaken_lines r = go (next_is Place.Devices ls) refl
    where
      main-stops : main_rest rows f forms [] ls n ≡ refused Malformed n
      main-stops =
          then_stop _ (instrs_rest rows f forms []) Malformed n
          (sym (one-Refusing (body_line Place.Main (size_of_forms forms)) (Strict-body Place.Main (size_of_forms forms)) ls n r))

      devices-stop : read_device_lines f ls n ≡ refused Malformed n
      devices-stop = then_stop _ _ Malformed n (sym (one-Refusing (count_line Place.Devices 1 device_limit) (Strict-count Place.Devices 1 device_limit) ls n r))

      go : (b : Bool) → next_is Place.Devices ls ≡ b → devices_rest rows f forms ls n ≡ main_rest rows f forms [] ls n
      go true e = some_lines e ∙ then_stop _ (main_rest rows f forms) Malformed n (sym devices-stop) ∙ sym main-stops
      go false e = no_lines e

-- by what was told of the next line
module _ (rows : List Row) (f : ℕ) (forms : List Form) (text : List ℕ) (from : Cursor) {b : Bool} (told : NextTold Place.Devices (lines_of (drop from.at text)) b) where
  pub rest_with : b ≡ true → read_from text from (devices_rest rows f forms) ≡ and_then (read_from text from (read_device_lines f)) (main_rest rows f forms)
  rest_with e = go told e
    where
      go : {b : Bool} → NextTold Place.Devices (lines_of (drop from.at text)) b → b ≡ true
          → read_from text from (devices_rest rows f forms) ≡ and_then (read_from text from (read_device_lines f)) (main_rest rows f forms)
      go (NextTold.told h) e = some_lines rows f forms (lines_of (drop from.at text)) from.line (sym h ∙ e)
      go (NextTold.untaken r) e = clash (cc)

  pub rest_without : b ≡ false → read_from text from (devices_rest rows f forms) ≡ read_from text from (main_rest rows f forms [])
  rest_without e = go told e
    where
      go : {b : Bool} → NextTold Place.Devices (lines_of (drop from.at text)) b → b ≡ false
          → read_from text from (devices_rest rows f forms) ≡ read_from text from (main_rest rows f forms [])
      go (NextTold.told h) e = no_lines rows f forms (lines_of (drop from.at text)) from.line (sym h ∙ e)
      go (NextTold.untaken r) e = untaken_lines rows f forms (lines_of (drop from.at text)) from.line r

-- A BUFFER IN WHICH THE DEVICES ALONE HAVE CHANGED

module _ {w w₁ : List ℕ} (o : Only device_count_at (row_address 0) w w₁) where
  wide_only : Only 0 (row_address 0) w w₁
  wide_only = Only-widen (omega arith) (omega arith) o

  pub devices_ready : {rows : ℕ} → Ready rows w → Ready rows w₁
  devices_ready r =
      record {
        size = omega (arith, o.size, r.size);
        rows = r.rows;
        few = λ i h. (let a = o.above (row_address i + 1) (omega arith) in omega (arith, r.few i h));
      }

  rows_same : (rows : ℕ) → rows_in w₁ rows ≡ rows_in w rows
  rows_same rows = tab_ext (row_in w₁) (row_in w) rows (λ i h. counts_row w w₁ wide_only i)

  forms_same : (forms : ℕ) → forms_in w₁ forms ≡ forms_in w forms
  forms_same forms = tab_ext (form_in w₁) (form_in w) forms (λ i h. counts_form w w₁ wide_only i)

  pub devices_used : {forms u : ℕ} → FormsUsed w forms u → FormsUsed w₁ forms u
  devices_used {forms} {u} by =
      record { counted = by.counted ∙ sym (ap size_of_forms (forms_same forms)); ends = λ f h. counts_ends w w₁ wide_only f u (by.ends f h) }

  -- main was read after devices that the buffer holds
  rest_read : (rows forms : ℕ) (text : List ℕ) (from to : Cursor) {w' : List ℕ} {v : Verdict} (devices : List ℕ) → devices_in w₁ (cell w₁ device_count_at) ≡ devices
      → read_from text from (devices_rest (rows_in w rows) forms (forms_in w forms)) ≡ read_from text to (main_rest (rows_in w rows) forms (forms_in w forms) devices)
      → RestRead text (main_rest (rows_in w₁ rows) forms (forms_in w₁ forms) (devices_in w₁ (cell w₁ device_count_at))) to w₁ w' v
      → RestRead text (devices_rest (rows_in w rows) forms (forms_in w forms)) from w w' v
  rest_read rows forms text from to devices e same k =
      record {
        told =
            k.told
            ∙ (λ i. conclude (read_from text to (main_rest (rows_same rows i) forms (forms_same forms i) (e i))))
            ∙ sym (ap conclude same);
        only = Only-trans (Only-widen (omega arith) (omega arith) o) k.only;
        placed = k.placed;
      }

-- NO DEVICES

module _ (w : List ℕ) {w₁ : List ℕ} (stored : w₁ ≡ set w device_count_at 0) where
  pub none_only : Only device_count_at (row_address 0) w w₁
  none_only = subst (Only device_count_at (row_address 0) w) (sym stored) (Only-set device_count_at (row_address 0) w device_count_at 0 (omega arith) (omega arith))

  pub none_counted : work_size ≤ length w → cell w₁ device_count_at ≡ 0
  none_counted size = ap (λ (x : List ℕ). cell x device_count_at) stored ∙ get_or-set_same w device_count_at 0 0 (omega arith)

  pub none_read : work_size ≤ length w → (rows forms : ℕ) (text : List ℕ) (from : Cursor) {b : Bool} → NextTold Place.Devices (lines_of (drop from.at text)) b → not b ≡ true
      → {w' : List ℕ} {v : Verdict} → RestRead text (main_rest (rows_in w₁ rows) forms (forms_in w₁ forms) (devices_in w₁ (cell w₁ device_count_at))) from w₁ w' v
      → RestRead text (devices_rest (rows_in w rows) forms (forms_in w forms)) from w w' v
  unfolding tab
  none_read size rows forms text from {b} asked e k =
      rest_read none_only rows forms text from from [] (ap (devices_in w₁) (none_counted size))
      (rest_without (rows_in w rows) forms (forms_in w forms) text from asked (not-true b e)) k

-- SOME DEVICES

module _ (rows forms : ℕ) (text : List ℕ) (from : Cursor) (w : List ℕ) {b : Bool} (told : NextTold Place.Devices (lines_of (drop from.at text)) b) (there : not b ≡ false)
    {w₁ : List ℕ} {r : Result Cursor Refusal} (m : DevicesRead text forms from w w₁ r) where
  pub some_refused : {q : Refusal} → r ≡ Err q → (s : Result Unit Refusal) → Passes s q
      → RestRead text (devices_rest (rows_in w rows) forms (forms_in w forms)) from w w₁ (verdict_from s)
  some_refused c s h =
      rest_refused (refused_by s h)
      (rest_with (rows_in w rows) forms (forms_in w forms) text from told (not-false b there)
      ∙ moved_stop text (main_rest (rows_in w rows) forms (forms_in w forms)) (devices_in w₁ (cell w₁ device_count_at)) m.told c)
      (Only-widen (omega arith) (omega arith) m.only)

  module _ {to : Cursor} (moved : r ≡ Ok to) where
    pub some_room : Room text to × (to.used ≡ from.used)
    some_room = let x = Moved-on moved m.advanced in (x.room, x.pool)

    pub some_few : cell w₁ device_count_at ≤ 8
    some_few =
        go (devices_in w₁ (cell w₁ device_count_at)) (length-tab (λ i. cell w₁ (device_address i)) (cell w₁ device_count_at))
        (subst (Gives (WellFormedDevices forms)) (sym (ap (λ (x : Result Cursor Refusal). read_told text x (devices_in w₁ (cell w₁ device_count_at))) (sym moved) ∙ m.told))
        (device_lines forms (lines_of (drop from.at text)) from.line))
      where
        go : (fs : List ℕ) → length fs ≡ cell w₁ device_count_at → Gives (WellFormedDevices forms) (got_at text to fs) → cell w₁ device_count_at ≤ 8
        go fs e (its_got x) = omega (arith, x.few, e)

    pub some_read : {w' : List ℕ} {v : Verdict}
        → RestRead text (main_rest (rows_in w₁ rows) forms (forms_in w₁ forms) (devices_in w₁ (cell w₁ device_count_at))) to w₁ w' v
        → RestRead text (devices_rest (rows_in w rows) forms (forms_in w forms)) from w w' v
    some_read k =
        rest_read m.only rows forms text from to (devices_in w₁ (cell w₁ device_count_at)) refl
        (rest_with (rows_in w rows) forms (forms_in w forms) text from told (not-false b there)
        ∙ Moved-then text (main_rest (rows_in w rows) forms (forms_in w forms)) (devices_in w₁ (cell w₁ device_count_at)) m.told moved)
        k
