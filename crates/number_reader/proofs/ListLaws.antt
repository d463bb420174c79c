-- The numbers of a list: what a turn of their loop needs; and the lists that a sheet has, the kept rows of a form and the devices.
-- Assumes nothing.
use Prim.Native.Nat.{ℕ, ◌+◌, ◌≤◌, ◌<◌}
use native.Mathlib.Omega.{arith}
use mathlib.Core.Path.{◌≡◌, sym, ap, ◌∙◌, subst}
use mathlib.Core.List.{List, []}
use lib.ListN.{length, drop, set}
use lib.Seq.{get_or-set_same}
use Rattle.lists.specs.Tab.{tab}
use Rattle.lists.proofs.TabLaws.{tab_ext}
use Rattle.sheet_rules.specs.declared.Place.{Place}
use Rattle.sheet_rules.specs.Limits.{device_limit}
use Rattle.sheet_rules.specs.Lines.{lines_of}
use Rattle.sheet_rules.specs.Reader.{Reader, one, many, count_line, existing_line}
use Rattle.sheet_rules.specs.DeviceLines.{read_device_lines}
use Rattle.sheet_rules.proofs.ReaderLaws.{Gives-one, count_line_within}
use Rattle.table.specs.Layout.{device_count_at, device_address, row_address, keep_address, work_size}
use Rattle.table.specs.View.{cell, devices_in}
use Rattle.table.specs.Only.{Only}
use Rattle.table.proofs.ViewLaws.{Only-trans, Only-widen, Only-set}
use Rattle.line_reader.specs.declared.Cursor.{Cursor}
use Rattle.line_reader.specs.declared.TakenLine.{TakenLine}
use Rattle.line_reader.specs.Told.{number, read_told, LineTold, Advanced}
use Rattle.reader_loop.proofs.LoopLaws.{Going, Turn, read_within}
use Rattle.reader_loop.proofs.ThenLaws.{past, line_then, line_stop, line_gives, item_refused, Advanced-sooner}
use Rattle.number_reader.specs.declared.Listed.{Listed}
use Rattle.number_reader.specs.Reads.{Existing, NumberRead, number_items, NumbersRead, KeepsRead, DevicesRead}
use Rattle.std.specs.declared.result.Result.{Result}
use Rattle.std.specs.declared.result.Result.TheVariants.{Ok, Err}
use Rattle.sheet_rules.specs.declared.Refusal.{Refusal}
use Rattle.line_reader.proofs.ExitLaws.{Passes}
use Rattle.sheet_rules.specs.Reader.{nth}

pub number_turn : (l : Listed) {text : List ℕ} {used : ℕ} {from : Cursor} {w₀ w : List ℕ} {j : ℕ} {here : Cursor} → Going text (number_items l used) l.count from w₀ w j here
    → j < l.count → {w' : List ℕ} {r : Result Cursor Refusal} → NumberRead text l j here w w' r → Turn text (number_items l used) w j here w' r
number_turn l {w = w} {j = j} g h {w'} m =
    record {
      read = read_within (omega arith) (omega arith) g.pool m;
      kept = tab_ext (λ i. cell w' (l.at + i)) (λ i. cell w (l.at + i)) j (λ k u. m.only.below (l.at + k) (omega arith));
    }

-- A FORM'S KEPT ROWS

pub keep_existing : Existing Place.Keep
keep_existing bound text c p t = t

abbrev pub keep_list : (rows at count : ℕ) → Listed
keep_list rows at count = record { wanted = Place.Keep; bound = rows; at = at; count = count }

pub keeps_read : {text : List ℕ} (f count rows : ℕ) {from : Cursor} {w w' : List ℕ} {r : Result Cursor Refusal} {at : ℕ} → count ≤ 8 → at ≡ keep_address f 0
    → NumbersRead text (keep_list rows at count) from w w' r → KeepsRead text f count rows from w w' r
keeps_read {text} f count rows {w' = w'} {r = r} {at = at} few e m =
    record {
      told =
          ap (λ (xs : List ℕ). read_told text r xs)
          (tab_ext (λ j. cell w' (keep_address f j)) (λ j. cell w' (at + j)) count (λ j h. ap (cell w') (let z : keep_address f j ≡ at + j = omega arith in z)))
          ∙ m.told;
      only = Only-widen (omega arith) (omega arith) m.only;
      advanced = m.advanced;
    }

-- THE DEVICES

pub device_existing : Existing Place.Device
device_existing bound text c p t = t

-- the rest of the devices, after how many they are
abbrev device_rest : ℕ → ℕ → Reader (List ℕ)
device_rest forms d = many d (λ before. one (existing_line Place.Device forms)) []

abbrev pub device_list : (forms at count : ℕ) → Listed
device_list forms at count = record { wanted = Place.Device; bound = forms; at = at; count = count }

-- by what the reader of the `devices` line gave
module _ {text : List ℕ} (forms : ℕ) {from : Cursor} (w : List ℕ) {p : Result TakenLine Refusal} (told : LineTold Place.Devices 0 text from p) where
  pub devices_refused : {q : Refusal} → p ≡ Err q → {r : Result Cursor Refusal} → Passes r q → DevicesRead text forms from w w r
  unfolding read_device_lines
  devices_refused e = item_refused _ _ _ device_count_at (row_address 0) from w (line_stop text number (device_rest forms) told.told e)

  module _ {head : TakenLine} (e : p ≡ Ok head) where
    pub devices_few : nth head.numbers.values 0 ≤ 8
    devices_few =
        let within = line_gives text number told.told e (λ d. (1 ≤ d) × (d ≤ device_limit))
        (Gives-one (λ d. (1 ≤ d) × (d ≤ device_limit)) (count_line Place.Devices 1 device_limit) (count_line_within Place.Devices 1 device_limit) (lines_of (drop from.at text)) from.line) in
        within.1

    module _ (size : work_size ≤ length w) {w₁ : List ℕ} (stored : w₁ ≡ set w device_count_at (nth head.numbers.values 0)) {at count : ℕ} (at-is : at ≡ device_address 0) (count-is : count ≡ nth head.numbers.values 0) where
      pub devices_room : at + count ≤ length w₁
      devices_room = omega (arith, at-is, count-is, devices_few, ap length stored, (Only-set 0 8 w device_count_at (nth head.numbers.values 0) (omega arith) (omega arith)).size, size)

      pub devices_read : {w' : List ℕ} {r : Result Cursor Refusal} → NumbersRead text (device_list forms at count) head.next w₁ w' r → DevicesRead text forms from w w' r
      unfolding read_device_lines
      devices_read {w'} {r} m =
          let q = past e told.onward in
          record {
            told = ap (λ (xs : List ℕ). read_told text r xs) values ∙ m.told ∙ sym (line_then text number (device_rest forms) told.told e ∙ ap (λ (d : ℕ). device_rest forms d (lines_of (drop head.next.at text)) head.next.line) (sym count-is));
            only = Only-trans counted (Only-widen (omega arith) (omega (arith, devices_few)) m.only);
            advanced = subst (λ (u : ℕ). Advanced text from u r) q.pool (Advanced-sooner (let z : from.at ≤ head.next.at = omega (arith, q.later) in z) m.advanced);
          }
        where
          counted : Only device_count_at (row_address 0) w w₁
          counted = subst (Only device_count_at (row_address 0) w) (sym stored) (Only-set device_count_at (row_address 0) w device_count_at (nth head.numbers.values 0) (omega arith) (omega arith))

          count-there : cell w' device_count_at ≡ count
          count-there =
              m.only.below device_count_at (omega arith) ∙ ap (λ (x : List ℕ). cell x device_count_at) stored ∙ get_or-set_same w device_count_at (nth head.numbers.values 0) 0 (omega arith) ∙ sym count-is

          values : devices_in w' (cell w' device_count_at) ≡ tab (λ j. cell w' (at + j)) count
          values =
              ap (devices_in w') count-there
              ∙ tab_ext (λ i. cell w' (device_address i)) (λ j. cell w' (at + j)) count (λ j h. ap (cell w') (let z : device_address j ≡ at + j = omega (arith, devices_few) in z))
