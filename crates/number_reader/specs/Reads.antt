-- What reading lines of one number into the table ensures: any list of them, a form's kept rows, and the devices. Stands on reading,
-- the table's view, and the readers of items.
use Rattle.std.specs.Prelude.{ℕ, ◌+◌, ◌≡◌, List}
use Rattle.sheet_rules.specs.declared.Place.{Place}
use Rattle.sheet_rules.specs.Reader.{one, existing_line}
use Rattle.sheet_rules.specs.DeviceLines.{read_device_lines}
use Rattle.table.specs.Layout.{device_count_at, row_address, keep_address, part_address}
use Rattle.table.specs.View.{cell, devices_in}
use Rattle.line_reader.specs.declared.Cursor.{Cursor}
use Rattle.line_reader.specs.declared.TakenLine.{TakenLine}
use Rattle.line_reader.specs.Told.{read_from, number, line_read, Tells}
use Rattle.reader_loop.specs.Items.{ItemRead, Items, ItemsRead}
use Rattle.number_reader.specs.declared.Listed.{Listed}
use Rattle.std.specs.declared.result.Result.{Result}
use Rattle.sheet_rules.specs.declared.Refusal.{Refusal}

-- a place whose lines have one number, of something that is there
abbrev pub Existing : Place → Type 0
Existing k = (bound : ℕ) (text : List ℕ) (c : Cursor) (p : Result TakenLine Refusal) → Tells k bound text c p → line_read text number p ≡ read_from text c (one (existing_line k bound))

-- number j of a list, read
abbrev pub NumberRead : List ℕ → Listed → (j : ℕ) → Cursor → (w w' : List ℕ) → Result Cursor Refusal → Type 0
NumberRead text l j from w w' r =
    ItemRead text (one (existing_line l.wanted l.bound)) (λ x. cell x (l.at + j)) (λ x. from.used) (l.at + j) (l.at + j + 1) from w w' r

-- the numbers of a list, read after `used` instructions
abbrev pub number_items : Listed → (used : ℕ) → Items ℕ
number_items l used =
    record {
      item = λ before. one (existing_line l.wanted l.bound);
      value = λ x j. cell x (l.at + j);
      used = λ x j. used;
      lo = l.at;
      hi = l.at + l.count;
    }

-- all numbers of a list, read
abbrev pub NumbersRead : List ℕ → Listed → Cursor → (w w' : List ℕ) → Result Cursor Refusal → Type 0
NumbersRead text l from w w' r = ItemsRead text (number_items l from.used) l.count from w w' r

-- the kept rows of form f, read after `used` instructions
abbrev pub keep_items : (f rows used : ℕ) → Items ℕ
keep_items f rows used =
    record {
      item = λ before. one (existing_line Place.Keep rows);
      value = λ x j. cell x (keep_address f j);
      used = λ x j. used;
      lo = keep_address f 0;
      hi = part_address f 0;
    }

-- all kept rows of a form, read
abbrev pub KeepsRead : List ℕ → (f count rows : ℕ) → Cursor → (w w' : List ℕ) → Result Cursor Refusal → Type 0
KeepsRead text f count rows from w w' r = ItemsRead text (keep_items f rows from.used) count from w w' r

-- the devices, read from the `devices` line on: their count, and their forms
abbrev pub DevicesRead : List ℕ → (forms : ℕ) → Cursor → (w w' : List ℕ) → Result Cursor Refusal → Type 0
DevicesRead text forms from w w' r =
    ItemRead text (read_device_lines forms) (λ x. devices_in x (cell x device_count_at)) (λ x. from.used) device_count_at (row_address 0) from w w' r
