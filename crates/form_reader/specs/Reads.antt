-- What reading forms into the table ensures. Stands on reading, the table's view, and the readers of items.
use Rattle.std.specs.Prelude.{ℕ, ◌+◌, ◌≤◌, ◌<◌, ◌≡◌, List, [], length, get_or}
use Rattle.sheet_rules.specs.declared.Place.{Place}
use Rattle.sheet_rules.specs.declared.Member.{Member}
use Rattle.sheet_rules.specs.Sheet.{Row, Part, Form, no_member, row_at, size_of_parts, size_of_forms}
use Rattle.sheet_rules.specs.Reader.{Reader, ◌>>=◌, give, one, many, existing_line}
use Rattle.sheet_rules.specs.FormLines.{FormHeading, form_line, read_part, read_form}
use Rattle.table.specs.Layout.{member_count_address, form_address, part_address, table_end, work_size}
use Rattle.table.specs.View.{cell, rows_in, part_in, parts_in, form_in, forms_in}
use Rattle.table.specs.Pool.{OnlyFrom, PartsEnd, FormEnds}
use Rattle.line_reader.specs.declared.Cursor.{Cursor}
use Rattle.reader_loop.specs.Items.{ItemRead, Items, ItemsRead}
use Rattle.std.specs.declared.result.Result.{Result}
use Rattle.std.specs.declared.result.Result.TheVariants.{Ok}
use Rattle.sheet_rules.specs.declared.Refusal.{Refusal}

-- where a form's parts may be stored: the form's and the row's numbers are small, the row has `count` members
pub record PartsReady (w : List ℕ) (f row count keeps : ℕ) : Type 0 where
  pub form : f < 64
  pub there : row < 64
  pub counted : cell w (member_count_address row) ≡ count
  pub few : count ≤ 8
  pub kept : keeps ≤ 8
  pub size : work_size ≤ length w

-- the rule's reader of the next part, after those before it, for a form whose parts began after `start` instructions
abbrev pub part_item : List Member → ℕ → ℕ → ℕ → List Part → Reader Part
part_item members forms keeps start before = read_part forms keeps (start + size_of_parts before) (get_or members (length before) no_member)

-- the parts of form f, read by a reader of parts after `start` instructions
abbrev pub part_items : (List Part → Reader Part) → (f start : ℕ) → Items Part
part_items item f start =
    record {
      item = item;
      value = λ x j. part_in x f j;
      used = λ x j. start + size_of_parts (parts_in x f j);
      lo = part_address f 0;
      hi = table_end;
    }

-- all parts of a form, read: their instructions are the next of the pool
pub record PartsRead (text : List ℕ) (f count : ℕ) (item : List Part → Reader Part) (from : Cursor) (w w' : List ℕ) (r : Result Cursor Refusal) : Type 0 where
  pub read : ItemsRead text (part_items item f from.used) count from w w' r
  pub pool : OnlyFrom (part_address f 0) from.used w w'
  pub ends : (to : Cursor) → r ≡ Ok to → PartsEnd w' f count to.used

-- form f, read by a reader of forms: its instructions are the next of the pool
pub record FormRead (text : List ℕ) (f : ℕ) (form : Reader Form) (from : Cursor) (w w' : List ℕ) (r : Result Cursor Refusal) : Type 0 where
  pub read : ItemRead text form (λ x. form_in x f) (λ x. from.used + size_of_parts (form_in x f).parts) (form_address f) table_end from w w' r
  pub pool : OnlyFrom (form_address f) from.used w w'
  pub ends : (to : Cursor) → r ≡ Ok to → FormEnds w' f to.used

-- a form after its kept rows, and after its heading
unfoldable pub parts_rest : List Member → ℕ → ℕ → ℕ → List ℕ → Reader Form
parts_rest members row forms used keeps =
    many (length members) (part_item members forms (length keeps) used) [] >>= λ parts. give (record { row = row; keeps = keeps; parts = parts })

unfoldable pub form_rest : List Row → ℕ → ℕ → FormHeading → Reader Form
form_rest rows forms used h =
    many h.count (λ before. one (existing_line Place.Keep (length rows))) []
    >>= parts_rest (row_at rows h.row).members h.row forms used

-- the rule's reader of a form, after `used` instructions
unfoldable pub form_reader : List Row → ℕ → ℕ → Reader Form
form_reader rows forms used = one (form_line (length rows)) >>= form_rest rows forms used

-- the forms of a sheet of some rows
abbrev pub form_items : List Row → ℕ → Items Form
form_items rows count =
    record {
      item = read_form rows count;
      value = form_in;
      used = λ x f. size_of_forms (forms_in x f);
      lo = form_address 0;
      hi = table_end;
    }

-- all forms of a sheet of `rows` rows, read
pub record FormsRead (text : List ℕ) (rows count : ℕ) (from : Cursor) (w w' : List ℕ) (r : Result Cursor Refusal) : Type 0 where
  pub read : ItemsRead text (form_items (rows_in w rows) count) count from w w' r
  pub ends : (to : Cursor) → r ≡ Ok to → (f : ℕ) → f < count → FormEnds w' f to.used

-- after a sheet's forms, u instructions were read
pub record FormsUsed (w : List ℕ) (count u : ℕ) : Type 0 where
  pub counted : u ≡ size_of_forms (forms_in w count)
  pub ends : (f : ℕ) → f < count → FormEnds w f u
