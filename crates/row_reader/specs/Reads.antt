-- What reading rows into the table ensures. Stands on reading, the table's view, and the readers of lines.
use Rattle.std.specs.Prelude.{ℕ, ◌≤◌, ◌<◌, ◌≡◌, List, [], length, drop}
use Rattle.sheet_rules.specs.declared.Member.{Member}
use Rattle.sheet_rules.specs.declared.Place.{Place}
use Rattle.sheet_rules.specs.Lines.{lines_of}
use Rattle.sheet_rules.specs.Sheet.{Row}
use Rattle.sheet_rules.specs.Reader.{Read, give, and_then, settle, one, many}
use Rattle.sheet_rules.specs.RowLines.{Heading, kind_of, member_line, read_row}
use Rattle.lexer.specs.declared.numbers.Numbers.{Numbers}
use Rattle.lexer.specs.Told.{list_of}
use Rattle.line_judges.specs.Told.{member_rest, row_told}
use Rattle.table.specs.Layout.{row_address, member_address, member_count_address, member_end, row_end, work_size}
use Rattle.table.specs.View.{cell, member_in, members_in, row_in, rows_in}
use Rattle.table.specs.Only.{Only}
use Rattle.reader_loop.specs.Items.{ItemRead, Items, ItemsRead}
use Rattle.line_reader.specs.declared.Cursor.{Cursor}
use Rattle.line_reader.specs.Told.{read_told, Advanced}
use Rattle.std.specs.declared.result.Result.{Result}
use Rattle.std.specs.declared.result.Result.TheVariants.{Ok}
use Rattle.sheet_rules.specs.declared.Refusal.{Refusal}

-- the heading of row i, as it is stored
abbrev pub heading_in : List ℕ → ℕ → Heading
heading_in w i = record { kind = kind_of (cell w (row_address i)); count = cell w (member_count_address i) }

-- a row whose heading is stored
pub record Headed (w : List ℕ) (i count : ℕ) : Type 0 where
  pub row : i < 64
  pub few : count ≤ 8
  pub counted : cell w (member_count_address i) ≡ count
  pub size : work_size ≤ length w

-- member j of a row whose heading is stored
pub record InRow (w : List ℕ) (i j count : ℕ) : Type 0 where
  pub row : i < 64
  pub member : j < count
  pub few : count ≤ 8
  pub counted : cell w (member_count_address i) ≡ count
  pub size : work_size ≤ length w

-- a judged member, read at line n, kept: what is left to ask of its line was asked
pub record Kept (i j : ℕ) (k : Place) (ns : Numbers) (n : ℕ) (next : Cursor) (w w' : List ℕ) (r : Result Cursor Refusal) : Type 0 where
  pub told : (text : List ℕ)
      → read_told text r (member_in w' i j)
      ≡ settle (member_rest (length (rows_in w i)) (rows_in w i) (heading_in w i) (members_in w i j) k (list_of ns)) (lines_of (drop next.at text)) n
  pub only : Only (member_address i j) (member_end i j) w w'
  pub moves : (to : Cursor) → r ≡ Ok to → to ≡ next

-- one member, read
abbrev pub MemberRead : List ℕ → (i j : ℕ) → Cursor → (w w' : List ℕ) → Result Cursor Refusal → Type 0
MemberRead text i j from w w' r =
    ItemRead text (one (member_line (length (rows_in w i)) (rows_in w i) (heading_in w i) (members_in w i j))) (λ x. member_in x i j) (λ x. from.used) (member_address i j) (member_end i j) from w w' r

-- the members of row i, after the heading and the rows in the buffer
abbrev pub member_items : List ℕ → (i used : ℕ) → Items Member
member_items w i used =
    record {
      item = λ before. one (member_line (length (rows_in w i)) (rows_in w i) (heading_in w i) before);
      value = λ x j. member_in x i j;
      used = λ x j. used;
      lo = member_address i 0;
      hi = row_end i;
    }

-- all members of a row, read
abbrev pub MembersRead : List ℕ → (i count : ℕ) → Cursor → (w w' : List ℕ) → Result Cursor Refusal → Type 0
MembersRead text i count from w w' r = ItemsRead text (member_items w i from.used) count from w w' r

-- a row from its heading on: its twin is asked, and its members are read
unfoldable pub row_rest : List Row → Read Heading → Read Row
row_rest earlier x =
    and_then x
    (λ h ls n. and_then (many h.count (λ before. one (member_line (length earlier) earlier h before)) [] ls n) (λ members. give (record { kind = h.kind; members = members })))

-- a row whose heading was read at line n, kept
pub record RowKept (text : List ℕ) (i kind count n : ℕ) (next : Cursor) (w w' : List ℕ) (r : Result Cursor Refusal) : Type 0 where
  pub told : read_told text r (row_in w' i)
      ≡ row_rest (rows_in w i) (settle (row_told (rows_in w i) kind count) (lines_of (drop next.at text)) n)
  pub only : Only (row_address i) (row_end i) w w'
  pub advanced : Advanced text next next.used r

-- a row, read
abbrev pub RowRead : List ℕ → (i : ℕ) → Cursor → (w w' : List ℕ) → Result Cursor Refusal → Type 0
RowRead text i from w w' r = ItemRead text (read_row (rows_in w i)) (λ x. row_in x i) (λ x. from.used) (row_address i) (row_end i) from w w' r

-- the rows of a sheet, in their part of the table
abbrev pub row_items : ℕ → Items Row
row_items used = record { item = read_row; value = row_in; used = λ x j. used; lo = row_address 0; hi = row_end 63 }

-- all rows of a sheet, read
abbrev pub RowsRead : List ℕ → (count : ℕ) → Cursor → (w w' : List ℕ) → Result Cursor Refusal → Type 0
RowsRead text count from w w' r = ItemsRead text (row_items from.used) count from w w' r
