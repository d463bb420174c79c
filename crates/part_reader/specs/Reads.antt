-- What reading a part of a form into the table ensures. Stands on reading, the table's view, and the readers of items.
use Rattle.std.specs.Prelude.{ℕ, suc, ◌+◌, ◌≤◌, ◌≡◌, List}
use Rattle.sheet_rules.specs.declared.Place.{Place}
use Rattle.sheet_rules.specs.Sheet.{Part, init, body, size_of_part}
use Rattle.sheet_rules.specs.Reader.{Reader, ◌>>=◌, give, one, existing_line}
use Rattle.sheet_rules.specs.FormLines.{body_line, read_instrs}
use Rattle.table.specs.Layout.{part_address, table_end}
use Rattle.table.specs.View.{part_in}
use Rattle.table.specs.Pool.{OnlyFrom, part_end}
use Rattle.line_reader.specs.declared.Cursor.{Cursor}
use Rattle.reader_loop.specs.Items.{ItemRead}
use Rattle.std.specs.declared.result.Result.{Result}
use Rattle.std.specs.declared.result.Result.TheVariants.{Ok}
use Rattle.sheet_rules.specs.declared.Refusal.{Refusal}

-- part j of form f, read by a reader of parts: its instructions are the next of the pool
pub record PartRead (text : List ℕ) (f j : ℕ) (part : Reader Part) (from : Cursor) (w w' : List ℕ) (r : Result Cursor Refusal) : Type 0 where
  pub read : ItemRead text part (λ x. part_in x f j) (λ x. from.used + size_of_part (part_in x f j)) (part_address f j) table_end from w w' r
  pub pool : OnlyFrom (part_address f j) from.used w w'
  pub ends : (to : Cursor) → r ≡ Ok to → part_end w' f j ≤ to.used

-- the rule's reader of a part, for a field
unfoldable pub field_part : ℕ → Reader Part
field_part keeps = one (existing_line Place.Init keeps) >>= λ k. give (init k)

-- a body after its `body` line
unfoldable pub body_rest : ℕ → ℕ → ℕ → Reader Part
body_rest forms keeps count = read_instrs forms (suc (suc keeps)) count >>= λ is. give (body is)

-- the rule's reader of a part, for a method
unfoldable pub method_part : ℕ → ℕ → ℕ → Reader Part
method_part forms keeps used = one (body_line Place.Body used) >>= body_rest forms keeps
