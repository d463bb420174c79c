-- The sheet that a text means, or why it is refused and at which line: recursive descent over the lines, as document 01
-- reads them (The sheet; Turned away, 2 to 7). Stands on all the files before it.
use Rattle.std.specs.Prelude.{ℕ, cond, List, [], ◌∷◌, leb, length}
use Rattle.sheet_rules.specs.declared.Place.{Place}
use Rattle.sheet_rules.specs.declared.Reason.{Reason}
use Rattle.sheet_rules.specs.declared.Reason.TheVariants.{TextTooLong, Malformed}
use Rattle.sheet_rules.specs.Limits.{text_limit, row_limit, form_limit}
use Rattle.sheet_rules.specs.Lines.{lines_of}
use Rattle.sheet_rules.specs.Sheet.{Sheet, size_of_forms}
use Rattle.sheet_rules.specs.Reader.{Read, got, refused, Reader, ◌>>=◌, give, one, many, count_line}
use Rattle.sheet_rules.specs.RowLines.{read_row}
use Rattle.sheet_rules.specs.FormLines.{body_line, read_instrs, read_form}
use Rattle.sheet_rules.specs.DeviceLines.{read_devices}

-- nothing stands after main (The sheet)
unfoldable pub read_end : Reader (Unit {0})
read_end [] n = got tt [] n
read_end (l ∷ ls) n = refused Malformed n

-- rows, forms, devices and main, in this order (The sheet; document 02, order 7)
unfoldable pub read_sheet : Reader Sheet
read_sheet = do
  t ← one (count_line Place.Types 1 row_limit)
  rows ← many t read_row []
  f ← one (count_line Place.Forms 0 form_limit)
  forms ← many f (read_form rows f) []
  devices ← read_devices f
  i ← one (body_line Place.Main (size_of_forms forms))
  main ← read_instrs f (length devices) i
  _ ← read_end
  give (record { rows = rows; forms = forms; devices = devices; main = main })

-- what a text means: a sheet, or a refusal from 2 to 7 with its line (Turned away, 2 to 7)
pub data Meaning : Type 0 where
  readable : Sheet → Meaning
  unreadable : Reason → ℕ → Meaning

-- what reading gave, without the lines left (The sheet)
abbrev pub conclude : Read Sheet → Meaning
conclude (got s ls n) = readable s
conclude (refused r n) = unreadable r n

-- a text over its limit is refused unread; any other is read from line 1 (Turned away, 2)
unfoldable pub meaning : List ℕ → Meaning
meaning text = cond (leb (length text) text_limit) (conclude (read_sheet (lines_of text) 1)) (unreadable TextTooLong 0)
