-- What reading a sheet into the table ensures. Stands on the rules of reading and on the table's view.
use Rattle.std.specs.Prelude.{ℕ, ◌≡◌, false, cond, List, [], leb, length}
use Rattle.sheet_rules.specs.declared.Place.{Place}
use Rattle.sheet_rules.specs.declared.Reason.TheVariants.{BufferTooShort}
use Rattle.sheet_rules.specs.declared.Verdict.{Verdict}
use Rattle.sheet_rules.specs.Limits.{form_limit}
use Rattle.sheet_rules.specs.Sheet.{Row, Instr, Form, Sheet, size_of_forms}
use Rattle.sheet_rules.specs.Reader.{Reader, ◌>>=◌, give, one, many, count_line}
use Rattle.sheet_rules.specs.FormLines.{body_line, read_instrs, read_form}
use Rattle.sheet_rules.specs.DeviceLines.{read_devices}
use Rattle.sheet_rules.specs.Reading.{Meaning, readable, unreadable, read_end, conclude, meaning}
use Rattle.table.specs.Layout.{table_end, work_size}
use Rattle.table.specs.View.{sheet_in}
use Rattle.table.specs.Only.{Only}
use Rattle.table.specs.Pool.{Placed}
use Rattle.line_reader.specs.declared.Cursor.{Cursor}
use Rattle.line_reader.specs.Told.{read_from}

-- where reading a text begins
abbrev pub text_start : Cursor
text_start = record { at = 0; line = 1; used = 0 }

-- what a verdict means, with the sheet that reading left
abbrev pub verdict_means : Verdict → Sheet → Meaning
verdict_means Verdict.Accepted s = readable s
verdict_means (Verdict.Refused r n) s = unreadable r n

-- the rule's reader of a sheet: what is left of it after main's instructions, the `main` line, the devices, the forms, the rows
unfoldable pub end_rest : List Row → List Form → List ℕ → List Instr → Reader Sheet
end_rest rows forms devices main = read_end >>= λ end. give (record { rows = rows; forms = forms; devices = devices; main = main })

unfoldable pub instrs_rest : List Row → ℕ → List Form → List ℕ → ℕ → Reader Sheet
instrs_rest rows f forms devices i = read_instrs f (length devices) i >>= end_rest rows forms devices

unfoldable pub main_rest : List Row → ℕ → List Form → List ℕ → Reader Sheet
main_rest rows f forms devices = one (body_line Place.Main (size_of_forms forms)) >>= instrs_rest rows f forms devices

unfoldable pub devices_rest : List Row → ℕ → List Form → Reader Sheet
devices_rest rows f forms = read_devices f >>= main_rest rows f forms

unfoldable pub forms_rest : List Row → ℕ → Reader Sheet
forms_rest rows f = many f (read_form rows f) [] >>= devices_rest rows f

unfoldable pub rows_rest : List Row → Reader Sheet
rows_rest rows = one (count_line Place.Forms 0 form_limit) >>= forms_rest rows

-- the rest of a sheet, read from where reading stands: the verdict and the table tell what the rule says of it
pub record RestRead (text : List ℕ) (rest : Reader Sheet) (from : Cursor) (w w' : List ℕ) (v : Verdict) : Type 0 where
  pub told : verdict_means v (sheet_in w') ≡ conclude (read_from text from rest)
  pub only : Only 0 table_end w w'
  pub placed : v ≡ Verdict.Accepted → Placed w'

-- what a text means to a caller whose work buffer has `size` numbers: 1 comes first (document 01, Turned away)
abbrev pub meaning_in : ℕ → List ℕ → Meaning
meaning_in size text = cond (leb work_size size) (meaning text) (unreadable BufferTooShort 0)

-- the reader's promise: the verdict, and the sheet that the table then holds, are what the text means; nothing after the table
-- has changed, and nothing at all in a buffer that is too short; an accepted sheet's instructions stand in the pool
pub record SheetRead (text : List ℕ) (w w' : List ℕ) (v : Verdict) : Type 0 where
  pub told : verdict_means v (sheet_in w') ≡ meaning_in (length w) text
  pub only : Only 0 table_end w w'
  pub short : leb work_size (length w) ≡ false → w' ≡ w
  pub placed : v ≡ Verdict.Accepted → Placed w'
