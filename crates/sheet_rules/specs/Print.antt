-- A sheet as it is written: its lines, and their bytes (document 01, The sheet). `RoundTrip.readable-print` says that a text which
-- reads as a sheet is that sheet's print. Stands on Sheet, Keys, Lines and Decimals.
use Rattle.std.specs.Prelude.{ℕ, length}
use mathlib.Core.List.{List, [], ◌∷◌, ◌++◌, map, flatten}
use Rattle.sheet_rules.specs.declared.Kind.{Kind}
use Rattle.sheet_rules.specs.declared.Kind.TheVariants.{Pure, Resource}
use Rattle.sheet_rules.specs.declared.Member.{Member}
use Rattle.sheet_rules.specs.declared.Member.TheVariants.{Method, Field}
use Rattle.sheet_rules.specs.declared.MemberKind.{MemberKind}
use Rattle.sheet_rules.specs.declared.Operation.{Operation}
use Rattle.sheet_rules.specs.declared.Place.{Place}
use Rattle.sheet_rules.specs.Keys.{spelling}
use Rattle.sheet_rules.specs.Lines.{Line, line, torn, equals}
use Rattle.sheet_rules.specs.Decimals.{line_text}
use Rattle.sheet_rules.specs.Sheet.{Row, Instr, new, call, get, put, copy, Part, init, body, Form, Sheet}

-- THE LINES OF A SHEET

-- K: 0 is pure, 1 a resource (The sheet, rows)
abbrev pub kind_number : Kind → ℕ
kind_number Pure = 0
kind_number Resource = 1

-- `def=N,A,R` or `var=N,F` (The sheet, rows)
abbrev pub member_written : Member → Line
member_written (Method n a r) = line (Place.Member MemberKind.Method) (n ∷ a ∷ r ∷ [])
member_written (Field n r) = line (Place.Member MemberKind.Field) (n ∷ r ∷ [])

-- `type=K,M` and the member lines (The sheet, rows)
abbrev pub row_written : Row → List Line
row_written a = line Place.Row (kind_number a.kind ∷ length a.members ∷ []) ∷ map member_written a.members

-- the rows, one after another (The sheet, rows)
unfoldable pub rows_written : List Row → List Line
rows_written [] = []
rows_written (a ∷ bs) = row_written a ++ rows_written bs

-- an instruction's line (The sheet, forms and main)
abbrev pub instr_written : Instr → Line
instr_written (new f ss) = line (Place.Instruction Operation.New) (f ∷ ss)
instr_written (call o n a) = line (Place.Instruction Operation.Call) (o ∷ n ∷ a ∷ [])
instr_written (get n) = line (Place.Instruction Operation.Get) (n ∷ [])
instr_written (put n v) = line (Place.Instruction Operation.Put) (n ∷ v ∷ [])
instr_written (copy v) = line (Place.Instruction Operation.Copy) (v ∷ [])

-- `init=k`, or `body=I` and its instructions (The sheet, forms and main)
abbrev pub part_written : Part → List Line
part_written (init k) = line Place.Init (k ∷ []) ∷ []
part_written (body is) = line Place.Body (length is ∷ []) ∷ map instr_written is

-- a form's parts, one after another (The sheet, forms and main)
unfoldable pub parts_written : List Part → List Line
parts_written [] = []
parts_written (p ∷ ps) = part_written p ++ parts_written ps

-- `keep=T` (The sheet, forms and main)
abbrev pub keep_written : ℕ → Line
keep_written b = line Place.Keep (b ∷ [])

-- `form=T,C`, the `keep` lines and the parts (The sheet, forms and main)
abbrev pub form_written : Form → List Line
form_written f = line Place.Form (f.row ∷ length f.keeps ∷ []) ∷ (map keep_written f.keeps ++ parts_written f.parts)

-- the forms, one after another (The sheet, forms and main)
unfoldable pub forms_written : List Form → List Line
forms_written [] = []
forms_written (f ∷ fs) = form_written f ++ forms_written fs

-- the lines before the forms: rows and the number of forms, each list after its count (The sheet)
abbrev pub before_forms : Sheet → List Line
before_forms s = line Place.Types (length s.rows ∷ []) ∷ (rows_written s.rows ++ (line Place.Forms (length s.forms ∷ []) ∷ []))

-- `device=F` (document 02, order 7)
abbrev pub device_written : ℕ → Line
device_written f = line Place.Device (f ∷ [])

-- `devices=D` and the `device` lines; a sheet without devices has none of these lines (document 02, order 7)
unfoldable pub devices_written : List ℕ → List Line
devices_written [] = []
devices_written (f ∷ fs) = line Place.Devices (length (f ∷ fs) ∷ []) ∷ map device_written (f ∷ fs)

-- `main=I` and main's instructions (The sheet)
abbrev pub main_written : List Instr → List Line
main_written is = line Place.Main (length is ∷ []) ∷ map instr_written is

-- the lines after the forms: devices and main (The sheet; document 02, order 7)
abbrev pub after_forms : Sheet → List Line
after_forms s = devices_written s.devices ++ main_written s.main

-- the lines of a sheet: rows, forms, devices and main, each after its count (The sheet)
abbrev pub sheet_written : Sheet → List Line
sheet_written s = before_forms s ++ (forms_written s.forms ++ after_forms s)

-- THEIR BYTES

-- a place's key and the equal sign after it (The sheet)
abbrev pub key_text : Place → List ℕ
key_text k = spelling k ++ (equals ∷ [])

-- a line: its key, `=`, its numbers with `,` between, and byte 10; one without a number is none (The sheet)
unfoldable pub line_bytes : Line → List ℕ
line_bytes (line k []) = []
line_bytes (line k (n ∷ ns)) = line_text (key_text k) n ns
line_bytes torn = []

-- lines, one after another (The sheet)
abbrev pub lines_bytes : List Line → List ℕ
lines_bytes ls = flatten (map line_bytes ls)

-- a sheet's text (The sheet)
unfoldable pub print : Sheet → List ℕ
print s = lines_bytes (sheet_written s)
