-- What the reader of lines tells, in the rules' words, and where reading may stand. Stands on reading.
use Rattle.std.specs.Prelude.{ℕ, ◌+◌, ◌≤◌, ◌<◌, ◌≡◌, Bool, true, false, List, length, drop, OnOk}
use Rattle.sheet_rules.specs.declared.Member.{Member}
use Rattle.sheet_rules.specs.declared.MemberKind.{MemberKind}
use Rattle.sheet_rules.specs.declared.Operation.{Operation}
use Rattle.sheet_rules.specs.declared.Place.{Place}
use Rattle.sheet_rules.specs.declared.Reason.{Reason}
use Rattle.sheet_rules.specs.Limits.{row_limit, form_limit, device_limit}
use Rattle.sheet_rules.specs.Keys.{same_place, operation_of}
use Rattle.sheet_rules.specs.Lines.{Line, lines_of}
use Rattle.sheet_rules.specs.Sheet.{Row, Instr}
use Rattle.sheet_rules.specs.Reader.{Judged, good, Read, got, refused, Reader, settle, one, count_line, existing_line}
use Rattle.sheet_rules.specs.RowLines.{Heading, row_line, member_line}
use Rattle.sheet_rules.specs.FormLines.{FormHeading, form_line, body_line, instr_of, instr_line}
use Rattle.sheet_rules.specs.DeviceLines.{next_is}
use Rattle.lexer.specs.declared.numbers.Numbers.{Numbers}
use Rattle.std.specs.declared.option.Option.TheVariants.{Some, None}
use Rattle.lexer.specs.Scan.{found_line, line_at}
use Rattle.lexer.specs.Told.{list_of, Fitting}
use Rattle.lexer.proofs.LineLaws.{Refusing}
use Rattle.line_judges.specs.Told.{line_told, row_told, Lowest, member_rest}
use Rattle.line_reader.specs.declared.Cursor.{Cursor}
use Rattle.line_reader.specs.declared.TakenLine.{TakenLine}
use Rattle.std.specs.declared.result.Result.{Result}
use Rattle.std.specs.declared.result.Result.TheVariants.{Ok, Err}
use Rattle.sheet_rules.specs.declared.Refusal.{Refusal}
use Rattle.sheet_rules.specs.Answers.{turned_away}
use Rattle.sheet_rules.specs.Reader.{nth}

-- WHERE READING STANDS

-- in a text of at most 65,535 bytes, with the number of the line there, since no line is shorter than a byte; and no more instructions
-- were read than a sheet may have
pub record Room (text : List ℕ) (c : Cursor) : Type 0 where
  pub small : length text ≤ 65535
  pub inside : c.at ≤ length text
  pub lines : c.line ≤ c.at + 1
  pub pool : c.used ≤ 1024

-- what a reader of the rules gives from there
abbrev pub read_from : {A : Type 0} → List ℕ → Cursor → Reader A → Read A
read_from text c item = item (lines_of (drop c.at text)) c.line

-- a value that was read, when reading stands there
abbrev pub got_at : {A : Type 0} → List ℕ → Cursor → A → Read A
got_at text c a = got a (lines_of (drop c.at text)) c.line

-- a line later, at a place of the text
abbrev pub next_line : Cursor → ℕ → Cursor
next_line c at = record { at = at; line = c.line + 1; used = c.used }

-- whether the next line has a key of a place; of a line that no place takes it is told that it has not
pub data NextTold (wanted : Place) (ls : List Line) : Bool → Type 0 where
  told : {b : Bool} → b ≡ next_is wanted ls → NextTold wanted ls b
  untaken : Refusing ls → NextTold wanted ls false

-- A LINE, AS THE LEXER READS IT

-- the line that stands there, with where reading stands after it; or there is none in the sheet's shape, and it is refused
pub data LineThere (text : List ℕ) (c : Cursor) : Result TakenLine Refusal → Type 0 where
  there : {line : TakenLine} → line_at text c.at ≡ Some (found_line line.place (list_of line.numbers) line.next.at) → line.next ≡ next_line c line.next.at → LineThere text c (Ok line)
  torn : line_at text c.at ≡ None → LineThere text c (turned_away Reason.Malformed c.line)

-- A LINE, JUDGED

-- the number of a line with one, the heading of a form, and the instruction, that a line's numbers make
abbrev pub number : Place → Numbers → ℕ
number k ns = nth ns.values 0

abbrev pub heading : Place → Numbers → FormHeading
heading k ns = record { row = nth ns.values 0; count = nth ns.values 1 }

abbrev pub instruction : Place → Numbers → Instr
instruction k ns = instr_of (operation_of k) (list_of ns)

-- a judgement of a line where one is wanted, by a bound, tells what the rules judge there; no line is judged so where an instruction is
-- wanted, or none
abbrev pub Judges : Place → ℕ → Place → Numbers → Result Unit Reason → Type 0
Judges Place.Types b k ns j = line_told j (good (number k ns)) ≡ count_line Place.Types 1 row_limit k (list_of ns)
Judges Place.Row b k ns j =
    ((earlier : List Row) → line_told j (row_told earlier (nth ns.values 0) (nth ns.values 1)) ≡ row_line earlier k (list_of ns)) × OnOk j (nth ns.values 1 ≤ 8)
Judges (Place.Member m) b k ns j =
    ((limit : ℕ) (earlier : List Row) (h : Heading) (before : List Member) → Lowest before b
    → line_told j (member_rest limit earlier h before k (list_of ns)) ≡ member_line limit earlier h before k (list_of ns))
    × OnOk j (same_place k (Place.Member MemberKind.Method) ≡ true)
Judges Place.Forms b k ns j = line_told j (good (number k ns)) ≡ count_line Place.Forms 0 form_limit k (list_of ns)
Judges Place.Form b k ns j = line_told j (good (heading k ns)) ≡ form_line b k (list_of ns)
Judges Place.Keep b k ns j = line_told j (good (number k ns)) ≡ existing_line Place.Keep b k (list_of ns)
Judges Place.Init b k ns j = line_told j (good (number k ns)) ≡ existing_line Place.Init b k (list_of ns)
Judges Place.Body b k ns j = line_told j (good (number k ns)) ≡ body_line Place.Body b k (list_of ns)
Judges Place.Devices b k ns j = line_told j (good (number k ns)) ≡ count_line Place.Devices 1 device_limit k (list_of ns)
Judges Place.Device b k ns j = line_told j (good (number k ns)) ≡ existing_line Place.Device b k (list_of ns)
Judges Place.Main b k ns j = line_told j (good (number k ns)) ≡ body_line Place.Main b k (list_of ns)
Judges (Place.Instruction o) b k ns j = j ≡ Err Reason.Malformed
Judges Place.Nowhere b k ns j = j ≡ Err Reason.Malformed

-- a judged line, or its refusal at line n
abbrev pub settled : Result Unit Reason → TakenLine → ℕ → Result TakenLine Refusal
settled (Ok _) line n = Ok line
settled (Err r) line n = turned_away r n

-- A LINE, READ

-- what its numbers make, and the lines after it
abbrev pub line_read : {A : Type 0} → List ℕ → (Place → Numbers → A) → Result TakenLine Refusal → Read A
line_read text make (Ok line) = got_at text line.next (make line.place line.numbers)
line_read text make (Err e) = refused e.reason e.line

-- the same for line n, where more is asked of what its numbers make
abbrev pub line_asked : {A : Type 0} → List ℕ → ℕ → (Place → Numbers → Judged A) → Result TakenLine Refusal → Read A
line_asked text n ask (Ok line) = settle (ask line.place line.numbers) (lines_of (drop line.next.at text)) n
line_asked text n ask (Err e) = refused e.reason e.line

-- a line that was taken stands at a place
abbrev pub Stands : Place → Result TakenLine Refusal → Type 0
Stands w p = (line : TakenLine) → p ≡ Ok line → same_place line.place w ≡ true

-- what was read where a line is wanted is what the rules read there
abbrev pub Tells : Place → ℕ → List ℕ → Cursor → Result TakenLine Refusal → Type 0
Tells Place.Types b text c p = line_read text number p ≡ read_from text c (one (count_line Place.Types 1 row_limit))
Tells Place.Row b text c p =
    ((earlier : List Row) → line_asked text c.line (λ k ns. row_told earlier (nth ns.values 0) (nth ns.values 1)) p ≡ read_from text c (one (row_line earlier)))
    × ((line : TakenLine) → p ≡ Ok line → nth line.numbers.values 1 ≤ 8)
Tells (Place.Member m) b text c p =
    ((limit : ℕ) (earlier : List Row) (h : Heading) (before : List Member) → Lowest before b
    → line_asked text c.line (λ k ns. member_rest limit earlier h before k (list_of ns)) p ≡ read_from text c (one (member_line limit earlier h before)))
    × Stands (Place.Member MemberKind.Method) p
Tells Place.Forms b text c p = line_read text number p ≡ read_from text c (one (count_line Place.Forms 0 form_limit))
Tells Place.Form b text c p = line_read text heading p ≡ read_from text c (one (form_line b))
Tells Place.Keep b text c p = line_read text number p ≡ read_from text c (one (existing_line Place.Keep b))
Tells Place.Init b text c p = line_read text number p ≡ read_from text c (one (existing_line Place.Init b))
Tells Place.Body b text c p = line_read text number p ≡ read_from text c (one (body_line Place.Body b))
Tells Place.Devices b text c p = line_read text number p ≡ read_from text c (one (count_line Place.Devices 1 device_limit))
Tells Place.Device b text c p = line_read text number p ≡ read_from text c (one (existing_line Place.Device b))
Tells Place.Main b text c p = line_read text number p ≡ read_from text c (one (body_line Place.Main b))
Tells (Place.Instruction o) b text c p = p ≡ turned_away Reason.Malformed c.line
Tells Place.Nowhere b text c p = p ≡ turned_away Reason.Malformed c.line

-- reading goes on further down the text, a line later, with as many instructions; and the line has as many numbers as its key takes
pub record Past (text : List ℕ) (c : Cursor) (line : TakenLine) : Type 0 where
  pub later : c.at < line.next.at
  pub room : Room text line.next
  pub fitting : Fitting line.place line.numbers
  pub follows : line.next.line ≡ c.line + 1
  pub pool : line.next.used ≡ c.used

-- so it is with every line that was taken; of a refused one there is nothing to say
pub data Onward (text : List ℕ) (c : Cursor) : Result TakenLine Refusal → Type 0 where
  moved : {line : TakenLine} → Past text c line → Onward text c (Ok line)
  stopped : {e : Refusal} → Onward text c (Err e)

-- the line where reading stands, where one is wanted, was read
pub record LineTold (wanted : Place) (b : ℕ) (text : List ℕ) (c : Cursor) (p : Result TakenLine Refusal) : Type 0 where
  pub told : Tells wanted b text c p
  pub onward : Onward text c p

-- the instruction line where reading stands was read
pub record InstrTold (forms filled : ℕ) (text : List ℕ) (c : Cursor) (p : Result TakenLine Refusal) : Type 0 where
  pub told : line_read text instruction p ≡ read_from text c (one (instr_line forms filled))
  pub stands : Stands (Place.Instruction Operation.New) p
  pub onward : Onward text c p

-- SOME LINES, READ

-- with the value that they left
abbrev pub read_told : {A : Type 0} → List ℕ → Result Cursor Refusal → A → Read A
read_told text (Ok c) a = got_at text c a
read_told text (Err e) a = refused e.reason e.line

-- reading then stands in the text, no earlier than before, with `used` instructions read
pub data Advanced (text : List ℕ) (c : Cursor) (used : ℕ) : Result Cursor Refusal → Type 0 where
  moved : {c' : Cursor} → c.at ≤ c'.at → Room text c' → c'.used ≡ used → Advanced text c used (Ok c')
  stopped : {e : Refusal} → Advanced text c used (Err e)
