-- What a sheet says, as a value: rows, forms, devices and main (document 01, The sheet; document 02, order 7). Stands on the shared
-- types alone.
use Rattle.std.specs.Prelude.{ℕ, ◌+◌, Bool, false, List, [], ◌∷◌, length, get_or}
use Rattle.std.proofs.Math.Option.{Option, none, some}
use Rattle.lists.specs.AnyAll.{any}
use Rattle.lists.specs.Contains.{contains}
use Rattle.sheet_rules.specs.declared.Kind.{Kind}
use Rattle.sheet_rules.specs.declared.Kind.TheVariants.{Pure}
use Rattle.sheet_rules.specs.declared.Member.{Member}
use Rattle.sheet_rules.specs.declared.Member.TheVariants.{Field}

-- a type row: pure or resource, and its members by ascending name; rows are numbered from 0 (The sheet)
pub record Row : Type 0 where
  pub kind : Kind
  pub members : List Member

-- one instruction; each fills the next slot of its frame (The sheet)
pub data Instr : Type 0 where
  -- `new=F,s..`: an object of form F, with a slot for each kept value
  new : ℕ → List ℕ → Instr
  -- `call=s,N,a`: method N of slot s, with slot a
  call : ℕ → ℕ → ℕ → Instr
  -- `get=N`: the own object's field N
  get : ℕ → Instr
  -- `put=N,s`: the own object's field N becomes slot s
  put : ℕ → ℕ → Instr
  -- `copy=s`: slot s
  copy : ℕ → Instr

-- the slots that an instruction names, in its line's order (The sheet, forms and main)
abbrev pub named_slots : Instr → List ℕ
named_slots (new f ss) = ss
named_slots (call o n a) = o ∷ a ∷ []
named_slots (get n) = []
named_slots (put n v) = v ∷ []
named_slots (copy v) = v ∷ []

-- some instruction of a code names slot v (document 02, order 6)
unfoldable pub code_names : List Instr → ℕ → Bool
code_names is v = any (λ i. contains (named_slots i) v) is

-- the form that an instruction names: that of a `new` (The sheet, forms and main)
abbrev pub named_form : Instr → Option ℕ
named_form (new f ss) = some f
named_form (call o n a) = none
named_form (get n) = none
named_form (put n v) = none
named_form (copy v) = none

-- the method that an instruction calls, by its name (The sheet, forms and main)
abbrev pub called_name : Instr → Option ℕ
called_name (new f ss) = none
called_name (call o n a) = some n
called_name (get n) = none
called_name (put n v) = none
called_name (copy v) = none

-- the field of the own object that an instruction reads or sets, by its name (The sheet, forms and main)
abbrev pub field_name : Instr → Option ℕ
field_name (new f ss) = none
field_name (call o n a) = none
field_name (get n) = some n
field_name (put n v) = some n
field_name (copy v) = none

-- what a form has for a member of its row: the kept value that a field starts as, or a method's body (The sheet)
pub data Part : Type 0 where
  init : ℕ → Part
  body : List Instr → Part

-- a part names slot v: a body by its instructions; an `init` names no slot (document 02, order 6)
abbrev pub part_names : Part → ℕ → Bool
part_names (init k) v = false
part_names (body is) v = code_names is v

-- a form: its type row, the rows of its kept values, and a part for each member of its row, in order (The sheet)
pub record Form : Type 0 where
  pub row : ℕ
  pub keeps : List ℕ
  pub parts : List Part

-- some body of a form names slot v (document 02, order 6)
abbrev pub form_names : Form → ℕ → Bool
form_names f v = any (λ p. part_names p v) f.parts

-- a sheet: its rows, its forms, its devices and main's instructions. A device is an object that is there at the start, in the slot of
-- main's of its number, and is given by its form; reading, typing and the machine take main's first slots from this list (The sheet;
-- document 02, order 7)
pub record Sheet : Type 0 where
  pub rows : List Row
  pub forms : List Form
  pub devices : List ℕ
  pub main : List Instr

-- what look-ups give for a number that is not there; reading refuses such numbers (Turned away, 7)
abbrev pub no_row : Row
no_row = record { kind = Pure; members = [] }

-- the same for a member
abbrev pub no_member : Member
no_member = Field 0 0

-- the same for a form
abbrev pub no_form : Form
no_form = record { row = 0; keeps = []; parts = [] }

-- the row of a number (The sheet)
abbrev pub row_at : List Row → ℕ → Row
row_at rows a = get_or rows a no_row

-- the form of a number (The sheet)
abbrev pub form_at : Sheet → ℕ → Form
form_at s f = get_or s.forms f no_form

-- the row of the form of a number (The sheet)
abbrev pub row_of_form : Sheet → ℕ → Row
row_of_form s f = row_at s.rows (form_at s f).row

-- the form's number of the device of a number (document 02, order 7)
abbrev pub device_at : Sheet → ℕ → ℕ
device_at s d = get_or s.devices d 0

-- how many instructions stand in a part, in a list of parts, in a list of forms (The sheet)
abbrev pub size_of_part : Part → ℕ
size_of_part (init k) = 0
size_of_part (body is) = length is

-- the instructions of some parts
unfoldable pub size_of_parts : List Part → ℕ
size_of_parts [] = 0
size_of_parts (p ∷ ps) = size_of_part p + size_of_parts ps

-- the instructions of some forms
unfoldable pub size_of_forms : List Form → ℕ
size_of_forms [] = 0
size_of_forms (f ∷ fs) = size_of_parts f.parts + size_of_forms fs
