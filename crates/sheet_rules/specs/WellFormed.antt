-- What every sheet that was read has (document 01, The sheet), as facts for those who come after reading. ReadingLaws proves
-- them. Stands on Sheet, RowLines and FormLines.
use Rattle.std.specs.Prelude.{ℕ, suc, ◌+◌, ◌≤◌, ◌<◌, ◌≡◌, false, List, [], ◌∷◌, T, length, take}
use Rattle.lists.specs.In.{In}
use Rattle.lists.specs.Pairwise.{Pairwise}
use Rattle.sheet_rules.specs.declared.Member.{Member}
use Rattle.sheet_rules.specs.declared.Member.TheVariants.{Method, Field}
use Rattle.sheet_rules.specs.Limits.{row_limit, member_limit, name_limit, form_limit, keep_limit, device_limit, body_limit, instruction_limit}
use Rattle.sheet_rules.specs.Sheet.{Row, Instr, named_slots, Part, init, body, Form, Sheet, row_at, size_of_forms}
use Rattle.sheet_rules.specs.RowLines.{name_of, mentions_below, twin}
use Rattle.sheet_rules.specs.FormLines.{name_allowed, names_exist}

-- every member of a list mentions rows below i alone (The sheet)
abbrev pub Mentions : ℕ → List Member → Type 0
Mentions i xs = (x : Member) → In x xs → T (mentions_below i x)

-- every row mentions rows of lower numbers than its own (The sheet)
abbrev pub LowerRows : List Row → Type 0
LowerRows rows = (a : ℕ) → Mentions a (row_at rows a).members

-- the names of some members ascend strictly, from i on (The sheet)
pub data NamesAscend : ℕ → List Member → Type 0 where
  end : {i : ℕ} → NamesAscend i []
  above : {i : ℕ} {x : Member} {xs : List Member} → i ≤ name_of x → NamesAscend (suc (name_of x)) xs → NamesAscend i (x ∷ xs)

-- the row of number i: it mentions lower rows, its names ascend, and names and members are within their limits (The sheet)
pub record WellFormedRow (i : ℕ) (a : Row) : Type 0 where
  pub lower : Mentions i a.members
  pub names : NamesAscend 0 a.members
  pub low : (x : Member) → In x a.members → name_of x ≤ name_limit
  pub few : length a.members ≤ member_limit

-- no two rows are the same: each is no twin of those before it (The sheet)
abbrev pub DistinctRows : List Row → Type 0
DistinctRows rows = (a : ℕ) → a < length rows → twin (take a rows) (row_at rows a) ≡ false

-- an instruction, where `filled` slots are filled: it names a form of the sheet and slots filled before it, and is within its limits
-- (The sheet)
pub record WellFormedInstr (forms filled : ℕ) (i : Instr) : Type 0 where
  pub exist : T (names_exist forms filled i)
  pub name : T (name_allowed i)
  pub few : length (named_slots i) ≤ keep_limit

-- some instructions, the first of them where `filled` slots are filled; each fills one more (The sheet)
pub data Scoped (forms : ℕ) : ℕ → List Instr → Type 0 where
  end : {filled : ℕ} → Scoped forms filled []
  next : {filled : ℕ} {i : Instr} {is : List Instr} → WellFormedInstr forms filled i → Scoped forms (suc filled) is → Scoped forms filled (i ∷ is)

-- a body, or main: 1 to 32 instructions, each of which names what is there (The sheet)
pub record WellFormedBody (forms filled : ℕ) (is : List Instr) : Type 0 where
  pub scoped : Scoped forms filled is
  pub some : 1 ≤ length is
  pub few : length is ≤ body_limit

-- a part is the one of a member: a field starts as a kept value, a method has a body, where slots 0 and 1 and the kept ones are
-- filled (The sheet)
pub data PartOf (forms keeps : ℕ) : Member → Part → Type 0 where
  field : {n r k : ℕ} → k < keeps → PartOf forms keeps (Field n r) (init k)
  method : {n a r : ℕ} {is : List Instr} → WellFormedBody forms (suc (suc keeps)) is → PartOf forms keeps (Method n a r) (body is)

-- a form, in a sheet of the given rows and `forms` forms: its row and its kept rows are there, and its parts
-- are those of its row's members one for one (The sheet)
pub record WellFormedForm (rows : List Row) (forms : ℕ) (f : Form) : Type 0 where
  pub row : f.row < length rows
  pub keeps : (k : ℕ) → In k f.keeps → k < length rows
  pub few : length f.keeps ≤ keep_limit
  pub parts : Pairwise (PartOf forms (length f.keeps)) (row_at rows f.row).members f.parts

-- a sheet that was read (a row number that is not there counts as a row without members) (The sheet)
pub record WellFormed (s : Sheet) : Type 0 where
  pub rows : (a : ℕ) → WellFormedRow a (row_at s.rows a)
  pub some_rows : 1 ≤ length s.rows
  pub few_rows : length s.rows ≤ row_limit
  pub forms : (f : Form) → In f s.forms → WellFormedForm s.rows (length s.forms) f
  pub few_forms : length s.forms ≤ form_limit
  pub devices : (f : ℕ) → In f s.devices → f < length s.forms
  pub few_devices : length s.devices ≤ device_limit
  pub main : WellFormedBody (length s.forms) (length s.devices) s.main
  pub size : size_of_forms s.forms + length s.main ≤ instruction_limit
