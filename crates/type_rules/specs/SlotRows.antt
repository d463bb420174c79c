-- The row of each slot: what an instruction's names mean, and the row of the slot that it fills (document 01, Fit and typing;
-- document 02, order 7). Stands on the sheet.
use Rattle.std.specs.Prelude.{ℕ, pred, cond, List, [], ◌∷◌, ◌++◌, map, eqb, length, get_or}
use Rattle.std.proofs.Math.Option.{Option, none, some}
use Rattle.sheet_rules.specs.declared.Member.{Member}
use Rattle.sheet_rules.specs.declared.Member.TheVariants.{Method, Field}
use Rattle.sheet_rules.specs.Sheet.{Instr, new, call, get, put, copy, Form, Sheet, row_at, form_at}

-- LOOKING UP

-- a method's argument row and result row (Fit and typing)
pub record Signature : Type 0 where
  pub argument : ℕ
  pub result : ℕ

-- method n among members (Fit and typing)
unfoldable pub method_in : List Member → ℕ → Option Signature
method_in [] n = none
method_in (Method m a r ∷ xs) n = cond (eqb m n) (some (record { argument = a; result = r })) (method_in xs n)
method_in (Field m r ∷ xs) n = method_in xs n

-- the row of field n among members (Fit and typing)
unfoldable pub field_in : List Member → ℕ → Option ℕ
field_in [] n = none
field_in (Field m r ∷ xs) n = cond (eqb m n) (some r) (field_in xs n)
field_in (Method m a r ∷ xs) n = field_in xs n

-- the members of row number a (Fit and typing)
abbrev pub members_at : Sheet → ℕ → List Member
members_at s a = (row_at s.rows a).members

-- the own object's row in a body; main has none (Fit and typing)
abbrev pub Own : Type 0
Own = Option ℕ

-- the row of the own object's field n; fields are reached only by their own object's bodies, so main reaches none
-- (Fit and typing)
abbrev pub own_field : Sheet → Own → ℕ → Option ℕ
own_field s none n = none
own_field s (some a) n = field_in (members_at s a) n

-- THE ROW OF EACH SLOT

-- the row that a look-up found; row 0 stands in where it found none, which is refused before anything looks at it
-- (Fit and typing)
abbrev pub result_of : Option Signature → ℕ
result_of none = 0
result_of (some m) = m.result

-- the same for a field's row (Fit and typing)
abbrev pub row_or0 : Option ℕ → ℕ
row_or0 none = 0
row_or0 (some r) = r

-- the row of the slot that an instruction fills, after slots of the given rows (Fit and typing)
abbrev pub slot_row : Sheet → Own → List ℕ → Instr → ℕ
slot_row s own rows (new f ss) = (form_at s f).row
slot_row s own rows (call o n a) = result_of (method_in (members_at s (get_or rows o 0)) n)
slot_row s own rows (get n) = row_or0 (own_field s own n)
slot_row s own rows (put n v) = row_or0 (own_field s own n)
slot_row s own rows (copy v) = get_or rows v 0

-- the rows of the slots after an instruction: the given ones and, last, that of the slot that it fills (Fit and typing)
abbrev pub rows_after : Sheet → Own → List ℕ → Instr → List ℕ
rows_after s own rows i = rows ++ (slot_row s own rows i ∷ [])

-- the rows of all slots of a body or of main: the given ones, filled at its start, and those that its instructions fill
-- (Fit and typing)
unfoldable pub slot_rows : Sheet → Own → List ℕ → List Instr → List ℕ
slot_rows s own rows [] = rows
slot_rows s own rows (i ∷ is) = slot_rows s own (rows_after s own rows i) is

-- the row of the last of some slots (Fit and typing)
abbrev pub last_row : List ℕ → ℕ
last_row rows = get_or rows (pred (length rows)) 0

-- the rows of a body's first slots: the own object, the argument, the kept values (Fit and typing)
abbrev pub body_rows : Form → ℕ → List ℕ
body_rows f argument = f.row ∷ argument ∷ f.keeps

-- main's first slots have the rows of the devices' forms (document 02, order 7)
abbrev pub main_rows : Sheet → List ℕ
main_rows s = map (λ f. (form_at s f).row) s.devices
