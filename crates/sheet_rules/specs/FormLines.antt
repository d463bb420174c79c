-- The lines of forms, bodies and main (document 01, The sheet, `forms` and `main`; Turned away, 3, 4 and 7).
-- Stands on Limits, Keys, Sheet, Reader.
use Rattle.std.specs.Prelude.{ℕ, suc, ◌+◌, Bool, true, ◌&&◌, List, [], ◌∷◌, leb, ltb, length, get_or, drop}
use Rattle.std.proofs.Math.Option.{Option, none, some}
use Rattle.sheet_rules.specs.declared.Member.{Member}
use Rattle.sheet_rules.specs.declared.Member.TheVariants.{Method, Field}
use Rattle.sheet_rules.specs.declared.Operation.{Operation}
use Rattle.sheet_rules.specs.declared.Operation.TheVariants.{New, Call, Get, Put, Copy}
use Rattle.sheet_rules.specs.declared.Place.{Place}
use Rattle.sheet_rules.specs.declared.Reason.TheVariants.{Malformed, OutOfLimit, NotDefined}
use Rattle.sheet_rules.specs.Limits.{name_limit, keep_limit, body_limit, instruction_limit}
use Rattle.sheet_rules.specs.Keys.{stands, operation_of}
use Rattle.sheet_rules.specs.Sheet.{Row, Instr, new, call, get, put, copy, named_slots, named_form, called_name, field_name, Part, init, body, Form, no_member, row_at, size_of_parts, size_of_forms}
use Rattle.sheet_rules.specs.Reader.{Judged, good, demand, Reader, ◌>>=◌, give, one, many, nth, within, existing_line}

-- what a `form` line says: its type row and how many values are kept (The sheet, forms and main)
pub record FormHeading : Type 0 where
  pub row : ℕ
  pub count : ℕ

-- `form=T,C` (The sheet, forms and main)
unfoldable pub form_line : ℕ → Place → List ℕ → Judged FormHeading
form_line rows k ns =
    demand (stands Place.Form k ns) Malformed
    (demand (leb (nth ns 1) keep_limit) OutOfLimit
    (demand (ltb (nth ns 0) rows) NotDefined
    (good (record { row = nth ns 0; count = nth ns 1 }))))

-- `body=I` or `main=I`, after `used` instructions of the sheet (The sheet, forms and main)
unfoldable pub body_line : Place → ℕ → Place → List ℕ → Judged ℕ
body_line wanted used k ns =
    demand (stands wanted k ns) Malformed
    (demand (within 1 body_limit (nth ns 0) && leb (used + nth ns 0) instruction_limit) OutOfLimit
    (good (nth ns 0)))

-- the instruction that an operation and its numbers make (The sheet, forms and main)
abbrev pub instr_of : Operation → List ℕ → Instr
instr_of New ns = new (nth ns 0) (drop 1 ns)
instr_of Call ns = call (nth ns 0) (nth ns 1) (nth ns 2)
instr_of Get ns = get (nth ns 0)
instr_of Put ns = put (nth ns 0) (nth ns 1)
instr_of Copy ns = copy (nth ns 0)

-- a test of what an instruction may name: it passes where the instruction names nothing (The sheet, forms and main)
abbrev pub if_named : (ℕ → Bool) → Option ℕ → Bool
if_named test none = true
if_named test (some n) = test n

-- the name that an instruction has is within its limit (The sheet, forms and main)
abbrev pub name_allowed : Instr → Bool
name_allowed i = if_named (λ n. leb n name_limit) (called_name i) && if_named (λ n. leb n name_limit) (field_name i)

-- every number is below a bound (The sheet, forms and main)
unfoldable pub all_below : ℕ → List ℕ → Bool
all_below bound [] = true
all_below bound (x ∷ xs) = ltb x bound && all_below bound xs

-- the form that an instruction names is one of the sheet's, and its slots were filled by earlier lines
-- (The sheet, forms and main)
abbrev pub names_exist : ℕ → ℕ → Instr → Bool
names_exist forms filled i = if_named (λ f. ltb f forms) (named_form i) && all_below filled (named_slots i)

-- an instruction line, in a sheet of `forms` forms, where `filled` slots are filled (The sheet, forms and main)
unfoldable pub instr_line : ℕ → ℕ → Place → List ℕ → Judged Instr
instr_line forms filled k ns =
    demand (stands (Place.Instruction New) k ns) Malformed
    (demand (name_allowed (instr_of (operation_of k) ns)) OutOfLimit
    (demand (names_exist forms filled (instr_of (operation_of k) ns)) NotDefined
    (good (instr_of (operation_of k) ns))))

-- i instructions, the first of them where `filled` slots are filled; each fills one more (The sheet, forms and main)
unfoldable pub read_instrs : ℕ → ℕ → ℕ → Reader (List Instr)
read_instrs forms filled i = many i (λ before. one (instr_line forms (filled + length before))) []

-- a form's part for a member: `init` for a field; for a method `body`, where slots 0 and 1 and the kept ones are filled
-- (The sheet, forms and main)
unfoldable pub read_part : ℕ → ℕ → ℕ → Member → Reader Part
read_part forms keeps used (Field n r) = do
  k ← one (existing_line Place.Init keeps)
  give (init k)
read_part forms keeps used (Method n a r) = do
  i ← one (body_line Place.Body used)
  is ← read_instrs forms (suc (suc keeps)) i
  give (body is)

-- a form, after the earlier ones, in a sheet of `forms` (The sheet, forms and main)
unfoldable pub read_form : List Row → ℕ → List Form → Reader Form
read_form rows forms earlier = do
  h ← one (form_line (length rows))
  keeps ← many h.count (λ before. one (existing_line Place.Keep (length rows))) []
  let members : List Member = (row_at rows h.row).members
  parts ← many (length members)
      (λ before. read_part forms (length keeps) (size_of_forms earlier + size_of_parts before) (get_or members (length before) no_member))
      []
  give (record { row = h.row; keeps = keeps; parts = parts })
