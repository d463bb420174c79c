-- What it means that a sheet is well typed (document 01, Fit and typing; document 02, order 7), as the facts on which its run rests: every
-- slot that is named is filled and fits the place that it goes to. TypingLaws proves it of every accepted sheet, TypedLaws the
-- converse. Stands on Typing.
use Rattle.std.specs.Prelude.{ℕ, ◌<◌, ◌≡◌, List, [], ◌∷◌, ◌++◌, T, length, get_or}
use Rattle.std.proofs.Math.Option.{Option, none, some}
use Rattle.lists.specs.In.{In}
use Rattle.lists.specs.Pairwise.{Pairwise}
use Rattle.sheet_rules.specs.declared.Member.{Member}
use Rattle.sheet_rules.specs.declared.Member.TheVariants.{Method, Field}
use Rattle.sheet_rules.specs.Sheet.{Instr, new, call, get, put, copy, Part, init, body, Form, Sheet, row_at, form_at, row_of_form}
use Rattle.type_rules.specs.Fit.{fits}
use Rattle.type_rules.specs.SlotRows.{Signature, method_in, members_at, Own, own_field, last_row, body_rows, main_rows}
use Rattle.type_rules.specs.Typing.{is_pure, has_field}

-- after slots of the given rows, slot v is filled and fits row b (Fit and typing)
pub record SlotFits (s : Sheet) (rows : List ℕ) (v b : ℕ) : Type 0 where
  pub filled : v < length rows
  pub fit : T (fits s.rows (get_or rows v 0) b)

-- an instruction is well typed after slots of the given rows, and the slot that it fills has the row at the end (Fit and typing)
pub data InstrTyped (s : Sheet) (own : Own) (rows : List ℕ) : Instr → ℕ → Type 0 where
  typed_new : {f : ℕ} {ss : List ℕ} → f < length s.forms → Pairwise (SlotFits s rows) ss (form_at s f).keeps
      → InstrTyped s own rows (new f ss) (form_at s f).row
  typed_call : {o n a : ℕ} {m : Signature} → o < length rows → method_in (members_at s (get_or rows o 0)) n ≡ some m
      → SlotFits s rows a m.argument → InstrTyped s own rows (call o n a) m.result
  typed_get : {n r : ℕ} → own_field s own n ≡ some r → InstrTyped s own rows (get n) r
  typed_put : {n v r : ℕ} → own_field s own n ≡ some r → SlotFits s rows v r → InstrTyped s own rows (put n v) r
  typed_copy : {v : ℕ} → v < length rows → InstrTyped s own rows (copy v) (get_or rows v 0)

-- a value of row a fits the declared result; main declares none (Fit and typing)
pub data ResultFits (s : Sheet) (a : ℕ) : Option ℕ → Type 0 where
  undeclared : ResultFits s a none
  declared : {r : ℕ} → T (fits s.rows a r) → ResultFits s a (some r)

-- some instructions are well typed after slots of the given rows, each with the slots before it; at the end there is a value,
-- the last slot, and it fits the declared result (Fit and typing)
pub data CodeTyped (s : Sheet) (own : Own) (result : Option ℕ) : List ℕ → List Instr → Type 0 where
  end : {rows : List ℕ} → 0 < length rows → ResultFits s (last_row rows) result → CodeTyped s own result rows []
  next : {rows : List ℕ} {i : Instr} {is : List Instr} {a : ℕ} → InstrTyped s own rows i a → CodeTyped s own result (rows ++ (a ∷ [])) is
      → CodeTyped s own result rows (i ∷ is)

-- a form's part is well typed for a member: a field starts as a kept value that fits it, and a method's body is well typed
-- (Fit and typing)
pub data PartTyped (s : Sheet) (f : Form) : Member → Part → Type 0 where
  typed_init : {n r k : ℕ} → SlotFits s f.keeps k r → PartTyped s f (Field n r) (init k)
  typed_body : {n a r : ℕ} {is : List Instr} → CodeTyped s (some f.row) (some r) (body_rows f a) is → PartTyped s f (Method n a r) (body is)

-- a form of a pure row has no field and keeps pure rows alone (Fit and typing)
pub record PureForm (s : Sheet) (f : Form) : Type 0 where
  pub no_field : T (has_field (members_at s f.row)) → ⊥
  pub pure_keeps : (k : ℕ) → In k f.keeps → T (is_pure (row_at s.rows k).kind)

-- a form is well typed (Fit and typing)
pub record FormTyped (s : Sheet) (f : Form) : Type 0 where
  pub pure : T (is_pure (row_at s.rows f.row).kind) → PureForm s f
  pub parts : Pairwise (PartTyped s f) (members_at s f.row) f.parts

-- a device is a resource, and its form keeps no value (document 02, order 7)
pub record DeviceTyped (s : Sheet) (f : ℕ) : Type 0 where
  pub resource : T (is_pure (row_of_form s f).kind) → ⊥
  pub keeps_none : (form_at s f).keeps ≡ []

-- a well-typed sheet (Fit and typing)
pub record Typed (s : Sheet) : Type 0 where
  pub forms : (f : Form) → In f s.forms → FormTyped s f
  pub devices : (f : ℕ) → In f s.devices → DeviceTyped s f
  pub main : CodeTyped s none none (main_rows s) s.main
