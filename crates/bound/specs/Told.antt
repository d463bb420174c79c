-- What the functions over the table tell of calls and amounts. Stands on the rules of the bound and on the table's view.
use Rattle.std.specs.Prelude.{ℕ, suc, ◌<◌, min, ◌≡◌, cond, List, [], ◌∷◌, map, ltb, length, get_or, set, replicate}
use Rattle.std.proofs.Math.Option.{Option, none, some}
use Rattle.sheet_rules.specs.declared.Member.{Member}
use Rattle.sheet_rules.specs.declared.Member.TheVariants.{Method, Field}
use Rattle.sheet_rules.specs.declared.Reason.TheVariants.{CircularCall}
use Rattle.sheet_rules.specs.Limits.{name_limit}
use Rattle.sheet_rules.specs.RowLines.{name_of}
use Rattle.sheet_rules.specs.Sheet.{Instr, called_name, Part, init, body, Sheet, form_at}
use Rattle.type_rules.specs.SlotRows.{members_at}
use Rattle.type_rules.specs.Typing.{Fault, unless, parts_faults, forms_faults}
use Rattle.bound_rules.specs.Strict.{calls_below, strict_lines, body_of}
use Rattle.bound_rules.specs.Amount.{amount_at, body_amount, name_amount, amounts}
use Rattle.bound_rules.specs.BoundQuestion.{amount_limit}
use Rattle.std.specs.declared.option.Option.{Option as Maybe}
use Rattle.std.specs.declared.option.Option.TheVariants.{Some, None}

-- the name that is called, if there is a call
abbrev pub called_told : Maybe ℕ → Option ℕ
called_told (Some n) = some n
called_told None = none

-- the lines of some instructions of a body of method n, of a part for a member, of the parts of form f, and of all forms. Only the
-- called names tell, so the first two do without a form and its slots (CallsLaws)

abbrev pub code_calls : ℕ → List Instr → List Fault
code_calls n is = map (λ i. unless (calls_below n (called_name i)) CircularCall) is

abbrev pub part_calls : Member → Part → List Fault
part_calls (Method n a r) (body is) = none ∷ code_calls n is
part_calls (Method n a r) (init k) = []
part_calls (Field n r) (init k) = none ∷ []
part_calls (Field n r) (body is) = []

abbrev pub parts_calls : Sheet → ℕ → List Fault
parts_calls s f = parts_faults strict_lines s f (form_at s f) (members_at s (form_at s f).row) (form_at s f).parts

abbrev pub forms_calls : Sheet → List Fault
forms_calls s = forms_faults strict_lines s 0 s.forms

-- the most that 32 instructions can add up to: one for each, and 4,294,967,295 for its call. So no sum in 64 bits overflows
abbrev pub sum_limit : ℕ
sum_limit = 137438953472

-- a part's instructions, if it is a body
abbrev pub code_of : Part → Option (List Instr)
code_of (body is) = some is
code_of (init k) = none

-- how many of some members, the first of them, have names below n
unfoldable pub passed_below : List Member → ℕ → ℕ
passed_below [] n = 0
passed_below (m ∷ ms) n = cond (ltb (name_of m) n) (suc (passed_below ms n)) 0

-- how many members of form f's row have names below n, which come first, since names ascend
abbrev pub members_below : Sheet → ℕ → ℕ → ℕ
members_below s f n = passed_below (members_at s (form_at s f).row) n

-- these numbers, of each form
pub record Passed (s : Sheet) (n : ℕ) (ys : List ℕ) : Type 0 where
  pub size : length ys ≡ 64
  pub each : (f : ℕ) → f < length s.forms → get_or ys f 0 ≡ members_below s f n

-- the amount of form f's body of name n, cut off at the limit, by the amounts of names; and the member of that name is passed
pub record FormTold (s : Sheet) (xs : List ℕ) (f n : ℕ) (ys ys' : List ℕ) (r : ℕ) : Type 0 where
  pub amount : r ≡ min (body_amount xs (body_of s (form_at s f) n)) amount_limit
  pub passed : ys' ≡ set ys f (members_below s f (suc n))

-- the same of name n, over all forms
pub record NameTold (s : Sheet) (xs : List ℕ) (n : ℕ) (ys' : List ℕ) (r : ℕ) : Type 0 where
  pub amount : r ≡ min (name_amount s xs n) amount_limit
  pub passed : Passed s (suc n) ys'

-- 64 numbers, all of them 0
abbrev pub Zeros : List ℕ → Type 0
Zeros zs = zs ≡ replicate 64 0

-- the amounts of xs, each cut off at the limit
pub record CutOff (xs zs : List ℕ) : Type 0 where
  pub each : (n : ℕ) → amount_at zs n ≡ min (amount_at xs n) amount_limit

-- the amounts of all names, each cut off at the limit; and the members of all names are passed
pub record Filled (s : Sheet) (zs ys : List ℕ) : Type 0 where
  pub cut : CutOff (amounts s) zs
  pub passed : Passed s (suc name_limit) ys
