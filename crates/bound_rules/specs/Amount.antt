-- The most steps that a body, a name and main can need (document 02, order 4). Amounts are numbers without limit. Stands on Strict, for
-- a form's body of a name.
use Rattle.std.specs.Prelude.{ℕ, zero, suc, ◌+◌, max, List, [], ◌∷◌, ◌++◌, get_or}
use Rattle.std.proofs.Math.Option.{Option, none, some}
use Rattle.sheet_rules.specs.Limits.{name_limit}
use Rattle.sheet_rules.specs.Sheet.{Instr, called_name, Form, Sheet}
use Rattle.bound_rules.specs.Strict.{body_of}

-- the amount of a name, among the amounts of names from 0 on; 0 for a name beyond them (order 4)
abbrev pub amount_at : List ℕ → ℕ → ℕ
amount_at xs n = get_or xs n 0

-- what an instruction's call adds: the amount of the called name, and nothing without a call (order 4)
abbrev pub called_amount : List ℕ → Option ℕ → ℕ
called_amount xs none = 0
called_amount xs (some n) = amount_at xs n

-- some instructions: one for each, and what its call adds (order 4)
unfoldable pub code_amount : List ℕ → List Instr → ℕ
code_amount xs [] = 0
code_amount xs (i ∷ is) = suc (called_amount xs (called_name i) + code_amount xs is)

-- a body, where there is one: its instructions, and one for the return (order 4)
abbrev pub body_amount : List ℕ → Option (List Instr) → ℕ
body_amount xs none = 0
body_amount xs (some is) = suc (code_amount xs is)

-- a name, by the amounts of names: the largest over its bodies in some forms, 0 if it has none (order 4)
unfoldable pub largest_in : Sheet → List ℕ → ℕ → List Form → ℕ
largest_in s xs n [] = 0
largest_in s xs n (f ∷ fs) = max (body_amount xs (body_of s f n)) (largest_in s xs n fs)

-- a name, over all forms of the sheet, whether anybody makes them or not (order 4)
abbrev pub name_amount : Sheet → List ℕ → ℕ → ℕ
name_amount s xs n = largest_in s xs n s.forms

-- amounts of the names before n, and that of n by these (order 4)
abbrev pub with_name : Sheet → ℕ → List ℕ → List ℕ
with_name s n xs = xs ++ (name_amount s xs n ∷ [])

-- the amounts of the names below n, each worked out by those before it. In a sheet of the stricter kind that is the paper's equation
-- by the amounts of all names (AmountLaws.amount_is) (order 4)
unfoldable pub amounts_below : Sheet → ℕ → List ℕ
amounts_below s zero = []
amounts_below s (suc n) = with_name s n (amounts_below s n)

-- the amounts of all names, 0 to 63 (order 4)
unfoldable pub amounts : Sheet → List ℕ
amounts s = amounts_below s (suc name_limit)

-- main: its instructions and what their calls add, without the one for a return (order 4)
unfoldable pub main_amount : Sheet → ℕ
main_amount s = code_amount (amounts s) s.main
