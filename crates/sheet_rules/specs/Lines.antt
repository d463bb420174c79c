-- From bytes to lines: decimals, and a line as a key with its numbers (document 01, The sheet).
-- Stands on Limits and Keys.
use Rattle.std.specs.Prelude.{ℕ, ◌+◌, ◌*◌, ◌-◌, Bool, true, false, not, cond, ◌&&◌, List, [], ◌∷◌, eqb, leb}
use Rattle.sheet_rules.specs.declared.Place.{Place}
use Rattle.sheet_rules.specs.Limits.{decimal_limit}
use Rattle.sheet_rules.specs.Keys.{place_of}

-- ends a line (The sheet)
abbrev pub newline : ℕ
newline = 10

-- between two decimals (The sheet)
abbrev pub comma : ℕ
comma = 44

-- between key and decimals (The sheet)
abbrev pub equals : ℕ
equals = 61

-- the first digit (The sheet)
abbrev pub digit0 : ℕ
digit0 = 48

-- the last digit (The sheet)
abbrev pub digit9 : ℕ
digit9 = 57

-- a byte in front of the first of some pieces (The sheet)
abbrev pub in_front : ℕ → List (List ℕ) → List (List ℕ)
in_front b [] = (b ∷ []) ∷ []
in_front b (p ∷ ps) = (b ∷ p) ∷ ps

-- one byte more: it ends a piece if it is c, and else belongs to the first (The sheet)
abbrev pub split_step : ℕ → ℕ → List (List ℕ) → List (List ℕ)
split_step c b ps = cond (eqb b c) ([] ∷ ps) (in_front b ps)

-- the pieces of a list between the places where c stands: always one more than those places (The sheet)
unfoldable pub split_on : ℕ → List ℕ → List (List ℕ)
split_on c [] = [] ∷ []
split_on c (b ∷ bs) = split_step c b (split_on c bs)

-- every byte is a digit (The sheet)
unfoldable pub all_digits : List ℕ → Bool
all_digits [] = true
all_digits (b ∷ bs) = leb digit0 b && leb b digit9 && all_digits bs

-- there is a digit, and the first of several is not 0 (The sheet)
abbrev pub no_leading_zero : List ℕ → Bool
no_leading_zero [] = false
no_leading_zero (b ∷ []) = true
no_leading_zero (b ∷ c ∷ bs) = not (eqb b digit0)

-- the number that digits write, after others that write v (The sheet)
unfoldable pub value_from : ℕ → List ℕ → ℕ
value_from v [] = v
value_from v (b ∷ bs) = value_from (v * 10 + (b - digit0)) bs

-- the number that digits write (The sheet)
abbrev pub value_of : List ℕ → ℕ
value_of bs = value_from 0 bs

-- a decimal: 0 to 65,535 in digits, without leading zeros (The sheet)
unfoldable pub is_decimal : List ℕ → Bool
is_decimal bs = all_digits bs && no_leading_zero bs && leb (value_of bs) decimal_limit

-- every piece is a decimal (The sheet)
unfoldable pub all_decimals : List (List ℕ) → Bool
all_decimals [] = true
all_decimals (p ∷ ps) = is_decimal p && all_decimals ps

-- the numbers that pieces write (The sheet)
unfoldable pub values : List (List ℕ) → List ℕ
values [] = []
values (p ∷ ps) = value_of p ∷ values ps

-- a line in the sheet's shape, with the place of its key and its numbers, or any other (The sheet)
pub data Line : Type 0 where
  line : Place → List ℕ → Line
  torn : Line

-- a key and the pieces between its commas: all are decimals, or the line is torn (The sheet)
unfoldable pub numbered : List ℕ → List (List ℕ) → Line
numbered w ps = cond (all_decimals ps) (line (place_of w) (values ps)) torn

-- the pieces between a line's equal signs: a key, and decimals with `,` between them (The sheet)
unfoldable pub keyed : List (List ℕ) → Line
keyed [] = torn
keyed (w ∷ []) = torn
keyed (w ∷ v ∷ []) = numbered w (split_on comma v)
keyed (w ∷ v ∷ u ∷ ps) = torn

-- a line from its bytes, the byte 10 at its end left off (The sheet)
unfoldable pub line_of : List ℕ → Line
line_of bs = keyed (split_on equals bs)

-- what follows the last byte 10: nothing, or a line that is not finished (The sheet)
abbrev pub unfinished : List ℕ → List Line
unfinished [] = []
unfinished (b ∷ bs) = torn ∷ []

-- a line for each piece that a byte 10 ends (The sheet)
unfoldable pub finished : List (List ℕ) → List Line
finished [] = []
finished (p ∷ []) = unfinished p
finished (p ∷ q ∷ ps) = line_of p ∷ finished (q ∷ ps)

-- the lines of a text (The sheet)
unfoldable pub lines_of : List ℕ → List Line
lines_of text = finished (split_on newline text)
