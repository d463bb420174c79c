-- Reading in general: one line judged, many items, and the first line at fault ends the reading (document 01, Turned away).
-- Stands on Lines.
use Rattle.std.specs.Prelude.{ℕ, zero, suc, Bool, true, false, ◌&&◌, List, [], ◌∷◌, ◌++◌, leb, ltb, get_or}
use Rattle.sheet_rules.specs.declared.Place.{Place}
use Rattle.sheet_rules.specs.declared.Reason.{Reason}
use Rattle.sheet_rules.specs.declared.Reason.TheVariants.{Malformed, OutOfLimit, NotDefined}
use Rattle.sheet_rules.specs.Keys.{stands}
use Rattle.sheet_rules.specs.Lines.{Line, line, torn}

infixl 20 ◌>>=◌
-- what judging one line gives: a value, or the reason of a refusal (Turned away)
pub data Judged (A : Type 0) : Type 0 where
  good : A → Judged A
  bad : Reason → Judged A

-- a test that a line must pass, before what comes after it: on a line the lower number wins, so tests stand in that order
-- (Turned away)
unfoldable pub demand : {A : Type 0} → Bool → Reason → Judged A → Judged A
demand true r x = x
demand false r x = bad r

-- what reading some lines gives: a value, the lines left and the number of the next one; or a refusal and its line (Turned away)
pub data Read (A : Type 0) : Type 0 where
  got : A → List Line → ℕ → Read A
  refused : Reason → ℕ → Read A

-- from the lines left and the number of the next one (Turned away)
abbrev pub Reader : Type 0 → Type 0
Reader A = List Line → ℕ → Read A

-- a value, with nothing read (Turned away)
abbrev pub give : {A : Type 0} → A → Reader A
give a ls n = got a ls n

-- one reader after another: the first line at fault ends the reading (Turned away)
unfoldable pub and_then : {A B : Type 0} → Read A → (A → Reader B) → Read B
and_then (got a ls n) k = k a ls n
and_then (refused r n) k = refused r n

-- the same, for readers: what a `do` block joins (Turned away)
abbrev pub ◌>>=◌ : {A B : Type 0} → Reader A → (A → Reader B) → Reader B
◌>>=◌ m k = λ ls n. and_then (m ls n) k

-- the line of number n, judged (Turned away)
unfoldable pub settle : {A : Type 0} → Judged A → List Line → ℕ → Read A
settle (good a) ls n = got a ls (suc n)
settle (bad r) ls n = refused r n

-- one line: it must be there and in the sheet's shape, and is then judged by its place and numbers (Turned away)
unfoldable pub one : {A : Type 0} → (Place → List ℕ → Judged A) → Reader A
one judge [] n = refused Malformed n
one judge (torn ∷ ls) n = refused Malformed n
one judge (line k ns ∷ ls) n = settle (judge k ns) ls n

-- k items more, each with those before it in hand (Turned away)
unfoldable pub many : {A : Type 0} → ℕ → (List A → Reader A) → List A → Reader (List A)
many zero item before = give before
many (suc k) item before = item before >>= λ a. many k item (before ++ (a ∷ []))

-- number i of a line (Turned away)
abbrev pub nth : List ℕ → ℕ → ℕ
nth ns i = get_or ns i 0

-- from low to high, both included (The sheet)
abbrev pub within : ℕ → ℕ → ℕ → Bool
within low high n = leb low n && leb n high

-- `types=T`, `forms=F` and `devices=D`: a count within its limits (Turned away)
unfoldable pub count_line : Place → ℕ → ℕ → Place → List ℕ → Judged ℕ
count_line wanted low high k ns =
    demand (stands wanted k ns) Malformed
    (demand (within low high (nth ns 0)) OutOfLimit
    (good (nth ns 0)))

-- a line with one number that counts something there: `keep=T` a row, `init=k` a kept value, `device=F` a form (Turned away)
unfoldable pub existing_line : Place → ℕ → Place → List ℕ → Judged ℕ
existing_line wanted there k ns =
    demand (stands wanted k ns) Malformed
    (demand (ltb (nth ns 0) there) NotDefined
    (good (nth ns 0)))
