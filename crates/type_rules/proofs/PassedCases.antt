-- Computed cases of how many members of row a the walk passes, and of how many turns it takes. Assumes nothing.
use Prim.Native.Nat.{ℕ}
use Prim.Native.String.{String}
use mathlib.Core.Path.{◌≡◌, refl}
use mathlib.Core.List.{List, [], ◌∷◌, map}
use mathlib.Core.Option.{Option, none}
use Rattle.sheet_rules.specs.declared.FitAnswer.{FitAnswer}
use Rattle.sheet_rules.specs.declared.FitAnswer.TheVariants.{Yes, WrongKind, Unmet}
use Rattle.sheet_rules.specs.declared.Kind.TheVariants.{Resource}
use Rattle.sheet_rules.specs.declared.Member.{Member}
use Rattle.sheet_rules.specs.declared.Member.TheVariants.{Method, Field}
use Rattle.sheet_rules.specs.declared.Reason.TheVariants.{Malformed, NotDefined}
use Rattle.sheet_rules.specs.Sheet.{Row}
use Rattle.sheet_rules.specs.Samples.{text_of}
use Rattle.type_rules.specs.declared.FitTold.{FitTold}
use Rattle.type_rules.specs.declared.Walk.{Walk}
use Rattle.type_rules.specs.Fit.{fits}
use Rattle.type_rules.specs.FitQuestion.{fit_told, told_refused}
use Rattle.type_rules.specs.Walk.{ends, turns_of, row_walk}
use Rattle.type_rules.proofs.Opened.{judging}
use Rattle.std.specs.declared.result.Result.TheVariants.{Ok}

-- rows 0 pure empty; then resources: 1 empty; 2 methods 1, 3 and 5; 3 method 3; 4 methods 1, 3, 5 and 7; 5 methods 2 and 9; 6 methods
-- 1 and 5 and a field 3; 7 methods 1, 3 and 5, the second from row 0 to row 1; 8 method 9
abbrev sheet : List String
sheet =
    "types=9"
    ∷ "type=0,0"
    ∷ "type=1,0"
    ∷ "type=1,3"
    ∷ "def=1,0,0"
    ∷ "def=3,0,0"
    ∷ "def=5,0,0"
    ∷ "type=1,1"
    ∷ "def=3,0,0"
    ∷ "type=1,4"
    ∷ "def=1,0,0"
    ∷ "def=3,0,0"
    ∷ "def=5,0,0"
    ∷ "def=7,0,0"
    ∷ "type=1,2"
    ∷ "def=2,0,0"
    ∷ "def=9,0,0"
    ∷ "type=1,3"
    ∷ "def=1,0,0"
    ∷ "var=3,0"
    ∷ "def=5,0,0"
    ∷ "type=1,3"
    ∷ "def=1,0,0"
    ∷ "def=3,0,1"
    ∷ "def=5,0,0"
    ∷ "type=1,1"
    ∷ "def=9,0,0"
    ∷ "forms=1"
    ∷ "form=0,0"
    ∷ "main=1"
    ∷ "new=0"
    ∷ []

-- two rows, and what is told of them
abbrev asked : (a b : ℕ) → FitAnswer → ℕ → ℕ × ℕ × FitTold
asked a b x n = (a, b, record { reply = Ok x; passed = n })

abbrev pairs : List (ℕ × ℕ × FitTold)
pairs =
    -- kind
    asked 2 0 WrongKind 0
    -- b has no member, and neither has a
    ∷ asked 2 1 Yes 0
    ∷ asked 0 1 Yes 0
    -- a has no member
    ∷ asked 0 2 (Unmet 1) 0
    -- the answered name is beyond a's last
    ∷ asked 2 4 (Unmet 7) 3
    ∷ asked 2 8 (Unmet 9) 3
    -- it lies between a's names, and before them
    ∷ asked 2 5 (Unmet 2) 1
    ∷ asked 3 2 (Unmet 1) 0
    -- a's member of that very name mismatches: a field against a method, there and back; a result that does not fit
    ∷ asked 6 2 (Unmet 3) 2
    ∷ asked 2 6 (Unmet 3) 2
    ∷ asked 7 2 (Unmet 3) 2
    -- yes: equal rows; a row with a wider method; members of a above b's last
    ∷ asked 2 2 Yes 3
    ∷ asked 2 7 Yes 3
    ∷ asked 4 2 Yes 3
    ∷ asked 2 3 Yes 2
    ∷ asked 4 3 Yes 2
    -- refused
    ∷ (2, 9, told_refused NotDefined 0)
    ∷ (9, 2, told_refused NotDefined 0)
    ∷ []

pub pairs_hold : map (λ p. fit_told (text_of sheet) p.0 p.1) pairs ≡ map (λ p. p.2) pairs
unfolding judging
pairs_hold = refl

pub unread_none : fit_told [] 0 0 ≡ told_refused Malformed 1
unfolding judging
unread_none = refl

-- THE WALK

abbrev three : Row
three = record { kind = Resource; members = Method 1 0 0 ∷ Method 3 0 0 ∷ Method 5 0 0 ∷ [] }

-- a row of one member
abbrev only : Member → Row
only y = record { kind = Resource; members = y ∷ [] }

-- where the walk along methods 1, 3 and 5 to one member ends, for each number of turns
abbrev walks : Member → List ℕ → List (Option Walk)
walks y ts = map (λ t. row_walk (fits []) t three (only y)) ts

-- no turn can be spared: to method 9 it takes four, as many as both have members, and three answer nothing
pub no_turn_spared : walks (Method 9 0 0) (turns_of three (only (Method 9 0 0)) ∷ 4 ∷ 3 ∷ 0 ∷ []) ≡ ends (Unmet 9) 3 ∷ ends (Unmet 9) 3 ∷ none ∷ none ∷ []
unfolding judging
no_turn_spared = refl

-- to a field 3 it ends at its second turn, method 3 passed; to method 2 too, but method 3 is not passed
pub mismatch_passed : walks (Field 3 0) (4 ∷ 2 ∷ 1 ∷ []) ≡ ends (Unmet 3) 2 ∷ ends (Unmet 3) 2 ∷ none ∷ []
unfolding judging
mismatch_passed = refl

pub absent_not_passed : walks (Method 2 0 0) (4 ∷ 2 ∷ 1 ∷ []) ≡ ends (Unmet 2) 1 ∷ ends (Unmet 2) 1 ∷ none ∷ []
unfolding judging
absent_not_passed = refl
