-- Computed cases of the bound question: which calls are against the rule and on which line, what counts towards an amount, and both
-- sides of the limit. Assumes nothing.
use Prim.Native.Nat.{ℕ}
use Prim.Native.String.{String}
use mathlib.Core.Path.{◌≡◌, refl}
use mathlib.Core.List.{List, [], ◌∷◌, ◌++◌, map}
use lib.ListN.{replicate}
use Rattle.sheet_rules.specs.Answers.{number_of}
use Rattle.sheet_rules.specs.Samples.{text_of, with_line, P, L}
use Rattle.sheet_rules.specs.declared.Refusal.{Refusal}
use Rattle.std.specs.declared.result.Result.TheVariants.{Ok, Err}
use Rattle.std.specs.declared.result.Result.{Result}
use Rattle.bound_rules.specs.BoundQuestion.{bound_reply}
use Rattle.bound_rules.proofs.Opened.{bounding}

-- rows 0 pure empty; 1 resource, methods 3 and 5; 2 resource, method 5: two forms of row 1 and one of row 2, which nobody makes. Method
-- 3 has bodies of 1 and 2 instructions; 5 has one that calls 3 twice, one of a single instruction, and one of four
abbrev station : List String
station =
    "types=3"
    ∷ "type=0,0"
    ∷ "type=1,2"
    ∷ "def=3,0,0"
    ∷ "def=5,0,0"
    ∷ "type=1,1"
    ∷ "def=5,0,0"
    ∷ "forms=4"
    ∷ "form=0,0"
    ∷ "form=1,0"
    ∷ "body=1"
    ∷ "copy=1"
    ∷ "body=2"
    ∷ "call=0,3,1"
    ∷ "call=0,3,2"
    ∷ "form=1,1"
    ∷ "keep=1"
    ∷ "body=2"
    ∷ "copy=1"
    ∷ "copy=1"
    ∷ "body=1"
    ∷ "copy=1"
    ∷ "form=2,0"
    ∷ "body=4"
    ∷ "copy=1"
    ∷ "copy=1"
    ∷ "copy=1"
    ∷ "copy=1"
    ∷ "main=4"
    ∷ "new=0"
    ∷ "new=1"
    ∷ "call=1,5,0"
    ∷ "call=1,3,0"
    ∷ []

abbrev copies : ℕ → List String
copies n = replicate n "copy=1"

-- a body of 16 calls and 13 copies
abbrev floor : String → List String
floor calling = "body=29" ∷ (replicate 16 calling ++ copies 13)

-- methods 0 to 7 of one form: of method 0, 13 copies; of each other, 16 calls of the one before it and 13 copies, of 7 as many as are
-- given. One more than the amount of method 0 is 15, of the next 255, then 4,095, and so on: each 16 times the one before it and 15
abbrev tower : String → ℕ → List String → List String
tower last n end =
    ("types=2" ∷ "type=0,0" ∷ "type=1,8" ∷ "def=0,0,0" ∷ "def=1,0,0" ∷ "def=2,0,0" ∷ "def=3,0,0" ∷ "def=4,0,0" ∷ "def=5,0,0" ∷ "def=6,0,0" ∷ "def=7,0,0" ∷ [])
    ++ ("forms=2" ∷ "form=0,0" ∷ "form=1,0" ∷ "body=13" ∷ copies 13)
    ++ floor "call=0,0,1" ++ floor "call=0,1,1" ++ floor "call=0,2,1" ++ floor "call=0,3,1" ++ floor "call=0,4,1" ++ floor "call=0,5,1"
    ++ (last ∷ (replicate 16 "call=0,6,1" ++ copies n))
    ++ end

-- the steps, or the refusal's number and line
abbrev numbers : Result ℕ Refusal → List ℕ
numbers (Ok m) = m ∷ []
numbers (Err e) = number_of e.reason ∷ e.line ∷ []

record Case : Type 0 where
  sheet : List String
  wanted : List ℕ

abbrev of : List String → List ℕ → Case
of ls ns = record { sheet = ls; wanted = ns }

abbrev cases : List Case
cases =
    of P (8 ∷ [])
    -- the own name is against the rule
    ∷ of L (12 ∷ 9 ∷ [])
    -- the largest body of a name: 3 for method 3, 2 + 1 + 2 * 3 for method 5, and main's own 4
    ∷ of station (16 ∷ [])
    -- the largest body counts, be it in a form that nobody makes
    ∷ of (with_line 14 "copy=1" (with_line 15 "copy=1" station)) (12 ∷ [])
    -- a name above, the own name, in a form that nobody makes too; of two the first line
    ∷ of (with_line 12 "call=0,5,1" station) (12 ∷ 12 ∷ [])
    ∷ of (with_line 15 "call=0,5,1" station) (12 ∷ 15 ∷ [])
    ∷ of (with_line 27 "call=0,5,1" station) (12 ∷ 27 ∷ [])
    ∷ of (with_line 19 "call=0,5,1" (with_line 27 "call=0,5,1" station)) (12 ∷ 19 ∷ [])
    -- a circular call is looked for only once the typing pass is over
    ∷ of (with_line 12 "call=0,5,1" (with_line 33 "call=1,4,0" station)) (9 ∷ 33 ∷ [])
    ∷ of (with_line 12 "call=0,5,1" (with_line 33 "call=1,3,1" station)) (10 ∷ 33 ∷ [])
    ∷ of (with_line 9 "form=3,0" L) (3 ∷ 9 ∷ [])
    -- both sides of the limit
    ∷ of (tower "body=27" 11 ("main=3" ∷ "new=0" ∷ "new=1" ∷ "call=1,7,0" ∷ [])) (4294967295 ∷ [])
    ∷ of (tower "body=27" 11 ("main=4" ∷ "new=0" ∷ "new=1" ∷ "call=1,7,0" ∷ "copy=0" ∷ [])) (13 ∷ 0 ∷ [])
    -- a name over the limit, of 4,294,967,296, where main needs it and where it does not
    ∷ of (tower "body=31" 15 ("main=3" ∷ "new=0" ∷ "new=1" ∷ "call=1,7,0" ∷ [])) (13 ∷ 0 ∷ [])
    ∷ of (tower "body=31" 15 ("main=3" ∷ "new=0" ∷ "new=1" ∷ "call=1,0,0" ∷ [])) (17 ∷ [])
    ∷ []

pub all : map (λ c. numbers (bound_reply (text_of c.sheet))) cases ≡ map (λ c. c.wanted) cases
unfolding bounding
all = refl
