-- Computed cases of reading: the texts that document 01 runs as tests, bad input of every kind, and the order of refusals.
-- Each row has a text and the refusal's number and line, 0 and 0 for a readable sheet. Assumes nothing.
use Prim.Native.Nat.{ℕ, zero, suc, pred, ◌+◌, ◌/◌, ◌%◌}
use Prim.Native.String.{String}
use mathlib.Core.Path.{◌≡◌, refl}
use mathlib.Core.Bool.{cond}
use mathlib.Core.List.{List, [], ◌∷◌, ◌++◌, map}
use lib.Dec.{ltb}
use lib.ListN.{length, take, replicate}
use Rattle.sheet_rules.specs.declared.Lack.{Lack}
use Rattle.sheet_rules.specs.declared.Reason.TheVariants.{BufferTooShort, TextTooLong, Malformed, OutOfLimit, NotAscending, DuplicateRow, NotDefined, ImpureForm, NoSuchMember, Misfit, NoHolder, CircularCall, BeyondCount, WrongDevice}
use Rattle.sheet_rules.specs.Answers.{number_of}
use Rattle.sheet_rules.specs.Keys.{bytes}
use Rattle.sheet_rules.specs.Reading.{Meaning, readable, unreadable, meaning}
use Rattle.sheet_rules.specs.Samples.{text_of, with_line, P, L, D}
use Rattle.sheet_rules.proofs.Opened.{reading}

-- the refusal's number and line
abbrev numbers : Meaning → List ℕ
numbers (readable s) = 0 ∷ 0 ∷ []
numbers (unreadable r n) = number_of r ∷ n ∷ []

record Case : Type 0 where
  text : List ℕ
  wanted : List ℕ

abbrev gives : List ℕ → ℕ → ℕ → Case
gives text number line = record { text = text; wanted = number ∷ line ∷ [] }

-- P with one line replaced
abbrev P-with : ℕ → String → List ℕ
P-with n l = text_of (with_line n l P)

-- D with one line replaced
abbrev D-with : ℕ → String → List ℕ
D-with n l = text_of (with_line n l D)

-- D with this many devices, all of form 1
abbrev devices_of : String → ℕ → List ℕ
devices_of l d = text_of (take 20 D ++ (l ∷ replicate d "device=1") ++ ("main=1" ∷ "copy=0" ∷ []))

-- rows 2 and 3 are resources with these members
abbrev differing : String → String → List ℕ
differing l k =
    text_of ("types=4" ∷ "type=0,0" ∷ "type=1,0" ∷ "type=1,1" ∷ l ∷ "type=1,1" ∷ k ∷ "forms=1" ∷ "form=0,0" ∷ "main=1" ∷ "new=0" ∷ [])

-- a text whose first line has this many digits
abbrev digits : ℕ → List ℕ
digits k = bytes "types=" ++ replicate k 49 ++ (10 ∷ [])

abbrev cases : List Case
cases =
    gives (text_of P) 0 0
    ∷ gives (text_of L) 0 0
    -- run as tests
    ∷ gives [] 3 1
    ∷ gives (P-with 1 "types=0") 4 1
    ∷ gives (P-with 1 "types=65") 4 1
    ∷ gives (P-with 1 "types=03") 3 1
    ∷ gives (take (pred (length (text_of P))) (text_of P)) 3 20
    -- bad input: bytes over 127, a carriage return, numbers of 6 and of 600 digits, no number, an unknown key, an empty line
    ∷ gives (200 ∷ text_of P) 3 1
    ∷ gives (P-with 2 "type=0,0\r") 3 2
    ∷ gives (digits 6) 3 1
    ∷ gives (digits 600) 3 1
    ∷ gives (P-with 2 "type=0,65536") 3 2
    ∷ gives (P-with 2 "type=0,65535") 4 2
    ∷ gives (P-with 2 "type=0,") 3 2
    ∷ gives (P-with 2 "type=0=0") 3 2
    ∷ gives (P-with 2 "typo=0,0") 3 2
    ∷ gives (P-with 2 "") 3 2
    -- a line missing, a line after main, a key in the wrong place, a wrong number count
    ∷ gives (text_of (take 19 P)) 3 20
    ∷ gives (text_of (P ++ ("copy=0" ∷ []))) 3 21
    ∷ gives (text_of P ++ (10 ∷ [])) 3 21
    ∷ gives (P-with 8 "keep=0") 3 8
    ∷ gives (P-with 10 "init=0") 3 10
    ∷ gives (P-with 20 "call=2,2") 3 20
    ∷ gives (P-with 20 "cull=2,2,0") 3 20
    ∷ gives (P-with 19 "new=2,0,0,0,0,0,0,0,0,0") 3 19
    ∷ gives (P-with 19 "new=2,0,0,0,0,0,0,0,0") 0 0
    -- limits: K, members, names in a member and in a call, forms, kept values, instructions of a body
    ∷ gives (P-with 2 "type=2,0") 4 2
    ∷ gives (P-with 2 "type=0,9") 4 2
    ∷ gives (P-with 4 "def=64,0,0") 4 4
    ∷ gives (P-with 4 "def=63,0,0") 0 0
    ∷ gives (P-with 20 "call=2,64,0") 4 20
    ∷ gives (P-with 20 "get=64") 4 20
    ∷ gives (P-with 20 "put=64,0") 4 20
    ∷ gives (P-with 7 "forms=65") 4 7
    ∷ gives (P-with 8 "form=0,9") 4 8
    ∷ gives (P-with 10 "body=0") 4 10
    ∷ gives (P-with 16 "main=33") 4 16
    -- names that do not ascend, before a row that is not lower; a twin on its last line
    ∷ gives (text_of ("types=2" ∷ "type=0,0" ∷ "type=0,2" ∷ "def=5,0,0" ∷ "def=5,1,0" ∷ [])) 5 5
    ∷ gives (P-with 6 "def=1,0,0") 6 6
    ∷ gives (P-with 3 "type=0,0") 6 3
    ∷ gives (text_of ("types=2" ∷ "type=0,0" ∷ "type=1,0" ∷ "forms=1" ∷ "form=0,0" ∷ "main=1" ∷ "new=0" ∷ [])) 0 0
    ∷ gives (differing "def=1,0,0" "def=1,1,0") 0 0
    ∷ gives (differing "def=1,0,0" "var=1,0") 0 0
    ∷ gives (differing "def=1,0,0" "def=1,0,0") 6 7
    -- rows, forms, kept values and slots that do not exist
    ∷ gives (P-with 4 "def=1,1,0") 7 4
    ∷ gives (P-with 9 "form=3,0") 7 9
    ∷ gives (P-with 13 "keep=3") 7 13
    ∷ gives (P-with 17 "new=3") 7 17
    ∷ gives (P-with 11 "copy=2") 7 11
    ∷ gives (P-with 15 "call=3,1,1") 7 15
    ∷ gives (P-with 20 "call=4,2,0") 7 20
    ∷ gives (P-with 20 "call=2,2,3") 7 20
    ∷ gives (P-with 17 "copy=0") 7 17
    ∷ gives (text_of ("types=2" ∷ "type=0,0" ∷ "type=1,1" ∷ "var=1,0" ∷ "forms=1" ∷ "form=1,1" ∷ "keep=0" ∷ "init=1" ∷ [])) 7 8
    -- a body names a form that stands later in the sheet
    ∷ gives (P-with 11 "new=2,1") 0 0
    -- devices: their count, their number counts, their places, their forms, and main's slots after them; what a device's form is, is not
    -- asked at reading
    ∷ gives (text_of D) 0 0
    ∷ gives (D-with 21 "devices=0") 4 21
    ∷ gives (devices_of "devices=1" 1) 0 0
    ∷ gives (devices_of "devices=8" 8) 0 0
    ∷ gives (devices_of "devices=9" 9) 4 21
    ∷ gives (D-with 21 "devices=2,1") 3 21
    ∷ gives (D-with 22 "device=1,2") 3 22
    ∷ gives (D-with 21 "devices=1") 3 23
    ∷ gives (D-with 21 "devices=3") 3 24
    ∷ gives (D-with 21 "device=1") 3 21
    ∷ gives (D-with 22 "devices=1") 3 22
    ∷ gives (D-with 9 "devices=1") 3 9
    ∷ gives (D-with 25 "devices=1") 3 25
    ∷ gives (D-with 22 "device=4") 7 22
    ∷ gives (D-with 25 "copy=1") 0 0
    ∷ gives (D-with 25 "copy=2") 7 25
    ∷ gives (D-with 27 "call=3,3,4") 7 27
    ∷ gives (D-with 22 "device=0") 0 0
    ∷ gives (D-with 22 "device=3") 0 0
    -- the first line at fault ends the reading, and on a line the lower number wins
    ∷ gives (text_of (with_line 4 "def=1,1,0" (with_line 20 "call=2,2" P))) 7 4
    ∷ gives (P-with 4 "def=64,1,0") 4 4
    ∷ gives (P-with 8 "form=3,9") 4 8
    ∷ gives (P-with 20 "call=9,64,0") 4 20
    ∷ []

pub all : map (λ c. numbers (meaning c.text)) cases ≡ map (λ c. c.wanted) cases
unfolding reading
all = refl

-- a text of 65,535 bytes is read, one over that is refused unread
pub too_long : map (λ n. numbers (meaning (replicate n 10))) (65535 ∷ 65536 ∷ []) ≡ (3 ∷ 1 ∷ []) ∷ (2 ∷ 0 ∷ []) ∷ []
unfolding reading
too_long = refl

-- THE LIMIT OF 1,024 INSTRUCTIONS, at its edge

-- a heading and n instructions
abbrev body : String → ℕ → List String
body l n = l ∷ replicate n "copy=0"

abbrev twice : List String → List String
twice ls = ls ++ ls

abbrev seven : List String
seven = body "body=32" 32 ++ twice (body "body=32" 32 ++ twice (body "body=32" 32))

abbrev form_of_256 : List String
form_of_256 = "form=1,0" ∷ (body "body=32" 32 ++ seven)

-- four forms of eight bodies, the last body given, and the lines after them
abbrev filled_with : String → List String → List String → List String
filled_with forms last more =
    ("types=2" ∷ "type=0,0" ∷ "type=0,8" ∷ "def=0,0,0" ∷ "def=1,0,0" ∷ "def=2,0,0" ∷ "def=3,0,0" ∷ "def=4,0,0" ∷ "def=5,0,0" ∷ "def=6,0,0" ∷ "def=7,0,0" ∷ forms ∷ [])
    ++ (form_of_256 ++ twice form_of_256) ++ ("form=1,0" ∷ (seven ++ last)) ++ more

-- main with one instruction on the last line
abbrev main_of_1 : List String
main_of_1 = "main=1" ∷ "new=0" ∷ []

-- 1,024 in all are read; with one more the `main` line is out of its limit, or the `body` line that announces it
pub at_most_1024 :
    map (λ ls. numbers (meaning (text_of ls)))
    (filled_with "forms=4" (body "body=31" 31) main_of_1
    ∷ filled_with "forms=4" (body "body=32" 32) main_of_1
    ∷ filled_with "forms=5" (body "body=32" 32) ("form=1,0" ∷ body "body=1" 1)
    ∷ [])
    ≡ (0 ∷ 0 ∷ []) ∷ (4 ∷ 1073 ∷ []) ∷ (4 ∷ 1074 ∷ []) ∷ []
unfolding reading
at_most_1024 = refl

-- SIXTY-FOUR OF EACH

-- a number below 100 in decimal
abbrev two_digits : ℕ → List ℕ
two_digits n = cond (ltb n 10) ((48 + n) ∷ []) ((48 + n / 10) ∷ (48 + n % 10) ∷ [])

-- rows of one method each, of the names from n down
abbrev rows_named : ℕ → List ℕ
rows_named zero = []
rows_named (suc n) = rows_named n ++ (bytes "type=0,1" ++ (10 ∷ bytes "def=") ++ two_digits n ++ bytes ",0,0" ++ (10 ∷ []))

-- an empty row, a row for each of 63 names, and 64 forms, of which main makes the last
abbrev sixty_four : List ℕ
sixty_four = text_of ("types=64" ∷ "type=0,0" ∷ []) ++ rows_named 63 ++ text_of ("forms=64" ∷ (replicate 64 "form=0,0" ++ ("main=1" ∷ "new=63" ∷ [])))

pub all_64 : numbers (meaning sixty_four) ≡ 0 ∷ 0 ∷ []
unfolding reading
all_64 = refl

-- THE NUMBERS OF THE REFUSALS

pub numbered :
    map number_of (BufferTooShort ∷ TextTooLong ∷ Malformed ∷ OutOfLimit ∷ NotAscending ∷ DuplicateRow ∷ NotDefined ∷ ImpureForm ∷ NoSuchMember ∷ Misfit Lack.Count ∷ NoHolder ∷ CircularCall ∷ BeyondCount ∷ WrongDevice ∷ [])
    ≡ 1 ∷ 2 ∷ 3 ∷ 4 ∷ 5 ∷ 6 ∷ 7 ∷ 8 ∷ 9 ∷ 10 ∷ 11 ∷ 12 ∷ 13 ∷ 14 ∷ []
numbered = refl
