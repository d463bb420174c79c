-- Computed cases of one form's lines: each row has a text, a form number, and the refusal's number and line, 0 and 0 for a part
-- that is given, with the part's start and length. Assumes nothing.
use Prim.Native.Nat.{ℕ, pred}
use Prim.Native.String.{String}
use mathlib.Core.Path.{◌≡◌, refl}
use mathlib.Core.List.{List, [], ◌∷◌, map, flatten}
use lib.ListN.{length, take}
use Rattle.lists.specs.BeforeNth.{before_nth}
use Rattle.sheet_rules.specs.declared.FormLines.{FormLines}
use Rattle.sheet_rules.specs.declared.Refusal.{Refusal}
use Rattle.std.specs.declared.result.Result.{Result}
use Rattle.sheet_rules.specs.Stretch.{text_lines, begins, form_reply, reply_number, reply_line, stretch_start, stretch_length}
use Rattle.sheet_rules.specs.Samples.{text_of, with_line, P, D}
use Rattle.sheet_rules.proofs.Opened.{reading}

record Case : Type 0 where
  text : List ℕ
  form : ℕ
  wanted : List ℕ

-- a part of the text is given
abbrev shows : List ℕ → ℕ → ℕ → ℕ → Case
shows text form start length = record { text = text; form = form; wanted = 0 ∷ 0 ∷ start ∷ length ∷ [] }

-- a refusal: an empty part at the text's start
abbrev refuses : List ℕ → ℕ → ℕ → ℕ → Case
refuses text form number line = record { text = text; form = form; wanted = number ∷ line ∷ 0 ∷ 0 ∷ [] }

-- P with one line replaced
abbrev P-with : ℕ → String → List ℕ
P-with n l = text_of (with_line n l P)

-- two forms with the same lines, of one line each
abbrev twins : List ℕ
twins = text_of ("types=1" ∷ "type=0,0" ∷ "forms=2" ∷ "form=0,0" ∷ "form=0,0" ∷ "main=1" ∷ "new=1" ∷ [])

-- no form
abbrev formless : List ℕ
formless = text_of ("types=1" ∷ "type=0,0" ∷ "forms=0" ∷ "main=1" ∷ "get=0" ∷ [])

abbrev cases : List Case
cases =
    shows (text_of P) 0 63 9
    ∷ shows (text_of P) 1 72 23
    ∷ shows (text_of P) 2 95 34
    -- told apart by their place alone
    ∷ shows twins 0 25 9
    ∷ shows twins 1 34 9
    -- the last form's lines end before `devices`
    ∷ shows (text_of D) 2 114 23
    ∷ shows (text_of D) 3 137 34
    ∷ refuses (text_of D) 4 7 0
    -- not in the sheet
    ∷ refuses (text_of P) 3 7 0
    ∷ refuses (text_of P) 65536 7 0
    ∷ refuses formless 0 7 0
    -- readable, though the verdict refuses it: 8 at 13, 9 at 20, 10 at 19
    ∷ shows (P-with 5 "type=0,1") 2 95 34
    ∷ shows (P-with 20 "call=2,3,0") 1 72 23
    ∷ shows (P-with 19 "new=2,0") 0 63 9
    -- not readable: a refusal of reading comes before the missing form
    ∷ refuses (P-with 6 "def=1,0,0") 2 6 6
    ∷ refuses (P-with 20 "call=4,2,0") 0 7 20
    ∷ refuses (P-with 20 "call=4,2,0") 3 7 20
    ∷ refuses (take (pred (length (text_of P))) (text_of P)) 0 3 20
    ∷ refuses [] 0 3 1
    ∷ []

abbrev numbers : Result FormLines Refusal → List ℕ
numbers r = reply_number r ∷ reply_line r ∷ stretch_start r ∷ stretch_length r ∷ []

pub all : map (λ c. numbers (form_reply c.text c.form)) cases ≡ map (λ c. c.wanted) cases
unfolding reading text_lines begins flatten before_nth form_reply
all = refl
