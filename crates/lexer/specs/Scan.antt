-- A line read byte by byte, as the code does it. LineFound proves that this finds the lines of the rules (sheet_rules, Lines).
use Rattle.std.specs.Prelude.{ℕ, ◌+◌, ◌*◌, ◌-◌, ◌≤◌, cond, List, [], ◌∷◌, ◌++◌, eqb, leb, ltb, length, drop}
use Rattle.std.specs.declared.option.Option.{Option}
use Rattle.std.specs.declared.option.Option.TheVariants.{Some, None}
use Rattle.sheet_rules.specs.declared.Place.{Place}
use Rattle.sheet_rules.specs.Lines.{newline, comma, equals, digit0, digit9}
use Rattle.sheet_rules.specs.Limits.{decimal_limit}
use Rattle.sheet_rules.specs.Keys.{count_of, spelling, all_places, takes}
use Rattle.lexer.specs.declared.Part.{Part}
use Rattle.lexer.specs.declared.Part.TheVariants.{Empty, Zero, Digits}
use Rattle.lexer.specs.declared.Turn.{Turn}
use Rattle.lexer.specs.declared.Turn.TheVariants.{More, Comma, End, Torn}
use Rattle.lexer.specs.declared.keys.KeyFacts.{KeyFacts}

-- after a number of value v: a comma, the end of the line, or a byte that does not belong there
abbrev pub end_turn : ℕ → ℕ → Turn
end_turn v b = cond (eqb b comma) (Comma v) (cond (eqb b newline) (End v) Torn)

-- after digits of value v: digit d, if the number stays within its limit
abbrev pub digit_more : ℕ → ℕ → Turn
digit_more v d = cond (leb (v * 10 + d) decimal_limit) (More (Digits (v * 10 + d))) Torn

-- after digits of value v: one digit more, or their end
abbrev pub digit_turn : ℕ → ℕ → Turn
digit_turn v b =
    cond (ltb b digit0) (end_turn v b)
    (cond (ltb digit9 b) (end_turn v b)
    (digit_more v (b - digit0)))

-- a number begins with a digit; 0 alone is a number
abbrev pub first_turn : ℕ → Turn
first_turn b =
    cond (ltb b digit0) Torn
    (cond (ltb digit9 b) Torn
    (cond (eqb b digit0) (More Zero) (More (Digits (b - digit0)))))

-- what byte b does after the number in progress
abbrev pub turn_of : Part → ℕ → Turn
turn_of Empty b = first_turn b
turn_of Zero b = end_turn 0 b
turn_of (Digits v) b = digit_turn v b

-- the number in progress is within its limit
abbrev pub PartFits : Part → Type 0
PartFits Empty = Unit {0}
PartFits Zero = Unit {0}
PartFits (Digits v) = v ≤ decimal_limit

-- so many numbers of a line may have a comma behind them: a tenth number is one too many for every key
abbrev pub comma_limit : ℕ
comma_limit = 8

-- on with the numbers after a turn at place i
abbrev pub on_turn : Turn → List ℕ → ℕ → (List ℕ → Part → Option (List ℕ × ℕ)) → Option (List ℕ × ℕ)
on_turn (More p) ns i more = more ns p
on_turn (Comma v) ns i more = cond (ltb (length ns) comma_limit) (more (ns ++ (v ∷ [])) Empty) None
on_turn (End v) ns i more = Some (ns ++ (v ∷ []), i + 1)
on_turn Torn ns i more = None

-- the numbers of the line whose bytes from place i on are given, after some, and the place after the line
unfoldable pub numbers_scan : List ℕ → Part → ℕ → List ℕ → Option (List ℕ × ℕ)
numbers_scan ns p i [] = None
numbers_scan ns p i (b ∷ bs) = on_turn (turn_of p b) ns i (λ ns' p'. numbers_scan ns' p' (i + 1) bs)

-- the letters of a key as a number, a letter a digit from 1 to 26 of base 27; with a seventh letter the number is full
abbrev pub code_limit : ℕ
code_limit = 387420489

abbrev pub on_letter : ℕ → ℕ → ℕ → (ℕ → Option (ℕ × ℕ)) → Option (ℕ × ℕ)
on_letter c i b more =
    cond (eqb b equals) (Some (c, i + 1))
    (cond (ltb b 97) None
    (cond (ltb 122 b) None
    (cond (ltb c code_limit) (more (c * 27 + (b - 96))) None)))

-- the key of the line whose bytes from place i on are given, after letters of code c, and the place after its equal sign
unfoldable pub key_scan : ℕ → ℕ → List ℕ → Option (ℕ × ℕ)
key_scan c i [] = None
key_scan c i (b ∷ bs) = on_letter c i b (λ c'. key_scan c' (i + 1) bs)

-- the number that a word's letters make, after others of code c
unfoldable pub word_code : ℕ → List ℕ → ℕ
word_code c [] = c
word_code c (b ∷ bs) = word_code (c * 27 + (b - 96)) bs

-- the first of some places whose key's word has the code
unfoldable pub code_among : List Place → ℕ → Place
code_among [] c = Place.Nowhere
code_among (k ∷ ks) c = cond (eqb c (word_code 0 (spelling k))) k (code_among ks c)

-- where a line may stand whose key has the code
unfoldable pub place_of_code : ℕ → Place
place_of_code c = code_among all_places c

-- a key from its place and its number count
abbrev pub facts_from : Place → ℕ → ℕ → KeyFacts
facts_from k fewest most = record { place = k; fewest = fewest; most = most }

-- the key of a place, with its number count from the rules' table
unfoldable pub facts_of : Place → KeyFacts
facts_of k = facts_from k (count_of k).fewest (count_of k).most

-- a line of a text: where it may stand, its numbers, and the place after it
pub record FoundLine : Type 0 where
  pub place : Place
  pub numbers : List ℕ
  pub next : ℕ

abbrev pub found_line : Place → List ℕ → ℕ → FoundLine
found_line k ns i = record { place = k; numbers = ns; next = i }

-- the place of a key, and what the numbers after it gave: a line, if the key takes as many
abbrev pub with_key : Place → Option (List ℕ × ℕ) → Option FoundLine
with_key k None = None
with_key k (Some r) = cond (takes k (length r.0)) (Some (found_line k r.0 r.1)) None

abbrev pub after_key : List ℕ → Option (ℕ × ℕ) → Option FoundLine
after_key text None = None
after_key text (Some r) = with_key (place_of_code r.0) (numbers_scan [] Empty r.1 (drop r.1 text))

-- the line of a text at a place
unfoldable pub line_at : List ℕ → ℕ → Option FoundLine
line_at text i = after_key text (key_scan 0 i (drop i text))
