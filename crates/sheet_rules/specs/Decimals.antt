-- Numbers and lines as they are written (document 01, The sheet; One sheet in full). Stands on Lines.
use Rattle.std.specs.Prelude.{ℕ, zero, suc, ◌+◌, ◌/◌, ◌%◌, cond, List, [], ◌∷◌, ◌++◌, ltb}
use Rattle.sheet_rules.specs.Lines.{newline, comma, digit0}

-- a number in decimal, in k digits at the most (The sheet)
unfoldable pub decimal_up_to : ℕ → ℕ → List ℕ
decimal_up_to zero n = []
decimal_up_to (suc k) n = cond (ltb n 10) ((digit0 + n) ∷ []) (decimal_up_to k (n / 10) ++ ((digit0 + n % 10) ∷ []))

-- a number in decimal, without leading zeros; one digit more than its size is always enough (The sheet)
unfoldable pub decimal : ℕ → List ℕ
decimal n = decimal_up_to (suc n) n

-- numbers, each after a comma (The sheet)
unfoldable pub further : List ℕ → List ℕ
further [] = []
further (n ∷ ns) = comma ∷ (decimal n ++ further ns)

-- a line: a word with its equal sign, a number and further ones (The sheet; One sheet in full)
abbrev pub line_text : List ℕ → ℕ → List ℕ → List ℕ
line_text word n ns = word ++ (decimal n ++ (further ns ++ (newline ∷ [])))
