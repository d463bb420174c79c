-- What the lexer's answers tell: the numbers of a line as a list. Stands on the scan of a line.
use Rattle.std.specs.Prelude.{ℕ, ◌-◌, ◌≡◌, true, List, length, take, drop, replicate}
use Rattle.std.specs.declared.option.Option.{Option}
use Rattle.std.specs.declared.option.Option.TheVariants.{Some, None}
use Rattle.sheet_rules.specs.declared.Place.{Place}
use Rattle.sheet_rules.specs.Keys.{takes}
use Rattle.lexer.specs.declared.numbers.Numbers.{Numbers}
use Rattle.lexer.specs.declared.KeyedLine.{KeyedLine}
use Rattle.lexer.specs.Scan.{FoundLine, found_line}

-- the numbers as a list
unfoldable pub list_of : Numbers → List ℕ
list_of ns = take ns.count ns.values

-- what is stored behind the numbers is 0
abbrev pub Rested : Numbers → Type 0
Rested ns = drop ns.count ns.values ≡ replicate (9 - ns.count) 0

-- numbers that were read, and the place after them
abbrev pub numbers_told : Option (Numbers × ℕ) → Option (List ℕ × ℕ)
numbers_told None = None
numbers_told (Some r) = Some (list_of r.0, r.1)

-- a line that was read
abbrev pub keyed_told : Option KeyedLine → Option FoundLine
keyed_told None = None
keyed_told (Some l) = Some (found_line l.place (list_of l.numbers) l.next)

-- what the lexer gives of a line: as many numbers as the key of its place takes
pub record Fitting (k : Place) (ns : Numbers) : Type 0 where
  pub fit : takes k (length (list_of ns)) ≡ true
