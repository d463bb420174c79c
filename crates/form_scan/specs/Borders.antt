-- Where a line of a text ends and where a border stands, in bytes. Stands on a form's stretch (sheet_rules, Stretch).
use Rattle.std.specs.Prelude.{ℕ, ◌+◌, length, get_or, drop}
use mathlib.Core.List.{List, [], flatten}
use Rattle.lists.specs.BeforeNth.{before_nth}
use Rattle.sheet_rules.specs.Stretch.{text_lines, form_border}

-- the first line of some bytes
abbrev pub first_line : List ℕ → List ℕ
first_line bs = get_or (text_lines bs) 0 []

-- how many bytes it has
abbrev pub line_length : List ℕ → ℕ
line_length bs = length (first_line bs)

-- the place of border n, of those from a place on
unfoldable pub border_place : List ℕ → ℕ → ℕ → ℕ
border_place text from n = from + length (flatten (before_nth form_border n (text_lines (drop from text))))
