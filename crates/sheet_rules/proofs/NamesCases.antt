-- Computed cases of the slots that a form's bodies name (document 02, order 6). Assumes nothing.
use mathlib.Core.Path.{◌≡◌, refl}
use mathlib.Core.Bool.{true, false}
use mathlib.Core.List.{[], ◌∷◌, map}
use Rattle.lists.specs.AnyAll.{any}
use Rattle.lists.specs.Contains.{contains}
use Rattle.sheet_rules.specs.Sheet.{new, call, get, put, copy, init, body, Form, code_names, form_names}

-- kept value 0 is in slot 2, which `init` alone names
abbrev keeper : Form
keeper = record { row = 2; keeps = 1 ∷ 0 ∷ []; parts = init 0 ∷ body (put 1 1 ∷ copy 3 ∷ []) ∷ [] }

-- slots 0 to 4
pub keeper_names : map (form_names keeper) (0 ∷ 1 ∷ 2 ∷ 3 ∷ 4 ∷ []) ≡ false ∷ true ∷ false ∷ true ∷ false ∷ []
unfolding any contains code_names
keeper_names = refl

-- two bodies, one of each instruction
abbrev clerk : Form
clerk = record { row = 3; keeps = []; parts = body (call 0 3 1 ∷ get 2 ∷ []) ∷ body (new 4 (3 ∷ 5 ∷ []) ∷ []) ∷ [] }

-- slots 0 to 6
pub clerk_names : map (form_names clerk) (0 ∷ 1 ∷ 2 ∷ 3 ∷ 4 ∷ 5 ∷ 6 ∷ []) ≡ true ∷ true ∷ false ∷ true ∷ false ∷ true ∷ false ∷ []
unfolding any contains code_names
clerk_names = refl
