-- One part or form more adds its own instructions. Assumes nothing.
use Prim.Native.Nat.{◌+◌}
use native.Mathlib.Omega.{arith}
use mathlib.Core.Path.{◌≡◌}
use mathlib.Core.List.{List, [], ◌∷◌, ◌++◌}
use Rattle.sheet_rules.specs.Sheet.{Part, Form, size_of_part, size_of_parts, size_of_forms}

pub parts_snoc : (ps : List Part) (p : Part) → size_of_parts (ps ++ (p ∷ [])) ≡ size_of_parts ps + size_of_part p
unfolding size_of_parts
parts_snoc [] p = omega arith
parts_snoc (q ∷ ps) p = let e = parts_snoc ps p in omega arith

pub forms_snoc : (fs : List Form) (f : Form) → size_of_forms (fs ++ (f ∷ [])) ≡ size_of_forms fs + size_of_parts f.parts
unfolding size_of_forms
forms_snoc [] f = omega arith
forms_snoc (g ∷ fs) f = let e = forms_snoc fs f in omega arith
