-- Elements written into a list that keeps its other places.
use Rattle.std.specs.Prelude.{ℕ, List, ◌++◌, length, take, drop}

-- a list that begins with xs; its later places keep their content
abbrev pub begun : {A : Type 0} → List A → List A → List A
begun xs ys = xs ++ drop (length xs) ys

-- xs put at a place; what stands elsewhere stays
abbrev pub put_at : {A : Type 0} → ℕ → List A → List A → List A
put_at at xs ys = take at ys ++ begun xs (drop at ys)
