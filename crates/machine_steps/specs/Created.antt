-- The buffer while an object is made: what its kept values and its fields start as. Stands on the state that the buffer holds.
use Rattle.std.specs.Prelude.{ℕ, ◌+◌, ◌≤◌, ◌<◌, ◌≡◌, List, [], ◌∷◌, length, get_or, set}
use Rattle.sheet_rules.specs.Sheet.{Part, init, body}
use Rattle.table.specs.Layout.{part_count_address, kept_address, field_address, slot_address, work_size}
use Rattle.table.specs.View.{cell, part_in}
use Rattle.table.specs.Told.{new_slots}
use Rattle.table.specs.Only.{Only}

-- what it takes to keep values of frame f in object o: everything in range, and so every slot that the `new` at place p names,
-- which are `count`
pub record Keepable (w : List ℕ) (f p o count : ℕ) : Type 0 where
  pub frame : f < 64
  pub place : p < 1024
  pub object : o < 256
  pub counted : count ≡ length (new_slots w p)
  pub few : count ≤ 8
  pub slots : (i : ℕ) → i < length (new_slots w p) → get_or (new_slots w p) i 0 < 44
  pub size : work_size ≤ length w

-- the kept values of object o are those of the slots that the `new` at place p names, in order, and nothing else is changed
pub record KeptFrom (w : List ℕ) (f p o : ℕ) (w' : List ℕ) : Type 0 where
  pub only : Only (kept_address o 0) (field_address o 0) w w'
  pub values : (i : ℕ) → i < length (new_slots w p) → cell w' (kept_address o i) ≡ cell w (slot_address f (get_or (new_slots w p) i 0))

-- what it takes to do part j of form g in object o, where i fields come before: everything in range, and so the kept value that
-- an `init` names
pub record PartStarts (w : List ℕ) (g o j i : ℕ) : Type 0 where
  pub form : g < 64
  pub object : o < 256
  pub part : j < 8
  pub field : i < 8
  pub kept : (k : ℕ) → part_in w g j ≡ init k → k < 8
  pub size : work_size ≤ length w

-- the same for all parts of the form
pub record FormStarts (w : List ℕ) (g o : ℕ) : Type 0 where
  pub form : g < 64
  pub object : o < 256
  pub parts : cell w (part_count_address g) ≤ 8
  pub kept : (j k : ℕ) → j < cell w (part_count_address g) → part_in w g j ≡ init k → k < 8
  pub size : work_size ≤ length w

-- the buffer after a part of object o's form is done, where i fields come before it: an `init` puts its kept value into field i
abbrev pub start_put : List ℕ → ℕ → Part → ℕ → List ℕ
start_put w o (init k) i = set w (field_address o i) (cell w (kept_address o k))
start_put w o (body is) i = w

-- the fields up to a part, where i come before it
abbrev pub start_count : Part → ℕ → ℕ
start_count (init k) i = i + 1
start_count (body is) i = i

-- the buffer after some parts are done, where i fields come before them
unfoldable pub fields_started : List ℕ → ℕ → List Part → ℕ → List ℕ
fields_started w o [] i = w
fields_started w o (p ∷ ps) i = fields_started (start_put w o p i) o ps (start_count p i)
