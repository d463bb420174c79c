-- The buffer after a frame is entered: its first slots. Stands on the state that the buffer holds.
use Rattle.std.specs.Prelude.{ℕ, ◌+◌, ◌<◌, ◌≡◌, List}
use Rattle.table.specs.Layout.{kept_address, slot_address}
use Rattle.table.specs.View.{cell}
use Rattle.table.specs.Only.{Only}

-- the first values that object o keeps stand in the slots of frame f, after its first two
pub record KeptCopied (w w' : List ℕ) (f o count : ℕ) : Type 0 where
  pub only : Only (slot_address f 2) (slot_address f 10) w w'
  pub values : (i : ℕ) → i < count → cell w' (slot_address f (2 + i)) ≡ cell w (kept_address o i)

-- the first slots of frame f: the own object, the argument, and the values that the object keeps
pub record Entered (w w' : List ℕ) (f own argument count : ℕ) : Type 0 where
  pub only : Only (slot_address f 0) (slot_address f 10) w w'
  pub first : cell w' (slot_address f 0) ≡ own
  pub second : cell w' (slot_address f 1) ≡ argument
  pub values : (i : ℕ) → i < count → cell w' (slot_address f (2 + i)) ≡ cell w (kept_address own i)
