-- A work buffer that is changed in one part alone. Stands on View.
use Rattle.std.specs.Prelude.{ℕ, ◌≤◌, ◌<◌, ◌≡◌, List, length}
use Rattle.table.specs.View.{cell}

-- w' is as long as w, and has the same numbers below lo and from hi on
pub record Only (lo hi : ℕ) (w w' : List ℕ) : Type 0 where
  pub size : length w' ≡ length w
  pub below : (i : ℕ) → i < lo → cell w' i ≡ cell w i
  pub above : (i : ℕ) → hi ≤ i → cell w' i ≡ cell w i
