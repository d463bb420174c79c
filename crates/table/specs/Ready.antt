-- A whole buffer that holds rows. Stands on View.
use Rattle.std.specs.Prelude.{ℕ, ◌≤◌, ◌<◌, List, length}
use Rattle.table.specs.Layout.{member_count_address, work_size}
use Rattle.table.specs.View.{cell}

-- a whole buffer, where the first n rows have at most 8 members
pub record Ready (n : ℕ) (w : List ℕ) : Type 0 where
  pub size : work_size ≤ length w
  pub rows : n ≤ 64
  pub few : (i : ℕ) → i < n → cell w (member_count_address i) ≤ 8
