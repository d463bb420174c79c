-- A work buffer that grows by parts and forms: each adds its instructions after those that the pool has. Stands on View.
use Rattle.std.specs.Prelude.{ℕ, ◌+◌, ◌≤◌, ◌<◌, ◌≡◌, cond, List, eqb, length}
use Rattle.table.specs.Layout.{form_count_at, main_start_at, main_count_at, part_address, part_count_address, body_start_address, body_size_address, instr_address, pool_address, table_end}
use Rattle.table.specs.View.{cell}

-- w' is as long as w, and has the same numbers below lo, in the pool's first p instructions, and after the table
pub record OnlyFrom (lo p : ℕ) (w w' : List ℕ) : Type 0 where
  pub size : length w' ≡ length w
  pub below : (i : ℕ) → i < lo → cell w' i ≡ cell w i
  pub pool : (i : ℕ) → instr_address 0 ≤ i → i < pool_address p → cell w' i ≡ cell w i
  pub above : (i : ℕ) → table_end ≤ i → cell w' i ≡ cell w i

-- where the instructions of part j of form f end; 0 for an `init`, which has none
abbrev pub part_end : List ℕ → ℕ → ℕ → ℕ
part_end w f j = cond (eqb (cell w (part_address f j)) 0) 0 (cell w (body_start_address f j) + cell w (body_size_address f j))

-- the first n parts of form f have their instructions among the pool's first p
abbrev pub PartsEnd : List ℕ → ℕ → ℕ → ℕ → Type 0
PartsEnd w f n p = (j : ℕ) → j < n → part_end w f j ≤ p

-- a form of at most 8 parts, with their instructions among the pool's first p
pub record FormEnds (w : List ℕ) (f p : ℕ) : Type 0 where
  pub few : cell w (part_count_address f) ≤ 8
  pub ends : PartsEnd w f (cell w (part_count_address f)) p

-- all instructions that forms and main name stand in the pool
pub record Placed (w : List ℕ) : Type 0 where
  pub forms : (f : ℕ) → f < cell w form_count_at → FormEnds w f 1024
  pub main : cell w main_start_at + cell w main_count_at ≤ 1024
