-- Bytes put into a buffer one after another. Stands on nothing of ours but lists.
use Rattle.std.specs.Prelude.{ℕ, ◌+◌, ◌≤◌, ◌≡◌, List, length}
use Rattle.lists.specs.PutAt.{put_at}

-- some bytes put at a place; r is the place after them, and they are no more than most
pub record Put (most at : ℕ) (xs out out' : List ℕ) (r : ℕ) : Type 0 where
  pub left : out' ≡ put_at at xs out
  pub next : r ≡ at + length xs
  pub few : r ≤ at + most
