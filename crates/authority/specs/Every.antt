-- Every holder's authority in the result buffer, and what the code that writes it promises. Stands on the rules' holders and on the
-- state that the buffer holds.
use Rattle.std.specs.Prelude.{ℕ, ◌+◌, ◌≡◌, List, [], ◌∷◌, ◌++◌, map, length}
use Rattle.machine_rules.specs.declared.Tally.{Tally}
use Rattle.lists.specs.Passing.{add_if}
use Rattle.authority_rules.specs.Authority.{is_resource}
use Rattle.authority_rules.specs.Report.{Holding, holding_of, holders}
use Rattle.table.specs.View.{sheet_in}
use Rattle.machine_state.specs.declared.Top.{Top}
use Rattle.authority_marks.specs.Marked.{MarksOnly}
use Rattle.lists.specs.PutAt.{put_at}
use Rattle.authority.specs.Members.{held_state}

-- a holder's entry: its number, how many it holds, and which
abbrev pub entry_of : Holding → List ℕ
entry_of x = x.holder ∷ length x.held ∷ x.held

-- entries, one after another
unfoldable pub entries : List Holding → List ℕ
entries [] = []
entries (x ∷ xs) = entry_of x ++ entries xs

-- the numbers that entries can take: 257 holders with 256 resources each
abbrev pub every_size : ℕ
every_size = 66306

-- some holders' entries, put at a place; r is the place after them; of the work buffer only marks change
pub record EntriesWritten (w : List ℕ) (t : Top) (k : Tally) (hs : List ℕ) (w' : List ℕ) (at : ℕ) (result result' : List ℕ) (r : ℕ) : Type 0 where
  pub only : MarksOnly w w'
  pub counted : r ≡ at + length (entries (map (holding_of (sheet_in w) (held_state w t k)) hs))
  pub left : result' ≡ put_at at (entries (map (holding_of (sheet_in w) (held_state w t k)) hs)) result

-- object b, if it is a resource
abbrev pub if_resource : List ℕ → Top → Tally → ℕ → List ℕ
if_resource w t k b = add_if (is_resource (sheet_in w) (held_state w t k).objects b) b []

-- every holder's entry, at the start of the result buffer
abbrev pub EveryWritten : (w : List ℕ) (t : Top) (k : Tally) (w' result result' : List ℕ) (r : ℕ) → Type 0
EveryWritten w t k w' result result' r = EntriesWritten w t k (holders (sheet_in w) (held_state w t k)) w' 0 result result' r
