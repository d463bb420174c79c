-- What the authority's code promises of a group of holders. Stands on the rules' groups and on the state that the buffer holds.
use Rattle.std.specs.Prelude.{ℕ, ◌<◌, ◌≡◌, Bool, ◌||◌, List, length}
use Rattle.machine_rules.specs.declared.Tally.{Tally}
use Rattle.machine_rules.specs.State.{State}
use Rattle.lists.specs.AnyAll.{any}
use Rattle.lists.specs.Contains.{contains}
use Rattle.authority_rules.specs.Counted.{usable}
use Rattle.authority_rules.specs.Authority.{reached_by}
use Rattle.authority_rules.specs.Group.{group_authority}
use Rattle.table.specs.View.{sheet_in}
use Rattle.machine_state.specs.declared.Top.{Top}
use Rattle.machine_state.specs.Held.{state_in}
use Rattle.authority_marks.specs.Marked.{MarksOnly, is_marked}
use Rattle.lists.specs.PutAt.{begun}

-- the state that the buffer holds, of its own sheet
abbrev pub held_state : List ℕ → Top → Tally → State
held_state w t k = state_in (sheet_in w) w t k

-- one of these holders can reach b
abbrev pub some_reaches : List ℕ → Top → Tally → List ℕ → ℕ → Bool
some_reaches w t k hs b = any (λ h. contains (reached_by usable (sheet_in w) (held_state w t k) h) b) hs

-- what these holders can reach is marked beside what was, and nothing else is changed
pub record MembersMarked (w : List ℕ) (t : Top) (k : Tally) (hs : List ℕ) (w' : List ℕ) : Type 0 where
  pub only : MarksOnly w w'
  pub told : (b : ℕ) → b < 256 → is_marked w' b ≡ (is_marked w b || some_reaches w t k hs b)

-- a group's authority at the start of the result buffer, whose later places keep their content; of the work buffer only marks
-- change
pub record GroupWritten (w : List ℕ) (t : Top) (k : Tally) (hs : List ℕ) (w' : List ℕ) (result result' : List ℕ) (r : ℕ) : Type 0 where
  pub only : MarksOnly w w'
  pub counted : r ≡ length (group_authority (sheet_in w) (held_state w t k) hs)
  pub left : result' ≡ begun (group_authority (sheet_in w) (held_state w t k) hs) result
