-- A run in a work buffer that holds an accepted sheet, and what a step makes of it. Stands on the state that the buffer holds.
use Rattle.std.specs.Prelude.{ℕ, suc, ◌≤◌, ◌<◌, ◌≡◌, List}
use Rattle.sheet_rules.specs.Sheet.{Instr}
use Rattle.machine_rules.specs.declared.Tally.{Tally}
use Rattle.machine_rules.specs.Step.{Action, step, next_step}
use Rattle.machine_rules.specs.Sound.{Sound}
use Rattle.table.specs.Layout.{object_address, end_address, state_end}
use Rattle.table.specs.View.{cell, instr_in, sheet_in}
use Rattle.table.specs.Only.{Only}
use Rattle.accepted.specs.Accepted.{AcceptedIn}
use Rattle.machine_places.specs.Located.{Located}
use Rattle.machine_state.specs.declared.Top.{Top}
use Rattle.machine_state.specs.Held.{state_in}

-- the code of every frame ends in the pool: that of the frame in hand, and those kept below it
pub record Ending (w : List ℕ) (t : Top) (k : Tally) : Type 0 where
  pub frames : 1 ≤ k.frames
  pub top : t.end ≤ 1024
  pub below : (f : ℕ) → suc f < k.frames → cell w (end_address f) ≤ 1024

-- a buffer that holds an accepted sheet, with the members located, and a sound state
pub record Running (w : List ℕ) (t : Top) (k : Tally) : Type 0 where
  pub accepted : AcceptedIn w
  pub located : Located w
  pub sound : Sound (sheet_in w) (state_in (sheet_in w) w t k)
  pub ending : Ending w t k

-- the frame in hand has an instruction left, and it is this one
pub record Facing (w : List ℕ) (t : Top) (k : Tally) (i : Instr) : Type 0 where
  pub running : Running w t k
  pub left : t.next < t.end
  pub instr : instr_in w t.next ≡ i

-- one step taken: the state is the one that the rules' next step leaves, and nothing but the state is changed
pub record Took (w : List ℕ) (t : Top) (k : Tally) (w' : List ℕ) (t' : Top) (k' : Tally) : Type 0 where
  pub action : Action
  pub next : next_step (sheet_in w) (state_in (sheet_in w) w t k) ≡ step action (state_in (sheet_in w) w' t' k')
  pub only : Only (object_address 0) state_end w w'
  pub ending : Ending w' t' k'
