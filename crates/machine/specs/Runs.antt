-- What a step and a run promise, in the work buffer. Stands on the rules' next step and run, and on the state that the buffer
-- holds.
use Rattle.std.specs.Prelude.{ℕ, suc, ◌+◌, ◌-◌, ◌≤◌, ◌<◌, ◌≡◌, List, length, set}
use Rattle.std.specs.declared.result.Result.{Result}
use Rattle.std.specs.declared.result.Result.TheVariants.{Ok, Err}
use Rattle.sheet_rules.specs.Sheet.{device_at}
use Rattle.machine_rules.specs.declared.Outcome.{Outcome}
use Rattle.machine_rules.specs.declared.Outcome.TheVariants.{Done, Spent, StoreFull, StackFull}
use Rattle.machine_rules.specs.declared.Tally.{Tally}
use Rattle.machine_rules.specs.State.{State}
use Rattle.machine_rules.specs.Step.{store_full, stack_full, next_step}
use Rattle.machine_rules.specs.declared.RunAnswer.{RunAnswer}
use Rattle.machine_rules.specs.Steps.{ended, run_from, run, answer_of}
use Rattle.table.specs.Layout.{main_start_at, main_count_at, device_count_at, table_end, object_address, slot_address, state_end}
use Rattle.table.specs.View.{cell, sheet_in}
use Rattle.table.specs.Only.{Only}
use Rattle.accepted.specs.Accepted.{AcceptedIn}
use Rattle.machine_places.specs.Located.{Located}
use Rattle.machine_state.specs.declared.Top.{Top}
use Rattle.machine_state.specs.Held.{state_in}
use Rattle.machine_steps.specs.Running.{Running, Took}
use Rattle.machine.specs.declared.Halt.{Halt}

-- what came of trying the step of an instruction: it was taken and counted; or the rules stop it, and nothing is changed
abbrev pub Tried : List ℕ → Top → Tally → List ℕ → Result (Top × Tally) Outcome → Type 0
Tried w t k w' (Ok to) = Took w t k w' to.0 to.1 × (to.1.steps ≡ suc k.steps)
Tried w t k w' (Err Done) = ⊥
Tried w t k w' (Err Spent) = ⊥
Tried w t k w' (Err StoreFull) = (next_step (sheet_in w) (state_in (sheet_in w) w t k) ≡ store_full) × (w' ≡ w)
Tried w t k w' (Err StackFull) = (next_step (sheet_in w) (state_in (sheet_in w) w t k) ≡ stack_full) × (w' ≡ w)

-- the rules' run within the budget goes no further than this state, and ends so; nothing is changed
pub record Ends (budget : ℕ) (w : List ℕ) (t : Top) (k : Tally) (w' : List ℕ) (o : Outcome) : Type 0 where
  pub here : run_from (sheet_in w) (budget - k.steps) k.steps (state_in (sheet_in w) w t k) ≡ ended o k.steps (state_in (sheet_in w) w t k)
  pub left : w' ≡ w

-- one step within the budget: taken and counted; or the run ends
abbrev pub Moved : ℕ → List ℕ → Top → Tally → List ℕ → Result (Top × Tally) Outcome → Type 0
Moved budget w t k w' (Ok to) = Took w t k w' to.0 to.1 × (to.1.steps ≡ suc k.steps) × (k.steps < budget)
Moved budget w t k w' (Err o) = Ends budget w t k w' o

-- where main's frame stands at the start: its first slots have the devices
abbrev pub start_top : List ℕ → Top
start_top w = record { own = 0; filled = cell w device_count_at; next = cell w main_start_at; end = cell w main_start_at + cell w main_count_at }

-- a buffer that can be run: its sheet was accepted, and its members are located
pub record Able (w : List ℕ) : Type 0 where
  pub accepted : AcceptedIn w
  pub located : Located w

-- device d, put into the store and into main's slot of its number
abbrev pub device_put : List ℕ → ℕ → List ℕ
device_put w d = set (set w (object_address d) (device_at (sheet_in w) d)) (slot_address 0 d) d

-- every device is in the store under its number, and in main's slot of its number
pub record Equipped (w : List ℕ) : Type 0 where
  pub forms : (d : ℕ) → d < length (sheet_in w).devices → cell w (object_address d) ≡ device_at (sheet_in w) d
  pub slots : (d : ℕ) → d < length (sheet_in w).devices → cell w (slot_address 0 d) ≡ d

-- all devices put there; nothing but the state is changed
pub record DevicesPut (w w' : List ℕ) : Type 0 where
  pub equipped : Equipped w'
  pub only : Only (object_address 0) state_end w w'

-- a buffer that can be run from here, with its devices in their places
pub record Ready (w : List ℕ) : Type 0 where
  pub able : Able w
  pub equipped : Equipped w

-- the state in which a run halted
abbrev pub halted_state : List ℕ → Halt → State
halted_state w h = state_in (sheet_in w) w h.top h.tally

-- the promise of a run: its outcome, its steps and the state that it leaves are those of the rules' run; nothing but the room after
-- the table is changed
pub record SheetRun (w : List ℕ) (budget : ℕ) (w' : List ℕ) (h : Halt) : Type 0 where
  pub ran : run (sheet_in w) budget ≡ ended h.outcome h.tally.steps (halted_state w' h)
  pub running : Running w' h.top h.tally
  pub within : h.tally.steps ≤ budget
  pub only : Only table_end state_end w w'

-- its answer
pub record SheetAnswered (w : List ℕ) (budget : ℕ) (w' : List ℕ) (r : RunAnswer) : Type 0 where
  pub same : r ≡ answer_of (run (sheet_in w) budget)
  pub only : Only table_end state_end w w'
