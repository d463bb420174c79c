-- A run and the notes of its forms: what the authority's code stands on. Stands on the rules' run and on the state that the buffer
-- holds.
use Rattle.std.specs.Prelude.{ℕ, ◌≤◌, ◌≡◌, List}
use Rattle.machine_rules.specs.Steps.{ended, run}
use Rattle.table.specs.Layout.{table_end, notes_end}
use Rattle.table.specs.View.{sheet_in}
use Rattle.table.specs.Only.{Only}
use Rattle.machine.specs.declared.Halt.{Halt}
use Rattle.machine.specs.Runs.{halted_state}
use Rattle.authority.specs.Laid.{Prepared}

-- the rules' run of the sheet that w holds, with its last state left in w' and the forms noted there; the table is as it was
pub record NotedRun (w : List ℕ) (budget : ℕ) (w' : List ℕ) (halt : Halt) : Type 0 where
  pub only : Only table_end notes_end w w'
  pub ran : run (sheet_in w) budget ≡ ended halt.outcome halt.tally.steps (halted_state w' halt)
  pub within : halt.tally.steps ≤ budget
  pub prepared : Prepared w' halt.top halt.tally
