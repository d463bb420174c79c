-- The report on a text: what its run answers, and the authority of every holder in the state that the run leaves (document 01,
-- One sheet in full). Stands on Authority and on the run.
use Rattle.std.specs.Prelude.{ℕ, List, ◌∷◌, map, length}
use Rattle.sheet_rules.specs.declared.Reason.{Reason}
use Rattle.sheet_rules.specs.Sheet.{Sheet}
use Rattle.sheet_rules.specs.Reading.{meaning}
use Rattle.type_rules.specs.Typing.{typing, accepted_on}
use Rattle.machine_rules.specs.declared.RunAnswer.{RunAnswer}
use Rattle.machine_rules.specs.State.{State}
use Rattle.machine_rules.specs.Steps.{Ran, run, answer_of}
use Rattle.lists.specs.Passing.{passing}
use Rattle.authority_rules.specs.Authority.{main_holder, is_resource, authority}

-- the holders of a state: main, then the resource objects ascending (One sheet in full)
abbrev pub holders : Sheet → State → List ℕ
holders s σ = main_holder ∷ passing (is_resource s σ.objects) 0 (length σ.objects)

-- a holder and its authority (One sheet in full)
pub record Holding : Type 0 where
  pub holder : ℕ
  pub held : List ℕ

-- h's, in a state (One sheet in full)
abbrev pub holding_of : Sheet → State → ℕ → Holding
holding_of s σ h = record { holder = h; held = authority s σ h }

-- each holder's, in a state (One sheet in full)
abbrev pub holdings : Sheet → State → List Holding
holdings s σ = map (holding_of s σ) (holders s σ)

-- a report, or a refusal with its line (One sheet in full)
pub data Report : Type 0 where
  reported : RunAnswer → List Holding → Report
  not_reported : Reason → ℕ → Report

-- the report on a run (One sheet in full)
abbrev pub report_of : Sheet → Ran → Report
report_of s r = reported (answer_of r) (holdings s r.last)

-- the report on a text and a budget, its buffers left aside; only an accepted sheet is run (One sheet in full)
unfoldable pub report : List ℕ → ℕ → Report
report text budget = accepted_on typing not_reported (λ s. report_of s (run s budget)) (meaning text)
