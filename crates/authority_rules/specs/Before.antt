-- Who held what before order 6, when every filled slot and every kept value counted (document 01, Who holds what). Kept for one law:
-- each set of today lies within that one (document 02, order 6). Stands on Authority.
use Rattle.std.specs.Prelude.{ℕ, Bool}
use Rattle.sheet_rules.specs.Sheet.{Sheet}
use Rattle.machine_rules.specs.State.{State}
use Rattle.authority_rules.specs.Counted.{Counting}
use Rattle.authority_rules.specs.Authority.{holds_by}

-- every filled slot and every kept value (Who holds what)
abbrev pub everything : Counting
everything = record { top = λ f. f.slots; waiting = λ f. f.slots; kept = λ s o. o.kept }

-- h held b (Who holds what)
abbrev pub held_before : Sheet → State → ℕ → ℕ → Bool
held_before = holds_by everything
