use lib.ListN.{drop}
use Rattle.sheet_rules.specs.Sheet.{form_at}
use Rattle.type_rules.specs.Typing.{parts_faults}
use Rattle.table.specs.View.{sheet_in}
use Rattle.bound_rules.specs.Strict.{strict_lines}
use Rattle.bound.proofs.ItemsLaws.{ItemsGoing}
use Rattle.bound.proofs.MembersLaws.{members_in, parts_in}
use Rattle.bound.proofs.calls.judge_parts.Given as goal

abbrev pub invariant-loop-j : goal.invariant-loop-j
invariant-loop-j l =
    ItemsGoing (λ i. parts_faults strict_lines (sheet_in l.sheet) l.f (form_at (sheet_in l.sheet) l.f) (drop i (members_in l.sheet l.f)) (drop i (parts_in l.sheet l.f))) 33 l.first l.j l.line
