use lib.ListN.{drop}
use Rattle.type_rules.specs.Typing.{forms_faults}
use Rattle.table.specs.View.{sheet_in}
use Rattle.bound_rules.specs.Strict.{strict_lines}
use Rattle.bound.proofs.ItemsLaws.{ItemsGoing}
use Rattle.bound.proofs.calls.judge_forms.Given as goal

abbrev pub invariant-loop-f : goal.invariant-loop-f
invariant-loop-f l = ItemsGoing (λ i. forms_faults strict_lines (sheet_in l.sheet) i (drop i (sheet_in l.sheet).forms)) 273 l.first l.f l.line
