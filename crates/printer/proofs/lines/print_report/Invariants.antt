use Prim.Native.Nat.{◌-◌}
use Rattle.authority_rules.specs.Report.{report}
use Rattle.printer.proofs.ReportLaws.{holdings_in}
use Rattle.printer.proofs.HoldersLaws.{Printing}
use Rattle.printer.proofs.lines.print_report.Given as goal

abbrev pub invariant-loop-from : goal.invariant-loop-from
invariant-loop-from l = Printing (holdings_in (report l.text l.budget)) l.initial.out l.initial.at l.out l.at l.from

abbrev pub decreases-loop-from : goal.decreases-loop-from
decreases-loop-from l = l.end - l.from
