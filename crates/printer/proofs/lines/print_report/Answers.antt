use native.Mathlib.Omega.{arith}
use Rattle.printer.proofs.HoldersLaws.{Printing-start}
use Rattle.printer.proofs.PrintedLaws.{refusal_printed, run_room, report_end, holder_asks, entry_fits, holder_less, holder_next}
use Rattle.printer.proofs.lines.print_report.Goals as goal

pub put_verdict-head-requires : goal.put_verdict-head-requires
put_verdict-head-requires c =
    omega (arith, c.requires.2)

pub put_run-at-requires : goal.put_run-at-requires
put_run-at-requires c =
    run_room c.args.text.now c.args.budget c.requires.0 c.requires.1 c.requires.2 c.ask_report-reply.ensures c.in-Ok.is c.put_verdict-head.ensures

pub loop-from-init : goal.loop-from-init
loop-from-init c = Printing-start

pub put_holder-at-requires : goal.put_holder-at-requires
put_holder-at-requires c =
    holder_asks c.args.text.now c.args.budget c.requires.0 c.requires.1 c.requires.2 c.ask_report-reply.ensures c.in-Ok.is c.put_verdict-head.ensures c.put_run-at.ensures c.loop-from.invariant c.loop-from-test.true

pub overflow_add-from : goal.overflow_add-from
overflow_add-from c =
    omega (arith, entry_fits c.args.text.now c.args.budget c.requires.0 c.requires.1 c.requires.2 c.ask_report-reply.ensures c.in-Ok.is c.put_verdict-head.ensures c.put_run-at.ensures c.loop-from.invariant c.loop-from-test.true)

pub overflow_add-from-in-loop-from : goal.overflow_add-from-in-loop-from
overflow_add-from-in-loop-from c =
    omega (arith, entry_fits c.args.text.now c.args.budget c.requires.0 c.requires.1 c.requires.2 c.ask_report-reply.ensures c.in-Ok.is c.put_verdict-head.ensures c.put_run-at.ensures c.loop-from.invariant c.loop-from-test.true)

pub bounds-numbers-from : goal.bounds-numbers-from
bounds-numbers-from c =
    omega (arith, (holder_asks c.args.text.now c.args.budget c.requires.0 c.requires.1 c.requires.2 c.ask_report-reply.ensures c.in-Ok.is c.put_verdict-head.ensures c.put_run-at.ensures c.loop-from.invariant c.loop-from-test.true).1)

pub overflow_add-from-in-loop-from-2 : goal.overflow_add-from-in-loop-from-2
overflow_add-from-in-loop-from-2 c =
    omega (arith, c.wide.ensures, entry_fits c.args.text.now c.args.budget c.requires.0 c.requires.1 c.requires.2 c.ask_report-reply.ensures c.in-Ok.is c.put_verdict-head.ensures c.put_run-at.ensures c.loop-from.invariant c.loop-from-test.true)

pub loop-from-smaller : goal.loop-from-smaller
loop-from-smaller c =
    holder_less c.args.text.now c.args.budget c.requires.0 c.requires.1 c.requires.2 c.ask_report-reply.ensures c.in-Ok.is c.put_verdict-head.ensures c.put_run-at.ensures c.loop-from.invariant c.loop-from-test.true c.wide.ensures

pub loop-from-preserved : goal.loop-from-preserved
loop-from-preserved c =
    holder_next c.args.text.now c.args.budget c.requires.0 c.requires.1 c.requires.2 c.ask_report-reply.ensures c.in-Ok.is c.put_verdict-head.ensures c.put_run-at.ensures c.loop-from.invariant c.loop-from-test.true c.wide.ensures c.put_holder-at.ensures

pub put_verdict-requires : goal.put_verdict-requires
put_verdict-requires c =
    omega (arith, c.requires.2)

pub returns-after-loop-from : goal.returns-after-loop-from
returns-after-loop-from c =
    report_end c.args.text.now c.args.budget c.requires.0 c.requires.1 c.requires.2 c.ask_report-reply.ensures c.in-Ok.is c.put_verdict-head.ensures c.put_run-at.ensures c.loop-from.invariant c.loop-from-test.false

pub returns-in-Err : goal.returns-in-Err
returns-in-Err c =
    refusal_printed c.args.text.now c.args.budget c.requires.0 c.requires.1 c.requires.2 c.ask_report-reply.ensures c.in-Err.is c.number_of.ensures c.put_verdict.ensures
