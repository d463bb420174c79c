use native.Mathlib.Omega.{arith}
use Rattle.reader_loop.proofs.ThenLaws.{past}
use Rattle.reader.proofs.MainLaws.{counts_size, main_refused, main_whole, instrs_refused, after_main, main_read}
use Rattle.reader.proofs.read_main.Goals as goal

pub returns-in_err-head : goal.returns-in_err-head
returns-in_err-head c =
    main_refused c.requires.2 c.requires.1 c.requires.3 c.requires.4 c.take_line.ensures c.in_err-head.was c.from_residual.result c.from_residual.ensures.1

pub read_instrs-requires : goal.read_instrs-requires
read_instrs-requires c = (
  (past c.in_ok-head.was c.take_line.ensures.onward).room,
  omega (arith, main_whole c.requires.2 c.requires.1 c.requires.3 c.requires.4 c.take_line.ensures c.in_ok-head.was, c.wide.ensures),
  omega (arith, c.device_count-filled.ensures, c.requires.4),
  omega (arith, c.requires.2.size, counts_size c.args.work.now _ _ _ _ c.requires.2.size c.put_counts.ensures),
)

pub returns-in_err-end : goal.returns-in_err-end
returns-in_err-end c =
    instrs_refused c.requires.2 c.requires.1 c.requires.3 c.requires.4 c.take_line.ensures c.in_ok-head.was c.put_counts.ensures c.wide.ensures c.device_count-filled.ensures c.read_instrs.ensures
    c.in_err-end.was c.from_residual-in_err-end.result c.from_residual-in_err-end.ensures.1

pub returns-then-end-text : goal.returns-then-end-text
returns-then-end-text c =
    after_main c.requires.2 c.requires.1 c.requires.3 c.requires.4 c.take_line.ensures c.in_ok-head.was c.put_counts.ensures c.wide.ensures c.device_count-filled.ensures c.read_instrs.ensures
    c.in_ok-end.was c.if-end-text.true

pub returns : goal.returns
returns c =
    main_read c.requires.2 c.requires.1 c.requires.3 c.requires.4 c.take_line.ensures c.in_ok-head.was c.put_counts.ensures c.wide.ensures c.device_count-filled.ensures c.read_instrs.ensures
    c.in_ok-end.was c.if-end-text.false
