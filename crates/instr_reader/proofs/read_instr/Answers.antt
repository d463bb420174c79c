use Rattle.instr_reader.proofs.InstrLaws.{instr_refused, instr_kept}
use Rattle.instr_reader.proofs.read_instr.Goals as goal

pub returns-in_err-line : goal.returns-in_err-line
returns-in_err-line c = instr_refused c.args.work.now c.take_instr.ensures c.in_err-line.was c.from_residual.ensures.1

pub returns : goal.returns
returns c =
    instr_kept c.args.work.now c.take_instr.ensures c.in_ok-line.was c.requires.1 c.operation_of-operation.ensures c.wide.ensures c.store_instr.ensures
