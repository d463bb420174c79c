use Rattle.table.proofs.InstrLaws.{instr_new, instr_call, instr_get, instr_put, instr_copy}
use Rattle.table.proofs.instrs.instr_from.Goals as goal

pub returns-in-0 : goal.returns-in-0
returns-in-0 c = λ p e. instr_new c.args.work.now p c.args.at e c.in-0.is

pub returns-in-1 : goal.returns-in-1
returns-in-1 c =
    λ p e. instr_call c.args.work.now p c.args.at e c.in-1.is

pub returns-in-2 : goal.returns-in-2
returns-in-2 c = λ p e. instr_get c.args.work.now p c.args.at e c.in-2.is

pub returns-in-3 : goal.returns-in-3
returns-in-3 c = λ p e. instr_put c.args.work.now p c.args.at e c.in-3.is

pub returns-in_default : goal.returns-in_default
returns-in_default c = λ p e. instr_copy c.args.work.now p c.args.at e c.in_default.in_default-own.rest.0.0.0.1 c.in_default.in_default-own.rest.0.0.1 c.in_default.in_default-own.rest.0.1 c.in_default.in_default-own.rest.1
