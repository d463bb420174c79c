use mathlib.Core.Path.{sym, ap, ◌∙◌}
use lib.Dec.{leb}
use Rattle.sheet_rules.specs.declared.Operation.{Operation}
use Rattle.sheet_rules.specs.Limits.{name_limit}
use Rattle.line_judges.proofs.JudgeLaws.{demand_stops, demand_goes, demand_last}
use Rattle.instr_judge.specs.Named.{name_in, exist_in}
use Rattle.instr_judge.proofs.InstrLaws.{instr_asks}
use Rattle.instr_judge.proofs.instr_line.Goals as goal

pub returns-in_err-demand : goal.returns-in_err-demand
returns-in_err-demand c =
    demand_stops _ _ c.same_place.ensures c.demand.ensures c.in_err-demand.was c.from_residual.result _ c.from_residual.ensures.1
    ∙ sym (instr_asks c.args.numbers c.args.forms c.args.filled c.args.place c.requires)

pub returns-in_err-demand-2 : goal.returns-in_err-demand-2
returns-in_err-demand-2 c =
    demand_stops _ _ (c.name_allowed.ensures ∙ ap (λ (o : Operation). leb (name_in o c.args.numbers) name_limit) c.operation_of-operation.ensures)
    c.demand-2.ensures c.in_err-demand-2.was c.from_residual-in_err-demand-2.result _ c.from_residual-in_err-demand-2.ensures.1
    ∙ demand_goes _ _ c.same_place.ensures c.demand.ensures c.in_ok-demand.was
    ∙ sym (instr_asks c.args.numbers c.args.forms c.args.filled c.args.place c.requires)

pub returns : goal.returns
returns c =
    demand_last _ _ (c.names_exist.ensures ∙ ap (λ (o : Operation). exist_in c.args.forms c.args.filled o c.args.numbers) c.operation_of-operation.ensures)
    c.demand-3.ensures
    ∙ demand_goes _ _ (c.name_allowed.ensures ∙ ap (λ (o : Operation). leb (name_in o c.args.numbers) name_limit) c.operation_of-operation.ensures)
    c.demand-2.ensures c.in_ok-demand-2.was
    ∙ demand_goes _ _ c.same_place.ensures c.demand.ensures c.in_ok-demand.was
    ∙ sym (instr_asks c.args.numbers c.args.forms c.args.filled c.args.place c.requires)
