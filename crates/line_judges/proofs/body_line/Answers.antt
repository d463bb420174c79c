use mathlib.Core.Path.{refl, sym, ◌∙◌}
use Rattle.line_judges.proofs.JudgeLaws.{demand_stops, demand_goes, demand_last}
use Rattle.line_judges.proofs.LineLaws.{body_asks}
use Rattle.line_judges.proofs.body_line.Goals as goal

pub returns-in_err-demand : goal.returns-in_err-demand
returns-in_err-demand c =
    demand_stops _ _ c.same_place.ensures c.demand.ensures c.in_err-demand.was c.from_residual.result _ c.from_residual.ensures.1
    ∙ sym (body_asks c.args.wanted c.requires c.args.used)

pub returns-in_err-demand-2 : goal.returns-in_err-demand-2
returns-in_err-demand-2 c =
    demand_stops _ _ c.within.ensures c.demand-2.ensures c.in_err-demand-2.was
    c.from_residual-in_err-demand-2.result _ c.from_residual-in_err-demand-2.ensures.1
    ∙ demand_goes _ _ c.same_place.ensures c.demand.ensures c.in_ok-demand.was
    ∙ sym (body_asks c.args.wanted c.requires c.args.used)

pub returns : goal.returns
returns c =
    demand_last _ _ refl c.demand-3.ensures
    ∙ demand_goes _ _ c.within.ensures c.demand-2.ensures c.in_ok-demand-2.was
    ∙ demand_goes _ _ c.same_place.ensures c.demand.ensures c.in_ok-demand.was
    ∙ sym (body_asks c.args.wanted c.requires c.args.used)
