use mathlib.Core.Path.{refl, sym, ◌∙◌}
use Rattle.line_judges.proofs.JudgeLaws.{demand_stops, demand_goes, demand_last}
use Rattle.line_judges.proofs.LineLaws.{existing_asks}
use Rattle.line_judges.proofs.existing_line.Goals as goal

pub returns-in_err-demand : goal.returns-in_err-demand
returns-in_err-demand c =
    demand_stops _ _ c.same_place.ensures c.demand.ensures c.in_err-demand.was c.from_residual.result _ c.from_residual.ensures.1
    ∙ sym (existing_asks c.args.wanted c.requires c.args.there)

pub returns : goal.returns
returns c =
    demand_last _ _ refl c.demand-2.ensures
    ∙ demand_goes _ _ c.same_place.ensures c.demand.ensures c.in_ok-demand.was
    ∙ sym (existing_asks c.args.wanted c.requires c.args.there)
