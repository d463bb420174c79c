use mathlib.Core.Path.{refl, sym, ◌∙◌}
use Rattle.line_judges.proofs.JudgeLaws.{demand_stops, demand_goes, demand_last}
use Rattle.line_judges.proofs.LineLaws.{row_asks}
use Rattle.line_judges.proofs.row_line.Goals as goal

pub returns-in_err-demand-clause-told : goal.returns-in_err-demand-clause-told
returns-in_err-demand-clause-told c =
    λ earlier.
    demand_stops _ _ c.same_place.ensures c.demand.ensures c.in_err-demand.was c.from_residual.result _ c.from_residual.ensures.1
    ∙ sym (row_asks c.requires earlier)

pub returns-in_err-demand-2-clause-told : goal.returns-in_err-demand-2-clause-told
returns-in_err-demand-2-clause-told c =
    λ earlier.
    demand_stops _ _ refl c.demand-2.ensures c.in_err-demand-2.was
    c.from_residual-in_err-demand-2.result _ c.from_residual-in_err-demand-2.ensures.1
    ∙ demand_goes _ _ c.same_place.ensures c.demand.ensures c.in_ok-demand.was
    ∙ sym (row_asks c.requires earlier)

pub returns-clause-told : goal.returns-clause-told
returns-clause-told c =
    λ earlier. demand_last _ _ refl c.demand-3.ensures
    ∙ demand_goes _ _ refl c.demand-2.ensures c.in_ok-demand-2.was
    ∙ demand_goes _ _ c.same_place.ensures c.demand.ensures c.in_ok-demand.was
    ∙ sym (row_asks c.requires earlier)
