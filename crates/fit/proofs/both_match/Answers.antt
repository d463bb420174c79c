use Rattle.fit.proofs.MatchLaws.{methods_both}
use Rattle.fit.proofs.both_match.Goals as goal

pub returns-in-Method-Method : goal.returns-in-Method-Method
returns-in-Method-Method c =
    methods_both c.args.work.now c.args.x c.args.y c.requires.2 _ _ _ _ _ _ c.cell_of.result c.cell_of-in-Method-Method.result c.in-Method-Method.is-0 c.in-Method-Method.is-1 c.cell_of.ensures c.cell_of-in-Method-Method.ensures
