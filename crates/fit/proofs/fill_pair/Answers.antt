use Rattle.fit.proofs.MatchLaws.{pair_said, pair_turned}
use Rattle.fit.proofs.FillLaws.{pair_stored}
use Rattle.fit.proofs.fill_pair.Goals as goal

pub returns : goal.returns
returns c =
    pair_stored c.args.work.now c.put.new.work c.put-2.new.work c.args.m c.args.k
    c.fit_place.result c.fit_place-2.result c.walk-said.result c.turn.result
    (pair_said c.kinds_fit-kinds.ensures c.walk-said.ensures)
    (pair_turned c.kinds_fit-kinds.ensures c.walk-said.ensures c.turn.ensures)
    c.fit_place.ensures c.put.ensures c.fit_place-2.ensures c.put-2.ensures
