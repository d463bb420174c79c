use Rattle.authority_rules.proofs.OriginHolds.{origin}
use Rattle.authority_rules.proofs.originates.Goals as goal

pub returns : goal.returns
returns c = origin
