use Rattle.authority_rules.proofs.GuaranteeHolds.{guarantee}
use Rattle.authority_rules.proofs.guaranteed.Goals as goal

pub returns : goal.returns
returns c = guarantee
