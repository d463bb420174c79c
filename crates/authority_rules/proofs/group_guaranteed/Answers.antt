use Rattle.authority_rules.proofs.GroupGuaranteeHolds.{group_guarantee}
use Rattle.authority_rules.proofs.group_guaranteed.Goals as goal

pub returns : goal.returns
returns c = group_guarantee
