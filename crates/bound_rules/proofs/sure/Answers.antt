use Rattle.bound_rules.proofs.SureHolds.{sure}
use Rattle.bound_rules.proofs.sure.Goals as goal

pub returns : goal.returns
returns c = sure
