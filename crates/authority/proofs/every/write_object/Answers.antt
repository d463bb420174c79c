use mathlib.Core.Path.{ap}
use mathlib.Core.Bool.{not}
use borrow.Author.Tests.{not-true}
use Rattle.authority.proofs.ReachLaws.{run_stored}
use Rattle.authority.proofs.EveryLaws.{object_passed}
use Rattle.authority.proofs.every.write_object.Goals as goal

pub is_resource-requires : goal.is_resource-requires
is_resource-requires c = run_stored c.args.work.now c.args.top c.args.tally c.requires.0.running

pub returns-then-not-is_resource : goal.returns-then-not-is_resource
returns-then-not-is_resource c =
    object_passed c.args.work.now c.args.top c.args.tally c.args.b c.is_resource.result c.is_resource.ensures (not-true c.is_resource.result (ap not c.if-not-is_resource.true)) c.args.at c.args.res.now
