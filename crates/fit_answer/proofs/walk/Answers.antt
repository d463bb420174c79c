use Rattle.std.proofs.Common.{rules}
use mathlib.Core.Path.{◌≡◌}
use mathlib.Core.Option.{some}
use Rattle.fit_answer.specs.Told.{rows_walk}
use Rattle.fit_answer.proofs.SheetLaws.{walk_says}
use Rattle.fit_answer.proofs.walk.Goals as goal

pub returns-in_default-clause-says : goal.returns-in_default-clause-says
returns-in_default-clause-says c =
    let e : some c.walk_members.result ≡ rows_walk c.args.sheet.now c.args.a c.args.b = search rules in
    walk_says c.walk_members.ensures.whole c.args.a c.args.b e
