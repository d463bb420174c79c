use mathlib.Core.Path.{refl}
use Rattle.table.specs.Told.{new_slots}
use Rattle.machine.proofs.MoveLaws.{new_stopped}
use Rattle.machine.proofs.try_new.Goals as goal

pub returns-then-tally-ge-PLACES : goal.returns-then-tally-ge-PLACES
returns-then-tally-ge-PLACES c = (new_stopped c.args.work.now c.args.top c.args.tally c.args.form (new_slots c.args.work.now c.args.top.next) c.requires.0 c.if-tally-ge-PLACES.true, refl)
