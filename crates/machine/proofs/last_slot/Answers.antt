use mathlib.Core.Path.{◌∙◌}
use Rattle.machine.proofs.RunLaws.{last_none, last_asks, last_slot}
use Rattle.machine.proofs.last_slot.Goals as goal

pub returns-then-top-eq0 : goal.returns-then-top-eq0
returns-then-top-eq0 c = last_none c.args.work.now c.args.top c.args.tally c.requires c.if-top-eq0.true

pub slot-requires : goal.slot-requires
slot-requires c =
    last_asks c.args.work.now c.args.top c.args.tally c.requires c.if-top-eq0.false

pub returns : goal.returns
returns c =
    c.slot.ensures ∙ last_slot c.args.work.now c.args.top c.args.tally c.requires c.if-top-eq0.false
