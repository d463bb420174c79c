use Rattle.authority.proofs.HolderLaws.{last_left, last_none, last_marked}
use Rattle.authority.proofs.mark_last.Goals as goal

pub returns-then-frame : goal.returns-then-frame
returns-then-frame c = last_left c.args.work.now c.args.f c.args.frame c.if-frame.true

pub returns-then-frame-eq0 : goal.returns-then-frame-eq0
returns-then-frame-eq0 c =
    last_none c.args.work.now c.args.f c.args.frame c.if-frame-eq0.true

pub returns : goal.returns
returns c =
    last_marked c.args.work.now c.args.f c.args.frame c.requires.1.few c.if-frame.false c.if-frame-eq0.false c.slot-last.ensures c.wide.ensures c.mark.ensures
