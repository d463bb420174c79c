use Rattle.authority.proofs.HolderLaws.{top_own}
use Rattle.authority.proofs.mark_top.Goals as goal

pub returns-then-holder-h : goal.returns-then-holder-h
returns-then-holder-h c =
    top_own c.mark_frame-holder.ensures c.if-holder-h.true c.mark_last.ensures
