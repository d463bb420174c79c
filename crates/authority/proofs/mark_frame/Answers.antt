use Rattle.authority.proofs.HolderLaws.{frame_other, frame_asks, frame_own}
use Rattle.authority.proofs.mark_frame.Goals as goal

pub returns-then-holder-h : goal.returns-then-holder-h
returns-then-holder-h c =
    frame_other c.requires.0 c.args.f c.args.frame c.args.beneath c.args.h c.frame_holder-holder.ensures c.if-holder-h.true

pub mark_noted-requires : goal.mark_noted-requires
mark_noted-requires c =
    frame_asks c.requires.0 c.args.f c.args.frame c.args.beneath c.args.h c.frame_holder-holder.ensures c.requires.1 c.requires.2 c.note_code.ensures c.slot_at.ensures

pub returns : goal.returns
returns c =
    frame_own c.requires.0 c.args.f c.args.frame c.args.beneath c.args.h c.frame_holder-holder.ensures c.requires.1 c.requires.2 c.note_code.ensures c.slot_at.ensures c.if-holder-h.false c.mark_noted.ensures
