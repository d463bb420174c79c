use Rattle.authority.proofs.MemberLaws.{members_start, member_asks, member_marked}
use Rattle.authority.proofs.group.mark_members.Goals as goal

pub loop-h-init : goal.loop-h-init
loop-h-init c = members_start c.requires.0 c.args.holders.now

pub mark_reached-requires : goal.mark_reached-requires
mark_reached-requires c =
    member_asks c.requires.0 c.args.holders.now c.loop-h.h-index c.loop-h.invariant c.loop-h-test.true c.wide.ensures c.requires.1

pub loop-h-preserved : goal.loop-h-preserved
loop-h-preserved c =
    member_marked c.requires.0 c.args.holders.now c.loop-h.h-index c.loop-h.invariant c.loop-h-test.true c.wide.ensures c.mark_reached.ensures
