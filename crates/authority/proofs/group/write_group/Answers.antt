use Rattle.authority.proofs.MemberLaws.{cleared_asks, written_stored, group_written}
use Rattle.authority.proofs.group.write_group.Goals as goal

pub mark_members-requires : goal.mark_members-requires
mark_members-requires c =
    cleared_asks c.requires.0 c.clear_marks.ensures c.args.holders.now c.requires.1

pub write_reached-requires : goal.write_reached-requires
write_reached-requires c =
    (written_stored c.requires.0 c.clear_marks.ensures c.mark_members.ensures, c.requires.2)

pub returns : goal.returns
returns c =
    group_written c.requires.0 c.clear_marks.ensures c.mark_members.ensures c.write_reached.ensures
