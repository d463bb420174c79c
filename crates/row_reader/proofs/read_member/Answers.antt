use Rattle.reader_loop.proofs.ThenLaws.{past}
use Rattle.row_reader.proofs.MemberLaws.{member_refused, member_shaped, member_kept}
use Rattle.row_reader.proofs.read_member.Goals as goal

pub returns-in_err-member : goal.returns-in_err-member
returns-in_err-member c =
    member_refused c.args.at.i c.args.at.j c.args.work.now c.lowest_name-lowest.ensures c.take_line.ensures c.in_err-member.was c.from_residual.ensures.1

pub keep_member-requires : goal.keep_member-requires
keep_member-requires c =
    (c.requires.1, member_shaped c.args.at.i c.args.at.j c.args.work.now c.lowest_name-lowest.ensures c.take_line.ensures c.in_ok-member.was, (past c.in_ok-member.was c.take_line.ensures.onward).follows)

pub returns : goal.returns
returns c =
    member_kept c.args.at.i c.args.at.j c.args.work.now c.lowest_name-lowest.ensures c.take_line.ensures c.in_ok-member.was c.keep_member.ensures
