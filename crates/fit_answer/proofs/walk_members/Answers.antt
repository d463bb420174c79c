use Rattle.fit_answer.proofs.WalkLaws.{met, spent, row_ended, lacking, skipped, match_asks, unmatched, matched}
use Rattle.fit_answer.proofs.walk_members.Goals as goal

pub returns-then-down-j-clause-walk : goal.returns-then-down-j-clause-walk
returns-then-down-j-clause-walk c =
    met c.numbers-work.ensures.whole c.members_at-across.ensures.0 c.members_at-down.ensures.0 c.loop.invariant c.if-down-j.true

pub returns-then-across-i-clause-walk : goal.returns-then-across-i-clause-walk
returns-then-across-i-clause-walk c =
    row_ended c.numbers-work.ensures.whole c.members_at-across.ensures.0 c.members_at-down.ensures.0 c.loop.invariant c.loop-test.true c.if-down-j.false c.member_name-name.ensures c.if-across-i.true

pub returns-then-name-given-clause-walk : goal.returns-then-name-given-clause-walk
returns-then-name-given-clause-walk c =
    lacking c.numbers-work.ensures.whole c.members_at-across.ensures.0 c.members_at-down.ensures.0 c.loop.invariant c.loop-test.true c.if-down-j.false c.member_name-name.ensures c.if-across-i.false c.member_name-given.ensures c.if-name-given.true

pub loop-preserved-then-given-name : goal.loop-preserved-then-given-name
loop-preserved-then-given-name c =
    skipped c.numbers-work.ensures.whole c.members_at-across.ensures.0 c.members_at-down.ensures.0 c.loop.invariant c.loop-test.true c.if-down-j.false c.member_name-name.ensures c.if-across-i.false c.member_name-given.ensures c.if-given-name.true

pub match_at-requires : goal.match_at-requires
match_at-requires c =
    match_asks c.numbers-work.ensures.whole c.members_at-across.ensures.0 c.members_at-down.ensures.0 c.loop.invariant c.loop-test.true c.if-down-j.false c.member_name-name.ensures c.if-across-i.false c.member_name-given.ensures c.if-given-name.false c.if-name-given.false c.numbers-work.ensures.same

pub returns-then-match_at-eq0-clause-walk : goal.returns-then-match_at-eq0-clause-walk
returns-then-match_at-eq0-clause-walk c =
    unmatched c.numbers-work.ensures.whole c.members_at-across.ensures.0 c.members_at-down.ensures.0 c.loop.invariant c.loop-test.true c.if-down-j.false c.member_name-name.ensures c.if-across-i.false c.member_name-given.ensures c.if-given-name.false c.if-name-given.false c.numbers-work.ensures.same c.match_at.ensures c.if-match_at-eq0.true

pub loop-preserved : goal.loop-preserved
loop-preserved c =
    matched c.numbers-work.ensures.whole c.members_at-across.ensures.0 c.members_at-down.ensures.0 c.loop.invariant c.loop-test.true c.if-down-j.false c.member_name-name.ensures c.if-across-i.false c.member_name-given.ensures c.if-given-name.false c.if-name-given.false c.numbers-work.ensures.same c.match_at.ensures c.if-match_at-eq0.false

pub returns-clause-walk : goal.returns-clause-walk
returns-clause-walk c =
    spent c.numbers-work.ensures.whole c.members_at-across.ensures.0 c.members_at-down.ensures.0 c.loop.invariant c.loop-test.false
