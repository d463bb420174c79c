use native.Mathlib.Omega.{arith}
use Rattle.fit.proofs.MatchLaws.{few_members, small_mentions}
use Rattle.fit.proofs.TurnLaws.{begun, both_ended, first_ended, second_ended, first_lower, second_lower, one_name, spent}
use Rattle.fit.proofs.walk.Goals as goal

pub alike-from-requires : goal.alike-from-requires
alike-from-requires c = (c.requires.0, c.requires.1, few_members c.args.work.now c.args.m c.requires.2, few_members c.args.work.now c.args.k c.requires.3, c.requires.4)

pub loop-left-init : goal.loop-left-init
loop-left-init c =
    (omega arith, omega arith, begun c.requires.2 c.requires.3 c.requires.5 c.alike-from.ensures.alike)

pub returns-then-down-j : goal.returns-then-down-j
returns-then-down-j c = both_ended c.requires.2 c.requires.3 c.member_count-across.ensures c.member_count-down.ensures c.loop-left.invariant.2 c.if-across-i.true c.if-down-j.true

pub returns-then-across-i : goal.returns-then-across-i
returns-then-across-i c = first_ended c.requires.2 c.requires.3 c.member_count-across.ensures c.member_count-down.ensures c.loop-left.invariant.2 c.if-across-i.true c.if-down-j.false

pub returns-then-down-j-2 : goal.returns-then-down-j-2
returns-then-down-j-2 c = second_ended c.requires.2 c.requires.3 c.member_count-across.ensures c.member_count-down.ensures c.loop-left.invariant.2 c.if-across-i.false c.if-down-j-2.true

pub member_name-x-requires : goal.member_name-x-requires
member_name-x-requires c =
    (c.requires.0, (let e = few_members c.args.work.now c.args.m c.requires.2 in omega arith), c.requires.4)

pub member_name-y-requires : goal.member_name-y-requires
member_name-y-requires c =
    (c.requires.1, (let e = few_members c.args.work.now c.args.k c.requires.3 in omega arith), c.requires.4)

pub loop-left-preserved-then-x-y : goal.loop-left-preserved-then-x-y
loop-left-preserved-then-x-y c = (
  omega arith,
  c.loop-left.invariant.1,
  first_lower c.requires.2 c.requires.3 c.member_count-across.ensures c.member_count-down.ensures c.loop-left.invariant.2 c.if-across-i.false c.if-down-j-2.false (omega arith),
)

pub loop-left-preserved-then-y-x : goal.loop-left-preserved-then-y-x
loop-left-preserved-then-y-x c = (
  c.loop-left.invariant.0,
  (omega arith),
  second_lower c.requires.2 c.requires.3 c.member_count-across.ensures c.member_count-down.ensures c.loop-left.invariant.2 c.if-across-i.false c.if-down-j-2.false (omega arith),
)

pub match_at-left-requires : goal.match_at-left-requires
match_at-left-requires c =
    let d = few_members c.args.work.now c.args.m c.requires.2 in
    let e = few_members c.args.work.now c.args.k c.requires.3 in
    record {
      size = c.requires.4;
      first = (c.requires.0, omega arith, small_mentions c.args.work.now c.args.m c.requires.2 c.loop-left.i c.requires.0 (omega arith));
      second = (c.requires.1, omega arith, small_mentions c.args.work.now c.args.k c.requires.3 c.loop-left.j c.requires.1 (omega arith));
      named = omega arith;
    }

pub loop-left-preserved : goal.loop-left-preserved
loop-left-preserved c =
    (omega arith, omega arith, one_name c.requires.2 c.requires.3 c.member_count-across.ensures c.member_count-down.ensures c.loop-left.invariant.2 c.if-across-i.false c.if-down-j-2.false (omega arith) c.match_at-left.ensures)

pub returns : goal.returns
returns c =
    spent c.loop-left.invariant.2 c.loop-left-test.false
