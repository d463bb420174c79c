use lib.ListN.{take}
use Rattle.authority.specs.Members.{MembersMarked}
use Rattle.authority.proofs.group.mark_members.Given as goal

abbrev pub invariant-loop-h : goal.invariant-loop-h
invariant-loop-h l = MembersMarked l.initial.work l.top l.tally (take l.h-index l.holders) l.work
