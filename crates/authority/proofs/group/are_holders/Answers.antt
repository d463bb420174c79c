use Rattle.std.proofs.Common.{rules}
use Rattle.authority_rules.specs.Authority.{is_holder}
use Rattle.table.specs.View.{sheet_in}
use Rattle.machine_state.specs.Held.{objects_in}
use Rattle.authority.proofs.MemberLaws.{all_is}
use Rattle.authority.proofs.group.are_holders.Goals as goal

pub returns : goal.returns
returns c = all_is (is_holder (sheet_in c.args.work.now) (objects_in (sheet_in c.args.work.now) c.args.work.now c.args.n)) c.args.holders.now c.all.result (search rules)
