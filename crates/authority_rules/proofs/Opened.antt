-- One name for all definitions of this crate's rules, and those below, that stay shut until they are named: a case that is
-- computed from the rules names it alone. Proves nothing.
use Rattle.lists.specs.AnyAll.{any, all}
use Rattle.lists.specs.Contains.{contains}
use Rattle.lists.specs.Passing.{passing}
use Rattle.lists.specs.AtPlaces.{at_places}
use Rattle.sheet_rules.specs.Sheet.{code_names}
use Rattle.authority_rules.specs.Authority.{is_resource, holder_of, slots_of, reached_by, holds_by, authority}
use Rattle.authority_rules.specs.AuthorityQuestion.{authority_held}
use Rattle.authority_rules.specs.Group.{group_holds, group_authority, group_held}
use Rattle.authority_rules.specs.Report.{report}
use Rattle.sheet_rules.specs.Decimals.{decimal_up_to, decimal, further}
use Rattle.authority_rules.specs.Printed.{verdict_word, line_word, outcome_word, steps_word, value_word, holder_word, holder_lines, printed}
use Rattle.machine_rules.proofs.Opened.{running}

unfoldable pub holding : Unit {0}
unfolding is_resource holder_of code_names at_places slots_of reached_by contains holds_by passing authority authority_held any all group_holds group_authority group_held report decimal_up_to decimal further verdict_word line_word outcome_word steps_word value_word holder_word holder_lines printed running
holding = tt
