-- One name for all definitions of this crate's rules, and those below, that stay shut until they are named: a case that is
-- computed from the rules names it alone. Proves nothing.
use Rattle.machine_rules.specs.State.{initial_fields, last_of}
use Rattle.machine_rules.specs.Step.{body_in, field_place, instr_step, return_step, code_step, next_step}
use Rattle.machine_rules.specs.Steps.{after, run_from, run, run_reply}
use Rattle.machine_rules.specs.Sound.{field_rows}
use Rattle.lists.specs.Tab.{tab}
use Rattle.type_rules.proofs.Opened.{judging}

unfoldable pub running : Unit {0}
unfolding tab initial_fields last_of body_in field_place instr_step return_step code_step next_step after run_from run run_reply field_rows judging
running = tt
