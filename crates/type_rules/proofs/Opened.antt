-- One name for all definitions of this crate's rules, and those below, that stay shut until they are named: a case that is
-- computed from the rules names it alone. Proves nothing.
use Rattle.type_rules.specs.Fit.{has_match, members_answer, fit_up_to, fit_answer, fits}
use Rattle.type_rules.specs.FitQuestion.{fit_reply, fit_told}
use Rattle.type_rules.specs.Passed.{up_to, last_name}
use Rattle.type_rules.specs.Walk.{walk}
use Rattle.type_rules.specs.SlotRows.{method_in, field_in, slot_rows}
use Rattle.type_rules.specs.Typing.{slots_fault, has_field, code_faults, parts_faults, forms_faults, devices_faults, line_faults, first_fault, row_lines, typing, verdict}
use Rattle.sheet_rules.proofs.Opened.{reading}

unfoldable pub judging : Unit {0}
unfolding has_match members_answer fit_up_to fit_answer fits fit_reply up_to last_name fit_told walk method_in field_in slot_rows slots_fault has_field code_faults parts_faults forms_faults devices_faults line_faults first_fault row_lines typing verdict reading
judging = tt
