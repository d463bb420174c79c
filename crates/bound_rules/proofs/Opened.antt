-- One name for all definitions of this crate's rules, and those below, that stay shut until they are named: a case that is
-- computed from the rules names it alone. Proves nothing.
use mathlib.Core.List.{flatten}
use Rattle.sheet_rules.specs.Decimals.{decimal_up_to, decimal, further}
use Rattle.sheet_rules.specs.Print.{rows_written, parts_written, forms_written, devices_written, line_bytes, print}
use Rattle.bound_rules.specs.Strict.{strictness}
use Rattle.bound_rules.specs.Amount.{code_amount, largest_in, amounts_below, amounts, main_amount}
use Rattle.bound_rules.specs.BoundQuestion.{bound_reply}
use Rattle.machine_rules.proofs.Opened.{running}

unfoldable pub bounding : Unit {0}
unfolding strictness code_amount largest_in amounts_below amounts main_amount bound_reply flatten decimal_up_to decimal further rows_written parts_written forms_written devices_written line_bytes print running
bounding = tt
