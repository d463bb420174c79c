-- Every marked case of document 01 has the answer that the paper gives: one claim over the table, computed.
use mathlib.Core.Path.{◌≡◌, refl}
use mathlib.Core.List.{map}
use lib.ListN.{length}
use Rattle.authority_rules.specs.Cases.{marked_cases, answer}
use Rattle.authority_rules.proofs.Opened.{holding}

-- the table has a row for each of P1 to P9, and two for P10
pub eleven : length marked_cases ≡ 11
eleven = refl

pub all : map answer marked_cases ≡ map (λ c. c.wanted) marked_cases
unfolding holding
all = refl
