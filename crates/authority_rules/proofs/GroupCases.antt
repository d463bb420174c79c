-- Computed cases of groups: P's, two makers, and the lists that are refused. Assumes nothing.
use mathlib.Core.Path.{◌≡◌, refl}
use mathlib.Core.List.{List, [], ◌∷◌, map}
use lib.ListN.{replicate}
use Rattle.sheet_rules.specs.Samples.{with_line, P}
use Rattle.authority_rules.specs.Cases.{Case, held_together, asked, answer}
use Rattle.authority_rules.proofs.Opened.{holding}
use Rattle.authority_rules.proofs.SmallSheets.{makers}

abbrev cases : List Case
cases =
    -- both makers, before they are called: the valve by their fields, and themselves
    asked makers (held_together 4 (2 ∷ 3 ∷ [])) (0 ∷ 0 ∷ 1 ∷ 2 ∷ 3 ∷ [])
    -- done: themselves, and what each made and put in its field; main holds nothing
    ∷ asked makers (held_together 100 (2 ∷ 3 ∷ [])) (0 ∷ 0 ∷ 2 ∷ 3 ∷ 4 ∷ 5 ∷ [])
    ∷ asked makers (held_together 100 (256 ∷ [])) (0 ∷ 0 ∷ [])
    ∷ asked makers (held_together 100 (4 ∷ 256 ∷ [])) (0 ∷ 0 ∷ 4 ∷ [])
    -- another order, and one named twice
    ∷ asked makers (held_together 100 (3 ∷ 2 ∷ 3 ∷ [])) (0 ∷ 0 ∷ 2 ∷ 3 ∷ 4 ∷ 5 ∷ [])
    -- an empty list; of a sheet that is refused, the refusal
    ∷ asked P (held_together 8 []) (0 ∷ 0 ∷ [])
    ∷ asked (with_line 20 "call=2,3,0" P) (held_together 8 []) (9 ∷ 20 ∷ [])
    -- 16 are allowed, 17 are not, repeats included; a refusal of the sheet comes first
    ∷ asked P (held_together 8 (replicate 16 1)) (0 ∷ 0 ∷ 1 ∷ [])
    ∷ asked P (held_together 8 (replicate 17 1)) (11 ∷ 0 ∷ [])
    ∷ asked (with_line 20 "call=2,3,0" P) (held_together 8 (replicate 17 1)) (9 ∷ 20 ∷ [])
    -- a pure member, one that is not made, a number over 256
    ∷ asked P (held_together 8 (1 ∷ 0 ∷ [])) (11 ∷ 0 ∷ [])
    ∷ asked P (held_together 8 (256 ∷ 3 ∷ [])) (11 ∷ 0 ∷ [])
    ∷ asked P (held_together 8 (1 ∷ 257 ∷ 2 ∷ [])) (11 ∷ 0 ∷ [])
    -- members are looked for after the run: object 2 is made by the third step
    ∷ asked P (held_together 2 (1 ∷ 2 ∷ [])) (11 ∷ 0 ∷ [])
    ∷ asked P (held_together 3 (1 ∷ 2 ∷ [])) (0 ∷ 0 ∷ 1 ∷ 2 ∷ [])
    ∷ []

pub all : map answer cases ≡ map (λ c. c.wanted) cases
unfolding holding
all = refl
