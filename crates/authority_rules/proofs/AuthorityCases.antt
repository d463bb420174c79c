-- Computed cases of authority: P's sets as the program prints them, what counts of a frame and of an object (document 02, order 6),
-- a pure receiver's frame, fields, devices, and the traps. Assumes nothing.
use mathlib.Core.Path.{◌≡◌, refl}
use mathlib.Core.List.{List, [], ◌∷◌, map}
use Rattle.sheet_rules.specs.Samples.{P, D}
use Rattle.authority_rules.specs.Cases.{Case, held_by, asked, answer}
use Rattle.authority_rules.proofs.Opened.{holding}
use Rattle.authority_rules.proofs.SmallSheets.{two, left, errand, farewell, idle, twice, gift, pantry}

abbrev cases : List Case
cases =
    -- P done: main nothing, since its value is pure; the scale itself; the clerk itself and the scale that its body names
    asked P (held_by 8 256) (0 ∷ 0 ∷ [])
    ∷ asked P (held_by 8 1) (0 ∷ 0 ∷ 1 ∷ [])
    ∷ asked P (held_by 8 2) (0 ∷ 0 ∷ 1 ∷ 2 ∷ [])
    -- before that main held the scale for the clerk's `new`, and then the clerk for its call
    ∷ asked P (held_by 2 256) (0 ∷ 0 ∷ 1 ∷ [])
    ∷ asked P (held_by 3 256) (0 ∷ 0 ∷ 2 ∷ [])
    -- no object yet, a pure one, a number over 256; main at the start holds nothing
    ∷ asked P (held_by 2 2) (11 ∷ 0 ∷ [])
    ∷ asked P (held_by 8 0) (11 ∷ 0 ∷ [])
    ∷ asked P (held_by 8 257) (11 ∷ 0 ∷ [])
    ∷ asked P (held_by 0 256) (0 ∷ 0 ∷ [])
    -- devices at the start: each itself, and main the scale, which it names; an object not yet made
    ∷ asked D (held_by 0 0) (0 ∷ 0 ∷ 0 ∷ [])
    ∷ asked D (held_by 0 1) (0 ∷ 0 ∷ 1 ∷ [])
    ∷ asked D (held_by 0 256) (0 ∷ 0 ∷ 0 ∷ [])
    ∷ asked D (held_by 0 2) (11 ∷ 0 ∷ [])
    -- done: the clerk has the scale, and nobody but the valve has the valve
    ∷ asked D (held_by 7 3) (0 ∷ 0 ∷ 0 ∷ 3 ∷ [])
    ∷ asked D (held_by 7 1) (0 ∷ 0 ∷ 1 ∷ [])
    ∷ asked D (held_by 7 256) (0 ∷ 0 ∷ [])
    -- main's last slot, once it is filled; the last one filled so far is not it
    ∷ asked two (held_by 1 256) (0 ∷ 0 ∷ [])
    ∷ asked two (held_by 2 256) (0 ∷ 0 ∷ 1 ∷ [])
    -- a slot that an instruction names, and once that is taken no longer
    ∷ asked left (held_by 2 256) (0 ∷ 0 ∷ 0 ∷ [])
    ∷ asked left (held_by 3 256) (0 ∷ 0 ∷ [])
    -- a frame that waits: what it names later counts, and the receiver of the waiting call does not
    ∷ asked errand (held_by 3 256) (0 ∷ 0 ∷ 1 ∷ 2 ∷ [])
    ∷ asked errand (held_by 4 256) (0 ∷ 0 ∷ 1 ∷ [])
    -- nor does the last slot filled so far of one that has no instruction left
    ∷ asked farewell (held_by 3 256) (0 ∷ 0 ∷ 1 ∷ [])
    ∷ asked farewell (held_by 4 256) (0 ∷ 0 ∷ [])
    -- a kept value that no body names, in the body and after it
    ∷ asked idle (held_by 4 2) (0 ∷ 0 ∷ 2 ∷ [])
    ∷ asked idle (held_by 100 2) (0 ∷ 0 ∷ 2 ∷ [])
    -- a slot that is named and not filled gives nothing
    ∷ asked twice (held_by 4 2) (0 ∷ 0 ∷ 2 ∷ [])
    -- a body's last slot, until it is returned; main leaves it, so that nobody but itself holds it
    ∷ asked gift (held_by 4 1) (0 ∷ 0 ∷ 1 ∷ 2 ∷ [])
    ∷ asked gift (held_by 5 1) (0 ∷ 0 ∷ 1 ∷ [])
    ∷ asked gift (held_by 5 256) (0 ∷ 0 ∷ [])
    ∷ asked gift (held_by 5 2) (0 ∷ 0 ∷ 2 ∷ [])
    -- in the pure maker's frame, which belongs to main, object 4 is main's
    ∷ asked pantry (held_by 6 256) (0 ∷ 0 ∷ 2 ∷ 4 ∷ [])
    -- the keeper, called with 4: it holds itself, 1 by its field and its argument 4
    ∷ asked pantry (held_by 7 2) (0 ∷ 0 ∷ 1 ∷ 2 ∷ 4 ∷ [])
    -- done: it holds 4 by its field, and 1 no longer, a kept value that `init` alone names; main holds nothing, though its keeper does
    ∷ asked pantry (held_by 100 2) (0 ∷ 0 ∷ 2 ∷ 4 ∷ [])
    ∷ asked pantry (held_by 100 256) (0 ∷ 0 ∷ [])
    ∷ asked pantry (held_by 100 4) (0 ∷ 0 ∷ 4 ∷ [])
    ∷ []

pub all : map answer cases ≡ map (λ c. c.wanted) cases
unfolding holding
all = refl
