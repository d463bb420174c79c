-- The report has every holder, and no other number; and P's report, printed. Assumes nothing.
use Prim.Native.Nat.{ℕ}
use mathlib.Core.Path.{◌≡◌, refl, sym}
use mathlib.Core.Bool.{◌||◌}
use mathlib.Core.List.{[], ◌∷◌}
use lib.Dec.{eqb, eqb→eq}
use lib.ListN.{length}
use borrow.Author.Tests.{eq-eqb}
use Rattle.lists.proofs.Tests.{T-ext, true→T}
use Rattle.sheet_rules.specs.Sheet.{Sheet}
use Rattle.sheet_rules.specs.Samples.{text_of, with_line, P}
use Rattle.machine_rules.specs.State.{State}
use Rattle.lists.specs.Contains.{contains}
use Rattle.authority_rules.specs.Authority.{main_holder, is_resource, is_holder}
use Rattle.authority_rules.specs.Report.{holders, report}
use Rattle.authority_rules.specs.Printed.{printed}
use Rattle.lists.proofs.PassingLaws.{passing_exactly}
use Rattle.authority_rules.proofs.AuthorityLaws.{resource_below}
use Rattle.authority_rules.proofs.Opened.{holding}

-- an equality's test, the other way round
eqb_sym : (a b : ℕ) → eqb a b ≡ eqb b a
eqb_sym a b = T-ext (eqb a b) (eqb b a) (λ t. true→T (eqb b a) (eq-eqb b a (sym (eqb→eq a b t)))) (λ t. true→T (eqb a b) (eq-eqb a b (sym (eqb→eq b a t))))

-- a number is among the holders exactly when it is one
pub holders_exactly : (s : Sheet) (σ : State) (h : ℕ) → contains (holders s σ) h ≡ is_holder s σ.objects h
unfolding contains
holders_exactly s σ h =
    λ i. eqb_sym main_holder h i || passing_exactly (is_resource s σ.objects) (length σ.objects) h (resource_below s σ.objects h) i

-- P's report is printed as the paper says, and after a refusal only the first two lines (document 01, One sheet in full)
pub of_p : printed (report (text_of P) 10000) ≡ text_of ("verdict=0" ∷ "line=0" ∷ "outcome=0" ∷ "steps=8" ∷ "value=0" ∷ "holder=256" ∷ "holder=1,1" ∷ "holder=2,1,2" ∷ [])
unfolding holding
of_p = refl

pub of_refused : printed (report (text_of (with_line 20 "call=2,3,0" P)) 10000) ≡ text_of ("verdict=9" ∷ "line=20" ∷ [])
unfolding holding
of_refused = refl
