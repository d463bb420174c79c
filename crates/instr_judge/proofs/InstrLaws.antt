-- What an instruction line names is what the rules' instruction names. Assumes nothing.
use Prim.Native.Nat.{ℕ, ◌<◌}
use mathlib.Core.Path.{◌≡◌, refl, sym, ap, ap₂, ◌∙◌}
use mathlib.Core.Bool.{Bool, true, ◌&&◌}
use mathlib.Core.List.{List, []}
use Rattle.std.proofs.Math.Bool.{and-true}
use Rattle.std.specs.Prelude.{All, IsTrue, ◌↔◌}
use Rattle.std.proofs.lemmas.Bool.Decides.{same_from_decides, Decides-by_and, Decides-ltb}
use lib.Dec.{T, leb, ltb, lit≤}
use lib.ListN.{drop}
use Rattle.sheet_rules.specs.declared.Operation.{Operation}
use Rattle.sheet_rules.specs.declared.Operation.TheVariants.{New, Call, Get, Put, Copy}
use Rattle.sheet_rules.specs.declared.Place.{Place}
use Rattle.sheet_rules.specs.declared.Place.TheVariants.{Types, Row, Member, Forms, Form, Keep, Init, Body, Devices, Device, Main, Instruction, Nowhere}
use Rattle.sheet_rules.specs.declared.Reason.TheVariants.{Malformed, OutOfLimit, NotDefined}
use Rattle.sheet_rules.specs.Limits.{name_limit}
use Rattle.sheet_rules.specs.Keys.{same_place, operation_of}
use Rattle.sheet_rules.specs.Reader.{good, demand, nth}
use Rattle.sheet_rules.specs.FormLines.{instr_of, name_allowed, all_below, names_exist, instr_line}
use Rattle.lexer.specs.declared.numbers.Numbers.{Numbers}
use Rattle.lexer.specs.Told.{list_of, Fitting}
use Rattle.line_judges.proofs.JudgeLaws.{stands_place, number_first, number_second, number_third, demand_place}
use Rattle.instr_judge.specs.Named.{name_in, exist_in}

-- every number is below a bound, as a test
pub below_all : (n : ℕ) (xs : List ℕ) (r : Bool) → IsTrue r ↔ All (λ x. x < n) xs → r ≡ all_below n xs
unfolding all_below
below_all n xs r h =
    same_from_decides r (all_below n xs) h
    (Decides-by_and (λ x. ltb x n) (λ x. x < n) (all_below n) (λ x. Decides-ltb x n) refl (λ _ _. refl) xs)

pub none_below : (n : ℕ) (xs : List ℕ) → xs ≡ [] → true ≡ all_below n (drop 1 xs)
unfolding all_below
none_below n xs e = sym (ap (λ (ys : List ℕ). all_below n (drop 1 ys)) e)

module _ (ns : Numbers) where
  -- the name
  named : (o : Operation) → Fitting (Instruction o) ns → name_allowed (instr_of o (list_of ns)) ≡ leb (name_in o ns) 63
  unfolding name_in
  named New h = refl
  named Call h = and-true _ ∙ ap (λ (n : ℕ). leb n 63) (number_second (Instruction Call) ns h (lit≤ tt))
  named Get h = ap (λ (n : ℕ). leb n 63) (number_first (Instruction Get) ns h)
  named Put h = ap (λ (n : ℕ). leb n 63) (number_first (Instruction Put) ns h)
  named Copy h = refl

  module _ (forms filled : ℕ) where
    -- what is referred to
    referred : (o : Operation) → Fitting (Instruction o) ns → names_exist forms filled (instr_of o (list_of ns)) ≡ exist_in forms filled o ns
    unfolding exist_in all_below
    referred New h = ap (λ (n : ℕ). ltb n forms && all_below filled (drop 1 (list_of ns))) (number_first (Instruction New) ns h)
    referred Call h =
        ap (λ (x : Bool). ltb (nth (list_of ns) 0) filled && x) (and-true _)
        ∙ ap₂ (λ (a b : ℕ). ltb a filled && ltb b filled) (number_first (Instruction Call) ns h) (number_third (Instruction Call) ns h (lit≤ tt))
    referred Get h = refl
    referred Put h = and-true _ ∙ ap (λ (n : ℕ). ltb n filled) (number_second (Instruction Put) ns h (lit≤ tt))
    referred Copy h = and-true _ ∙ ap (λ (n : ℕ). ltb n filled) (number_first (Instruction Copy) ns h)

    -- what the judge asks, test by test
    pub instr_asks : (k : Place) → Fitting k ns → instr_line forms filled k (list_of ns)
        ≡ demand (same_place k (Instruction New)) Malformed
        (demand (leb (name_in (operation_of k) ns) name_limit) OutOfLimit
        (demand (exist_in forms filled (operation_of k) ns) NotDefined (good (instr_of (operation_of k) (list_of ns)))))
    unfolding instr_line
    instr_asks k h =
        rw (stands_place (Instruction New) k ns h)
        (demand_place (same_place k (Instruction New)) Malformed (λ t. at_place k h t))
      where
        at_place : (k : Place) → Fitting k ns → T (same_place k (Instruction New))
            → demand (name_allowed (instr_of (operation_of k) (list_of ns))) OutOfLimit
            (demand (names_exist forms filled (instr_of (operation_of k) (list_of ns))) NotDefined (good (instr_of (operation_of k) (list_of ns))))
            ≡ demand (leb (name_in (operation_of k) ns) name_limit) OutOfLimit
            (demand (exist_in forms filled (operation_of k) ns) NotDefined (good (instr_of (operation_of k) (list_of ns))))
        at_place (Instruction o) f t = rw (named o f, referred o f) refl
        at_place Types f t = absurd t
        at_place Row f t = absurd t
        at_place (Member kind) f t = absurd t
        at_place Forms f t = absurd t
        at_place Form f t = absurd t
        at_place Keep f t = absurd t
        at_place Init f t = absurd t
        at_place Body f t = absurd t
        at_place Devices f t = absurd t
        at_place Device f t = absurd t
        at_place Main f t = absurd t
        at_place Nowhere f t = absurd t
