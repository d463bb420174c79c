-- The judgements test by test: what each exit of the code's judges stands on. Assumes nothing.
use Prim.Native.Nat.{ℕ, ◌≤◌, ◌<◌}
use native.Mathlib.Omega.{arith}
use mathlib.Core.Path.{◌≡◌, refl, sym, ap, ◌∙◌, subst}
use mathlib.Core.Bool.{Bool, true, false, ◌&&◌}
use lib.Dec.{T, leb, leb→le, lit≤}
use lib.ListN.{length}
use Rattle.std.proofs.lemmas.List.{length-take, get_or-take}
use Rattle.std.proofs.Math.Bool.{and-true}
use Rattle.std.specs.Prelude.{IsErrAnd}
use Rattle.std.proofs.lemmas.Result.{err_from_is_err_and}
use Rattle.std.specs.declared.result.Result.{Result}
use Rattle.std.specs.declared.result.Result.TheVariants.{Ok, Err}
use Rattle.lists.proofs.Tests.{and_left}
use Rattle.sheet_rules.specs.declared.Place.{Place}
use Rattle.sheet_rules.specs.declared.Place.TheVariants.{Types, Row, Member, Forms, Form, Keep, Init, Body, Devices, Device, Main, Instruction, Nowhere}
use Rattle.sheet_rules.specs.declared.Reason.{Reason}
use Rattle.sheet_rules.specs.Keys.{count_of, same_place, stands}
use Rattle.sheet_rules.specs.Reader.{Judged, bad, demand, nth}
use Rattle.sheet_rules.proofs.KeysLaws.{fewest_one}
use Rattle.lexer.specs.declared.numbers.Numbers.{Numbers}
use Rattle.lexer.specs.Told.{list_of, Fitting}
use Rattle.line_judges.specs.Told.{line_told, demanded}

-- a line that the lexer gave is asked for its place alone
pub stands_place : (w k : Place) (ns : Numbers) → Fitting k ns → stands w k (list_of ns) ≡ same_place k w
stands_place w k ns h = ap (λ (b : Bool). same_place k w && b) h.fit ∙ and-true (same_place k w)

-- it has as many numbers as its key asks for
pub Fitting-fewest : (k : Place) (ns : Numbers) → Fitting k ns → (count_of k).fewest ≤ ns.count
unfolding list_of
Fitting-fewest k ns h =
    let l : (count_of k).fewest ≤ length (list_of ns) = leb→le (count_of k).fewest (length (list_of ns))
    (and_left (leb (count_of k).fewest (length (list_of ns))) (leb (length (list_of ns)) (count_of k).most) (subst T (sym h.fit) tt)) in
    omega (arith, length-take ns.count ns.values)

-- the first numbers of a line
module _ (k : Place) (ns : Numbers) (h : Fitting k ns) where
  number : (i : ℕ) → i < (count_of k).fewest → nth (list_of ns) i ≡ nth ns.values i
  unfolding list_of
  number i m = get_or-take ns.count ns.values i 0 (omega (arith, Fitting-fewest k ns h))

  pub number_first : nth (list_of ns) 0 ≡ nth ns.values 0
  number_first = number 0 (omega (arith, fewest_one k))

  pub number_second : 2 ≤ (count_of k).fewest → nth (list_of ns) 1 ≡ nth ns.values 1
  number_second m = number 1 (omega arith)

  pub number_third : 3 ≤ (count_of k).fewest → nth (list_of ns) 2 ≡ nth ns.values 2
  number_third m = number 2 (omega arith)

-- the headings have two numbers

pub two_of_row : (k : Place) → T (same_place k Place.Row) → 2 ≤ (count_of k).fewest
two_of_row Types t = absurd t
two_of_row Row t = lit≤ tt
two_of_row (Member kind) t = absurd t
two_of_row Forms t = absurd t
two_of_row Form t = absurd t
two_of_row Keep t = absurd t
two_of_row Init t = absurd t
two_of_row Body t = absurd t
two_of_row Devices t = absurd t
two_of_row Device t = absurd t
two_of_row Main t = absurd t
two_of_row (Instruction operation) t = absurd t
two_of_row Nowhere t = absurd t

pub two_of_form : (k : Place) → T (same_place k Place.Form) → 2 ≤ (count_of k).fewest
two_of_form Types t = absurd t
two_of_form Row t = absurd t
two_of_form (Member kind) t = absurd t
two_of_form Forms t = absurd t
two_of_form Form t = lit≤ tt
two_of_form Keep t = absurd t
two_of_form Init t = absurd t
two_of_form Body t = absurd t
two_of_form Devices t = absurd t
two_of_form Device t = absurd t
two_of_form Main t = absurd t
two_of_form (Instruction operation) t = absurd t
two_of_form Nowhere t = absurd t

-- a demand by its test

pub demand_no : {A : Type 0} (b : Bool) (r : Reason) (x : Judged A) → b ≡ false → demand b r x ≡ bad r
unfolding demand
demand_no b r x e = ap (λ (c : Bool). demand c r x) e

pub demand_yes : {A : Type 0} (b : Bool) (r : Reason) (x : Judged A) → b ≡ true → demand b r x ≡ x
unfolding demand
demand_yes b r x e = ap (λ (c : Bool). demand c r x) e

-- the same, by the code's answer to a test: the line is refused, it goes on, or the test was the last
module _ {A : Type 0} (r : Reason) (x : Judged A) {t b : Bool} {d : Result Unit Reason} (p : t ≡ b) (q : d ≡ demanded t r) where
  asked : {f : Result Unit Reason} → d ≡ f → demanded b r ≡ f
  asked h = sym (q ∙ ap (λ (c : Bool). demanded c r) p) ∙ h

  pub demand_stops : {e : Reason} → d ≡ Err e → (f : Result Unit Reason) (z : Judged A) → IsErrAnd f (λ y. y ≡ e) → line_told f z ≡ demand b r x
  unfolding demand
  demand_stops {e} h f z g =
      let k = err_from_is_err_and f g in
      ap (λ (c : Result Unit Reason). line_told c z) (k.1 ∙ ap Err k.2) ∙ go b (asked h)
    where
      go : (c : Bool) → demanded c r ≡ Err e → bad e ≡ demand c r x
      go true h = cc
      go false h = cc

  pub demand_goes : {u : Unit {0}} → d ≡ Ok u → x ≡ demand b r x
  unfolding demand
  demand_goes {u} h = go b (asked h)
    where
      go : (c : Bool) → demanded c r ≡ Ok u → x ≡ demand c r x
      go true h = refl
      go false h = cc

  pub demand_last : line_told d x ≡ demand b r x
  unfolding demand
  demand_last = ap (λ (c : Result Unit Reason). line_told c x) (sym (asked refl)) ∙ go b
    where
      go : (c : Bool) → line_told (demanded c r) x ≡ demand c r x
      go true = refl
      go false = refl

-- what comes after a test may stand on it
pub demand_place : {A : Type 0} (b : Bool) (r : Reason) {x y : Judged A} → (T b → x ≡ y) → demand b r x ≡ demand b r y
unfolding demand
demand_place true r f = f tt
demand_place false r f = refl

-- two tests of the same reason
pub demand_both : {A : Type 0} (a b : Bool) (r : Reason) (x : Judged A) → demand (a && b) r x ≡ demand a r (demand b r x)
unfolding demand
demand_both true b r x = refl
demand_both false b r x = refl
