-- Looking up the first member that answers: a law for each turn of the loop, and the two look-ups. Assumes nothing.
use Prim.Native.Nat.{ℕ, suc, ◌+◌, ◌<◌}
use native.Mathlib.Numerals.{add-one}
use mathlib.Core.Path.{◌≡◌, refl, sym, ap, subst, ◌∙◌}
use mathlib.Core.Bool.{Bool, true, false, cond}
use mathlib.Core.List.{List, [], ◌∷◌}
use mathlib.Core.Option.{Option, none, some}
use lib.Dec.{eqb}
use lib.ListN.{length, get_or, drop}
use lib.Seq.{drop-cons}
use Rattle.lists.proofs.Tests.{clash}
use Rattle.sheet_rules.specs.declared.Member.{Member}
use Rattle.sheet_rules.specs.declared.Member.TheVariants.{Method, Field}
use Rattle.sheet_rules.specs.Sheet.{no_member}
use Rattle.type_rules.specs.SlotRows.{Signature, method_in, field_in}
use Rattle.std.specs.declared.option.Option.{Option as Maybe}
use Rattle.std.specs.declared.option.Option.TheVariants.{Some, None}
use Rattle.instr_typing.specs.Found.{FirstOf, at_end, passed, found}

-- a look-up: by the first member that answers
pub record Finds {A : Type 0} (find : List Member → Option A) : Type 0 where
  pub empty : find [] ≡ none
  pub miss : (m : Member) (ms : List Member) → find (m ∷ []) ≡ none → find (m ∷ ms) ≡ find ms
  pub hit : (m : Member) (ms : List Member) (q : A) → find (m ∷ []) ≡ some q → find (m ∷ ms) ≡ some q

-- a look-up finds what the first member that answers says, if each is asked by the look-up among itself alone
pub first_finds : {A B : Type 0} {find : List Member → Option B} {says : Member → Maybe A → Type 0} {ms : List Member} {r : Maybe A}
    → FirstOf says ms r → Finds find → (view : Maybe A → Option B) → ((m : Member) (r : Maybe A) → says m r → view r ≡ find (m ∷ []))
    → view None ≡ none → ((x : A) → (q : B) × (view (Some x) ≡ some q)) → view r ≡ find ms
first_finds at_end f view asks nothing some_of = nothing ∙ sym f.empty
first_finds (passed {m} {ms} {r} s rest) f view asks nothing some_of =
    first_finds rest f view asks nothing some_of ∙ sym (f.miss m ms (sym (asks m None s) ∙ nothing))
first_finds (found {m} {ms} {x} s) f view asks nothing some_of =
    let q = some_of x in q.1 ∙ sym (f.hit m ms q.0 (sym (asks m (Some x) s) ∙ q.1))

-- some members from the j-th on, which is m
module _ {A : Type 0} (says : Member → Maybe A → Type 0) (ms : List Member) {j : ℕ} (l : j < length ms) {m : Member} (is : m ≡ get_or ms j no_member) where
  opened : m ∷ drop (suc j) ms ≡ drop j ms
  opened = ap (λ (x : Member). x ∷ drop (suc j) ms) is ∙ sym (drop-cons ms j no_member l)

  pub first_found : {x : A} → says m (Some x) → FirstOf says (drop j ms) (Some x)
  first_found {x} s = subst (λ xs. FirstOf says xs (Some x)) opened (found s)

  pub first_passed : {r : Maybe A} → says m None → FirstOf says (drop (j + 1) ms) r → FirstOf says (drop j ms) r
  first_passed {r} s rest = subst (λ xs. FirstOf says xs r) opened (passed s (subst (λ k. FirstOf says (drop k ms) r) (add-one j) rest))

-- methods

pub method_finds : (n : ℕ) → Finds (λ ms. method_in ms n)
unfolding method_in
method_finds n = record { empty = refl; miss = miss; hit = hit }
  where
    sig : ℕ → ℕ → Signature
    sig a r = record { argument = a; result = r }

    pick : (b : Bool) (a r : ℕ) (rest : Option Signature) → cond b (some (sig a r)) none ≡ none → cond b (some (sig a r)) rest ≡ rest
    pick true a r rest e = clash (cc)
    pick false a r rest e = refl

    take : (b : Bool) (a r : ℕ) (rest : Option Signature) (q : Signature) → cond b (some (sig a r)) none ≡ some q → cond b (some (sig a r)) rest ≡ some q
    take true a r rest q e = e
    take false a r rest q e = clash (cc)

    miss : (m : Member) (ms : List Member) → method_in (m ∷ []) n ≡ none → method_in (m ∷ ms) n ≡ method_in ms n
    miss (Method x a r) ms e = pick (eqb x n) a r (method_in ms n) e
    miss (Field x r) ms e = refl

    hit : (m : Member) (ms : List Member) (q : Signature) → method_in (m ∷ []) n ≡ some q → method_in (m ∷ ms) n ≡ some q
    hit (Method x a r) ms q e = take (eqb x n) a r (method_in ms n) q e
    hit (Field x r) ms q e = clash (cc)

pub field_finds : (n : ℕ) → Finds (λ ms. field_in ms n)
unfolding field_in
field_finds n = record { empty = refl; miss = miss; hit = hit }
  where
    pick : (b : Bool) (r : ℕ) (rest : Option ℕ) → cond b (some r) none ≡ none → cond b (some r) rest ≡ rest
    pick true r rest e = clash (cc)
    pick false r rest e = refl

    take : (b : Bool) (r : ℕ) (rest : Option ℕ) (q : ℕ) → cond b (some r) none ≡ some q → cond b (some r) rest ≡ some q
    take true r rest q e = e
    take false r rest q e = clash (cc)

    miss : (m : Member) (ms : List Member) → field_in (m ∷ []) n ≡ none → field_in (m ∷ ms) n ≡ field_in ms n
    miss (Field x r) ms e = pick (eqb x n) r (field_in ms n) e
    miss (Method x a r) ms e = refl

    hit : (m : Member) (ms : List Member) (q : ℕ) → field_in (m ∷ []) n ≡ some q → field_in (m ∷ ms) n ≡ some q
    hit (Field x r) ms q e = take (eqb x n) r (field_in ms n) q e
    hit (Method x a r) ms q e = clash (cc)
