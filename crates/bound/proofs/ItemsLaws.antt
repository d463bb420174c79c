-- A walk over the lines of some items, one item after another: a law for each turn of its loop, whatever the items are. Assumes nothing.
use Prim.Native.Nat.{ℕ, suc, ◌+◌, ◌*◌, ◌≤◌}
use native.Mathlib.Omega.{arith}
use native.Mathlib.Nat.{mul-suc}
use native.Mathlib.Numerals.{add-one}
use mathlib.Core.Path.{◌≡◌, sym, ap, ◌∙◌}
use mathlib.Core.List.{List, [], ◌++◌}
use lib.ListN.{length}
use Rattle.type_rules.specs.Typing.{Fault}
use Rattle.std.specs.declared.result.Result.{Result}
use Rattle.std.specs.declared.result.Result.TheVariants.{Ok, Err}
use Rattle.sheet_rules.specs.declared.Refusal.{Refusal}
use Rattle.code_typing.specs.Walk.{walk, walk_on}
use Rattle.code_typing.proofs.WalkLaws.{walk_none, walk-append, walk-length}

-- where the loop stands, `from j` being the lines from item j on: the walk from here is the walk from the first line, and each item had
-- at most `most` lines
pub record ItemsGoing (from : ℕ → List Fault) (most first j line : ℕ) : Type 0 where
  pub lined : line ≤ first + most * j
  pub same : walk line (from j) ≡ walk first (from 0)

pub items_start : {from : ℕ → List Fault} {most first line : ℕ} → line ≡ first → ItemsGoing from most first 0 line
items_start {from} e = record { lined = omega arith; same = ap (λ (n : ℕ). walk n (from 0)) e }

module _ {from : ℕ → List Fault} {most first j line : ℕ} (g : ItemsGoing from most first j line) where
  -- no item is left
  pub items_end : from j ≡ [] → Ok line ≡ walk first (from 0)
  items_end e = sym (walk_none line) ∙ sym (ap (walk line) e) ∙ g.same

  abbrev onward : Result ℕ Refusal → Result ℕ Refusal
  onward x = walk_on x (λ n. walk n (from (suc j)))

  -- item j has these lines, and more follow
  module _ (lines : List Fault) (next : from j ≡ lines ++ from (suc j)) {r : Result ℕ Refusal} (told : r ≡ walk line lines) where
    step : onward r ≡ walk first (from 0)
    step = ap onward told ∙ sym (walk-append line lines (from (suc j))) ∙ sym (ap (walk line) next) ∙ g.same

    pub items_stop : {q : Refusal} → r ≡ Err q → Err q ≡ walk first (from 0)
    items_stop e = ap onward (sym e) ∙ step

    pub items_next : length lines ≤ most → {n : ℕ} → r ≡ Ok n → ItemsGoing from most first (j + 1) n
    items_next few {n} e =
        record {
          lined =
              (let a = walk-length line lines n (sym told ∙ e) in
              let b = g.lined in
              let c : most * (j + 1) ≡ most * j + most = ap (λ (k : ℕ). most * k) (add-one j) ∙ mul-suc most j in
              omega arith);
          same = ap (λ (i : ℕ). walk n (from i)) (add-one j) ∙ ap onward (sym e) ∙ step;
        }
