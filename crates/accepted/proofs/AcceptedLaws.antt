-- An accepted sheet stays one while its table is unchanged, and an accepted text's sheet is one. Assumes nothing.
use Prim.Native.Nat.{ℕ, ◌≤◌}
use native.Mathlib.Omega.{arith}
use mathlib.Core.Path.{◌≡◌, sym, subst}
use mathlib.Core.List.{List}
use lib.ListN.{length}
use Rattle.sheet_rules.specs.declared.Verdict.TheVariants.{Accepted}
use Rattle.sheet_rules.specs.Reading.{readable, meaning}
use Rattle.sheet_rules.specs.WellFormed.{WellFormed}
use Rattle.type_rules.specs.Typing.{verdict}
use Rattle.type_rules.specs.Typed.{Typed}
use Rattle.type_rules.proofs.TypedLaws.{accepted_sheet}
use Rattle.table.specs.Layout.{work_size}
use Rattle.table.specs.View.{sheet_in}
use Rattle.table.specs.Pool.{Placed}
use Rattle.table.proofs.ViewLaws.{SameTable, sheet_in_same}
use Rattle.table.proofs.PoolLaws.{Placed-same}
use Rattle.accepted.specs.Accepted.{AcceptedIn}

pub accepted_same : (w w' : List ℕ) → length w' ≡ length w → SameTable w w' → AcceptedIn w → AcceptedIn w'
accepted_same w w' l same a =
    let e : sheet_in w ≡ sheet_in w' = sym (sheet_in_same w w' same) in
    record {
      whole = record { size = omega (arith, a.whole.size); sheet = subst WellFormed e a.whole.sheet };
      typed = subst Typed e a.typed;
      placed = Placed-same w w' same a.placed;
    }

pub accepted_text : (text w : List ℕ) → work_size ≤ length w → meaning text ≡ readable (sheet_in w) → verdict text ≡ Accepted → Placed w → AcceptedIn w
accepted_text text w size read accepted placed =
    let a = accepted_sheet text (sheet_in w) read accepted in
    record { whole = record { size = size; sheet = a.0 }; typed = a.1; placed = placed }
