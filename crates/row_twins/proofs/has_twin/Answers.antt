use mathlib.Core.Path.{◌≡◌, sym, ◌∙◌, subst}
use mathlib.Core.Bool.{false}
use native.Mathlib.Omega.{arith}
use native.Mathlib.Numerals.{add-one}
use Prim.Native.Nat.{ℕ}
use Rattle.sheet_rules.specs.RowLines.{twin}
use Rattle.table.specs.View.{row_in, rows_in}
use Rattle.row_twins.proofs.TwinLaws.{twin_none, twin_next, twin_found}
use Rattle.row_twins.proofs.has_twin.Goals as goal

pub loop-k-init : goal.loop-k-init
loop-k-init c = (omega arith, twin_none (row_in c.args.work.now) (row_in c.args.work.now c.args.i))

pub same_row-requires : goal.same_row-requires
same_row-requires c = (omega arith, c.requires.0, c.requires.1, c.requires.2)

pub returns-then-same_row : goal.returns-then-same_row
returns-then-same_row c =
    sym (twin_found (row_in c.args.work.now) (row_in c.args.work.now c.args.i) c.loop-k.k c.args.i c.loop-k-test.true (sym c.same_row.ensures ∙ c.if-same_row.true))

pub loop-k-preserved : goal.loop-k-preserved
loop-k-preserved c =
    (omega arith, rw add-one (twin_next (row_in c.args.work.now) (row_in c.args.work.now c.args.i) c.loop-k.k c.loop-k.invariant.1 (sym c.same_row.ensures ∙ c.if-same_row.false)))

pub returns : goal.returns
returns c = sym (subst (λ (n : ℕ). twin (rows_in c.args.work.now n) (row_in c.args.work.now c.args.i) ≡ false) (omega arith) c.loop-k.invariant.1)
