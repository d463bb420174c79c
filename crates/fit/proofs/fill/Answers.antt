use Prim.Native.Nat.{ℕ, ◌+◌}
use native.Mathlib.Omega.{arith}
use mathlib.Core.Path.{refl, sym, ap, ◌∙◌, subst}
use mathlib.Core.List.{List}
use Rattle.fit.specs.Told.{Comparable, SelfFit, pairs_filled, rows_filled, FitFilled}
use Rattle.fit.proofs.FillLaws.{rows_only, Comparable-kept, rows_next, rows_self, all_filled}
use Rattle.fit.proofs.fill.Goals as goal

pub loop-m-init : goal.loop-m-init
unfolding rows_filled
loop-m-init c = (omega arith, refl)

pub fill_row-requires : goal.fill_row-requires
fill_row-requires c = (
  subst (λ (v : List ℕ). Comparable (c.loop-m.m + 1) v) (sym c.loop-m.invariant.1)
      (Comparable-kept c.args.rows (c.loop-m.m + 1) c.args.work.now (rows_filled c.args.work.now c.loop-m.m) (omega arith) c.requires (rows_only c.args.work.now c.loop-m.m)),
  subst (λ (v : List ℕ). SelfFit c.loop-m.m v) (sym c.loop-m.invariant.1) (rows_self c.args.work.now c.args.rows c.requires c.loop-m.m c.loop-m.invariant.0),
)

pub loop-m-preserved : goal.loop-m-preserved
loop-m-preserved c = (
  omega arith,
  c.fill_row.ensures
      ∙ ap (λ (v : List ℕ). pairs_filled v c.loop-m.m (c.loop-m.m + 1)) c.loop-m.invariant.1
      ∙ rows_next c.args.work.now c.loop-m.m,
)

pub returns : goal.returns
returns c =
    subst (λ (v : List ℕ). FitFilled c.args.rows c.args.work.now v)
    (sym (c.loop-m.invariant.1 ∙ ap (rows_filled c.args.work.now) (omega arith)))
    (all_filled c.args.work.now c.args.rows c.requires)
