use Prim.Native.Nat.{ℕ, ◌+◌}
use native.Mathlib.Omega.{arith}
use mathlib.Core.Path.{refl, sym, ap, ◌∙◌, subst}
use mathlib.Core.List.{List}
use Rattle.fit.specs.Told.{Comparable, SelfFit, pair_filled, pairs_filled}
use Rattle.fit.proofs.FillLaws.{pairs_only, Comparable-kept, pairs_next, pairs_self}
use Rattle.fit.proofs.fill_row.Goals as goal

pub loop-k-init : goal.loop-k-init
unfolding pairs_filled
loop-k-init c = refl

pub fill_pair-requires : goal.fill_pair-requires
fill_pair-requires c = (
  omega arith,
  subst (λ (v : List ℕ). Comparable (c.args.m + 1) v) (sym c.loop-k.invariant)
      (Comparable-kept (c.args.m + 1) (c.args.m + 1) c.args.work.now (pairs_filled c.args.work.now c.args.m c.loop-k.k) (omega arith) c.requires.0 (pairs_only c.args.work.now c.args.m c.loop-k.k)),
  subst (λ (v : List ℕ). SelfFit c.args.m v) (sym c.loop-k.invariant)
      (pairs_self c.args.work.now c.args.m c.loop-k.k (omega arith) (omega arith) c.requires.1),
)

pub loop-k-preserved : goal.loop-k-preserved
loop-k-preserved c =
    c.fill_pair.ensures
    ∙ ap (λ (v : List ℕ). pair_filled v c.args.m c.loop-k.k) c.loop-k.invariant
    ∙ pairs_next c.args.work.now c.args.m c.loop-k.k
