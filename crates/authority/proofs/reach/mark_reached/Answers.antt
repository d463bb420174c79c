use Prim.Native.Nat.{pred, ◌-◌}
use native.Mathlib.Omega.{arith}
use mathlib.Core.Path.{◌≡◌}
use Rattle.authority.proofs.ReachLaws.{reach_below, reach_top, reach_main, reach_own, reach_object}
use Rattle.authority.proofs.reach.mark_reached.Goals as goal

pub mark_below-beneath-requires : goal.mark_below-beneath-requires
mark_below-beneath-requires c =
    let e : c.args.tally.frames - 1 ≡ pred c.args.tally.frames = omega arith in
    reach_below c.requires.0 c.args.h e

pub mark_top-requires : goal.mark_top-requires
mark_top-requires c =
    let e : c.args.tally.frames - 1 ≡ pred c.args.tally.frames = omega arith in
    reach_top c.requires.0 c.args.h e c.mark_below-beneath.ensures

pub returns-then-h-eq-MAIN_HOLDER : goal.returns-then-h-eq-MAIN_HOLDER
returns-then-h-eq-MAIN_HOLDER c =
    let e : c.args.tally.frames - 1 ≡ pred c.args.tally.frames = omega arith in
    reach_main c.requires.0 c.args.h e c.mark_below-beneath.ensures c.mark_top.ensures c.if-h-eq-MAIN_HOLDER.true

pub mark_own-requires : goal.mark_own-requires
mark_own-requires c =
    let e : c.args.tally.frames - 1 ≡ pred c.args.tally.frames = omega arith in
    reach_own c.requires.0 c.args.h e c.mark_below-beneath.ensures c.mark_top.ensures c.requires.1 c.if-h-eq-MAIN_HOLDER.false

pub returns : goal.returns
returns c =
    let e : c.args.tally.frames - 1 ≡ pred c.args.tally.frames = omega arith in
    reach_object c.requires.0 c.args.h e c.mark_below-beneath.ensures c.mark_top.ensures c.requires.1 c.if-h-eq-MAIN_HOLDER.false c.mark_own.ensures
