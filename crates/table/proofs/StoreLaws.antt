-- What three numbers stored from a place on leave. Assumes nothing.
use Prim.Native.Nat.{ℕ, ◌+◌, ◌≤◌}
use native.Mathlib.Omega.{arith}
use mathlib.Core.Path.{◌≡◌, ◌∙◌}
use mathlib.Core.List.{List}
use lib.ListN.{length, set, length-set}
use lib.Seq.{get_or-set_same, get_or-set_other}
use Rattle.table.specs.View.{cell}
use Rattle.table.specs.Only.{Only}
use Rattle.table.specs.Stores.{three_put}
use Rattle.table.proofs.ViewLaws.{Only-set, Only-trans}

module _ (w : List ℕ) (at x y z : ℕ) where
  pub three_only : Only at (at + 3) w (three_put w at x y z)
  unfolding three_put
  three_only =
      Only-trans (Only-trans (Only-set at (at + 3) w at x (omega arith) (omega arith))
      (Only-set at (at + 3) (set w at x) (at + 1) y (omega arith) (omega arith)))
      (Only-set at (at + 3) (set (set w at x) (at + 1) y) (at + 2) z (omega arith) (omega arith))

  module _ (h : at + 3 ≤ length w) where
    pub three_0 : cell (three_put w at x y z) at ≡ x
    unfolding three_put
    three_0 =
        get_or-set_other (set (set w at x) (at + 1) y) (at + 2) at z 0 (λ e. omega arith)
        ∙ get_or-set_other (set w at x) (at + 1) at y 0 (λ e. omega arith)
        ∙ get_or-set_same w at x 0 (omega arith)

    pub three_1 : cell (three_put w at x y z) (at + 1) ≡ y
    unfolding three_put
    three_1 =
        get_or-set_other (set (set w at x) (at + 1) y) (at + 2) (at + 1) z 0 (λ e. omega arith)
        ∙ get_or-set_same (set w at x) (at + 1) y 0 (omega (arith, length-set w at x))

    pub three_2 : cell (three_put w at x y z) (at + 2) ≡ z
    unfolding three_put
    three_2 =
        get_or-set_same (set (set w at x) (at + 1) y) (at + 2) z 0
        (omega (arith, length-set (set w at x) (at + 1) y, length-set w at x))
