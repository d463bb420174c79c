-- What a cleared buffer is, number by number. Assumes nothing.
use Prim.Native.Nat.{ℕ, ◌+◌, ◌-◌, ◌≤◌, ◌<◌}
use native.Mathlib.Omega.{arith}
use mathlib.Core.Path.{◌≡◌, sym, ap, ◌∙◌}
use mathlib.Core.List.{List, ◌++◌}
use lib.ListN.{length, drop, replicate, length-append, length-drop, length-replicate, get_or-replicate, get_or-append}
use lib.Seq.{get_or-append-add, get_or-drop}
use Rattle.table.specs.Layout.{work_size}
use Rattle.table.specs.View.{cell}
use Rattle.table.specs.Only.{Only}
use Rattle.question.specs.Cleared.{cleared}

abbrev zeros : List ℕ
zeros = replicate work_size 0

zeros_length : length zeros ≡ work_size
zeros_length = length-replicate {A = ℕ} work_size 0

pub cleared-length : (w : List ℕ) → work_size ≤ length w → length (cleared w) ≡ length w
unfolding cleared
cleared-length w h =
    let b : length (drop work_size w) ≡ length w - work_size = length-drop work_size w in
    length-append zeros (drop work_size w) ∙ omega (arith, zeros_length, b, h)

pub cleared-zero : (w : List ℕ) (i : ℕ) → i < work_size → cell (cleared w) i ≡ 0
unfolding cleared
cleared-zero w i h =
    get_or-append zeros (drop work_size w) 0 i (omega (arith, zeros_length, h)) ∙ get_or-replicate {A = ℕ} work_size i 0 0 h

pub cleared_kept : (w : List ℕ) (i : ℕ) → work_size ≤ i → cell (cleared w) i ≡ cell w i
unfolding cleared
cleared_kept w i h =
    let b : i ≡ length zeros + (i - work_size) = omega (arith, zeros_length, h) in
    let c : work_size + (i - work_size) ≡ i = omega (arith, h) in
    ap (cell (zeros ++ drop work_size w)) b
    ∙ get_or-append-add zeros (drop work_size w) (i - work_size) 0
    ∙ get_or-drop work_size w (i - work_size) 0 ∙ ap (cell w) c

pub cleared-Only : (w : List ℕ) → work_size ≤ length w → Only 0 work_size w (cleared w)
cleared-Only w h =
    record { size = cleared-length w h; below = λ i k. absurd (omega arith); above = λ i k. cleared_kept w i k }
