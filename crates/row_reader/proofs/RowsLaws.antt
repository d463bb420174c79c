-- The rows of a sheet: what a turn of their loop needs. Assumes nothing.
use Prim.Native.Nat.{ℕ, ◌≤◌, ◌<◌}
use native.Mathlib.Omega.{arith}
use mathlib.Core.List.{List}
use Rattle.lists.proofs.TabLaws.{tab_ext}
use Rattle.table.specs.View.{row_in}
use Rattle.table.proofs.ViewLaws.{row_other}
use Rattle.line_reader.specs.declared.Cursor.{Cursor}
use Rattle.reader_loop.proofs.LoopLaws.{Going, Turn, read_within}
use Rattle.row_reader.specs.Reads.{RowRead, row_items}
use Rattle.std.specs.declared.result.Result.{Result}
use Rattle.sheet_rules.specs.declared.Refusal.{Refusal}

pub row_turn : {text : List ℕ} {used count : ℕ} {from : Cursor} {w₀ w : List ℕ} {i : ℕ} {here : Cursor} → Going text (row_items used) count from w₀ w i here
    → count ≤ 64 → i < count → {w' : List ℕ} {r : Result Cursor Refusal} → RowRead text i here w w' r → Turn text (row_items used) w i here w' r
row_turn {w = w} {i = i} g h l {w'} m =
    record {
      read = read_within (omega arith) (omega arith) g.pool m;
      kept = tab_ext (row_in w') (row_in w) i (λ k p. row_other w w' i k m.only (omega arith) (omega arith) (λ e. omega arith));
    }
