-- A body's instructions: what a turn of their loop needs, and which instructions a change leaves as they were. Assumes nothing.
use Prim.Native.Nat.{ℕ, suc, ◌+◌, ◌≤◌, ◌<◌}
use native.Mathlib.Omega.{arith}
use native.Mathlib.Decide.{dec_le}
use mathlib.Core.Path.{◌≡◌, sym, ap, ◌∙◌, subst}
use mathlib.Core.List.{List}
use Rattle.lists.proofs.TabLaws.{tab_ext, length-tab}
use Rattle.sheet_rules.specs.Reader.{one}
use Rattle.sheet_rules.specs.FormLines.{instr_line, read_instrs}
use Rattle.table.specs.Layout.{instr_address}
use Rattle.table.specs.View.{cell, instr_in, instrs_in}
use Rattle.table.specs.Only.{Only}
use Rattle.table.proofs.ViewLaws.{SameFrom, Only-widen, instr_same}
use Rattle.line_reader.specs.declared.Cursor.{Cursor}
use Rattle.line_reader.specs.Told.{read_from, read_told, Advanced}
use Rattle.reader_loop.specs.Items.{ItemsRead}
use Rattle.reader_loop.proofs.LoopLaws.{Going, Turn}
use Rattle.instr_reader.specs.Reads.{InstrRead, instr_items, InstrsRead}
use Rattle.std.specs.declared.result.Result.{Result}
use Rattle.sheet_rules.specs.declared.Refusal.{Refusal}

-- a buffer that is changed in one instruction alone has the others as they were
pub instr_other : (w w' : List ℕ) (p q : ℕ) → Only (instr_address p) (instr_address p + 11) w w' → p < 1024 → q < 1024 → (q ≡ p → ⊥) → instr_in w' q ≡ instr_in w q
instr_other w w' p q o hp hq d = instr_same w w' q each
  where
    each : SameFrom (instr_address q) 11 w w'
    each k l u = go (dec_le (suc q) p)
      where
        go : Dec (suc q ≤ p) → cell w' k ≡ cell w k
        go (yes r) = o.below k (omega arith)
        go (no r) = let s : p < q = omega arith in o.above k (omega arith)

pub instrs_before : (w w' : List ℕ) (start j : ℕ) → Only (instr_address (start + j)) (instr_address (start + j) + 11) w w' → start + j < 1024
    → instrs_in w' start j ≡ instrs_in w start j
instrs_before w w' start j o h =
    tab_ext (λ k. instr_in w' (start + k)) (λ k. instr_in w (start + k)) j
    (λ k u. instr_other w w' (start + j) (start + k) o h (omega arith) (λ e. omega arith))

pub instr_turn : (forms filled : ℕ) {text : List ℕ} {count : ℕ} {from : Cursor} {w₀ w : List ℕ} {j slots : ℕ} {here : Cursor} → Going text (instr_items forms filled from.used count) count from w₀ w j here
    → from.used + count ≤ 1024 → j < count → slots ≡ filled + j → {w' : List ℕ} {r : Result Cursor Refusal} → InstrRead text forms slots here w w' r
    → Turn text (instr_items forms filled from.used count) w j here w' r
instr_turn forms filled {text = text} {from = from} {w = w} {j = j} {here = here} g fits l counted {w'} {r} m =
    let start : ℕ = from.used in
    let next : here.used ≡ start + j = g.pool in
    record {
      read =
          record {
            told =
                ap (λ (p : ℕ). read_told text r (instr_in w' p)) (sym next) ∙ m.told
                ∙ ap (λ (s : ℕ). read_from text here (one (instr_line forms s)))
                (counted ∙ ap (λ (k : ℕ). filled + k) (sym (length-tab (λ k. instr_in w (start + k)) j)));
            only = Only-widen (omega (arith, next)) (omega (arith, next)) m.only;
            advanced = subst (λ (u : ℕ). Advanced text here u r) (omega (arith, next)) m.advanced;
          };
      kept = instrs_before w w' start j (subst (λ (p : ℕ). Only (instr_address p) (instr_address p + 11) w w') next m.only) (omega arith);
    }

-- the rule's reader of a body is that of many such items
pub instrs_read : (forms filled count : ℕ) {text : List ℕ} {from : Cursor} {w₀ w : List ℕ} {r : Result Cursor Refusal} → ItemsRead text (instr_items forms filled from.used count) count from w₀ w r
    → InstrsRead text count forms filled from w₀ w r
unfolding read_instrs
instrs_read forms filled count m = record { told = m.told; only = m.only; advanced = m.advanced }
