-- The members of a row: what a turn of their loop needs. Assumes nothing.
use Prim.Native.Nat.{ℕ, ◌+◌, ◌<◌}
use native.Mathlib.Omega.{arith}
use mathlib.Core.Path.{◌≡◌, ap₂, ◌∙◌, subst}
use mathlib.Core.List.{List}
use lib.ListN.{length}
use Rattle.lists.proofs.TabLaws.{tab_ext}
use Rattle.sheet_rules.specs.Sheet.{Row}
use Rattle.sheet_rules.specs.Reader.{one}
use Rattle.sheet_rules.specs.RowLines.{Heading, kind_of, member_line}
use Rattle.table.specs.Layout.{row_address}
use Rattle.table.specs.View.{members_in, row_in, rows_in}
use Rattle.table.proofs.ViewLaws.{Only-widen, row_other}
use Rattle.line_reader.specs.declared.Cursor.{Cursor}
use Rattle.line_reader.specs.Told.{read_from, Advanced}
use Rattle.reader_loop.proofs.LoopLaws.{Going, Turn}
use Rattle.row_reader.specs.Reads.{heading_in, Headed, InRow, MemberRead, member_items}
use Rattle.row_reader.proofs.KeepLaws.{members_before}
use Rattle.std.specs.declared.result.Result.{Result}
use Rattle.sheet_rules.specs.declared.Refusal.{Refusal}

module _ {text : List ℕ} {i count used : ℕ} {from : Cursor} {w₀ w : List ℕ} {j : ℕ} {here : Cursor} (h : Headed w₀ i count)
    (g : Going text (member_items w₀ i used) count from w₀ w j here) where
  rows_same : rows_in w i ≡ rows_in w₀ i
  rows_same =
      tab_ext (row_in w) (row_in w₀) i
      (λ k l. row_other w₀ w i k (Only-widen (omega arith) (omega arith) g.only) h.row (omega (arith, h.row)) (λ e. omega arith))

  heading_same : heading_in w i ≡ heading_in w₀ i
  heading_same =
      λ x. record { kind = kind_of (g.only.below (row_address i) (omega arith) x); count = g.only.below (row_address i + 1) (omega arith) x }

  pub going_in : j < count → InRow w i j count
  going_in l =
      record {
        row = h.row;
        member = l;
        few = h.few;
        counted = g.only.below (row_address i + 1) (omega arith) ∙ h.counted;
        size = omega (arith, g.only.size, h.size);
      }

  pub member_turn : j < count → {w' : List ℕ} {r : Result Cursor Refusal} → MemberRead text i j here w w' r → Turn text (member_items w₀ i used) w j here w' r
  member_turn l {w'} {r} m =
      record {
        read =
            record {
              told =
                  m.told
                  ∙ ap₂ (λ (rs : List Row) (hd : Heading). read_from text here (one (member_line (length rs) rs hd (members_in w i j)))) rows_same heading_same;
              only = Only-widen (omega arith) (omega arith) m.only;
              advanced = subst (λ (u : ℕ). Advanced text here u r) g.pool m.advanced;
            };
        kept = members_before w w' i j m.only (omega (arith, h.few));
      }
