-- The parts of a form: a law for each turn of their loop. Assumes nothing.
use Prim.Native.Nat.{ℕ, suc, ◌+◌, ◌≤◌, ◌<◌}
use native.Mathlib.Omega.{arith}
use native.Mathlib.Decide.{dec_le}
use native.Mathlib.Numerals.{add-one}
use mathlib.Core.Path.{◌≡◌, sym, ap, ap₂, ◌∙◌, subst}
use mathlib.Core.List.{List}
use lib.ListN.{length, get_or}
use Rattle.lists.specs.Tab.{tab}
use Rattle.lists.proofs.TabLaws.{tab-suc, tab_ext, length-tab}
use Rattle.sheet_rules.specs.declared.Member.{Member}
use Rattle.sheet_rules.specs.Sheet.{Part, no_member, size_of_part, size_of_parts}
use Rattle.sheet_rules.specs.Reader.{Reader}
use Rattle.sheet_rules.specs.FormLines.{read_part}
use Rattle.sheet_rules.proofs.SizeLaws.{parts_snoc}
use Rattle.table.specs.Layout.{part_address}
use Rattle.table.specs.View.{member_in, row_in, part_in, parts_in}
use Rattle.table.specs.Pool.{OnlyFrom, part_end, PartsEnd}
use Rattle.table.proofs.ViewLaws.{member_same, Only-widen}
use Rattle.table.proofs.RowLaws.{members-get_or}
use Rattle.table.proofs.PoolLaws.{from_refl, from_trans, end_kept, part_kept}
use Rattle.line_reader.specs.declared.Cursor.{Cursor}
use Rattle.line_reader.specs.Told.{Room, read_from, Advanced}
use Rattle.reader_loop.proofs.LoopLaws.{Moved-on, Going, Turn, Going-start, Going-next, going_stop, going_end}
use Rattle.part_reader.specs.Reads.{PartRead}
use Rattle.form_reader.specs.Reads.{PartsReady, part_item, part_items, PartsRead}
use Rattle.std.specs.declared.result.Result.{Result}
use Rattle.std.specs.declared.result.Result.TheVariants.{Ok, Err}
use Rattle.sheet_rules.specs.declared.Refusal.{Refusal}
use Rattle.line_reader.proofs.ExitLaws.{Passes, none_passed, same_answer}

-- where the loop stands
pub record PartsGoing (text : List ℕ) (f count : ℕ) (item : List Part → Reader Part) (from : Cursor) (w₀ w : List ℕ) (j : ℕ) (here : Cursor) : Type 0 where
  pub ends : PartsEnd w f j here.used
  pub pool : OnlyFrom (part_address f 0) from.used w₀ w
  pub going : Going text (part_items item f from.used) count from w₀ w j here

pub parts_start : {text : List ℕ} {f count : ℕ} {item : List Part → Reader Part} {from : Cursor} {w : List ℕ} → Room text from → PartsGoing text f count item from w w 0 from
unfolding tab size_of_parts
parts_start {f = f} {from = from} {w = w} room =
    record {
      ends = λ k h. absurd (omega arith);
      pool = from_refl (part_address f 0) from.used w;
      going = Going-start room (omega arith);
    }

-- a turn, by what the reader of a part gave
module _ {text : List ℕ} {f row count : ℕ} (forms : ℕ) {keeps : ℕ} {from : Cursor} {w₀ w : List ℕ} {j : ℕ} {here : Cursor} (ready : PartsReady w₀ f row count keeps)
    (g : PartsGoing text f count (part_item (row_in w₀ row).members forms keeps from.used) from w₀ w j here) (l : j < count)
    {m : Member} (e : m ≡ member_in w row j) {w' : List ℕ} {r : Result Cursor Refusal} (read : PartRead text f j (read_part forms keeps here.used m) here w w' r) where
  member_asked : m ≡ get_or (row_in w₀ row).members (length (parts_in w f j)) no_member
  member_asked =
      e
      ∙ member_same w₀ w row j (λ k lo hi. g.pool.below k (omega arith))
      ∙ sym (members-get_or w₀ row j (omega (arith, ready.counted)))
      ∙ ap (λ (k : ℕ). get_or (row_in w₀ row).members k no_member) (sym (length-tab (part_in w f) j))

  parts_before : parts_in w' f j ≡ parts_in w f j
  parts_before =
      tab_ext (part_in w' f) (part_in w f) j
      (λ k h. part_kept (part_address f j) here.used w w' read.pool g.going.room.pool f k (omega (arith, ready.few)) (g.ends k h))

  parts_used : here.used + size_of_part (part_in w' f j) ≡ from.used + size_of_parts (parts_in w' f (j + 1))
  parts_used =
      let a : size_of_parts (parts_in w' f (j + 1)) ≡ size_of_parts (parts_in w f j) + size_of_part (part_in w' f j) =
      ap (λ (k : ℕ). size_of_parts (parts_in w' f k)) (add-one j) ∙ ap size_of_parts (tab-suc (part_in w' f) j)
      ∙ parts_snoc (parts_in w' f j) (part_in w' f j) ∙ ap (λ (ps : List Part). size_of_parts ps + size_of_part (part_in w' f j)) parts_before in
      omega (arith, g.going.pool, a)

  turn : Turn text (part_items (part_item (row_in w₀ row).members forms keeps from.used) f from.used) w j here w' r
  turn =
      record {
        read =
            record {
              told = read.read.told ∙ ap₂ (λ (u : ℕ) (x : Member). read_from text here (read_part forms keeps u x)) g.going.pool member_asked;
              only = Only-widen (omega arith) (omega arith) read.read.only;
              advanced = subst (λ (u : ℕ). Advanced text here u r) parts_used read.read.advanced;
            };
        kept = parts_before;
      }

  pool' : OnlyFrom (part_address f 0) from.used w₀ w'
  pool' = from_trans {lo' = part_address f j} {p' = here.used} (omega arith) (omega (arith, g.going.pool)) g.pool read.pool

  pub parts_stop : {q : Refusal} → r ≡ Err q → {s : Result Cursor Refusal} → Passes s q → PartsRead text f count (part_item (row_in w₀ row).members forms keeps from.used) from w₀ w' s
  parts_stop c h = record { read = going_stop g.going l c turn h; pool = pool'; ends = λ to d. none_passed _ h d }

  pub parts_next : {to : Cursor} → r ≡ Ok to → PartsGoing text f count (part_item (row_in w₀ row).members forms keeps from.used) from w₀ w' (j + 1) to
  parts_next {to} c = record { ends = ends'; pool = pool'; going = Going-next g.going l c turn }
    where
      ends' : PartsEnd w' f (j + 1) to.used
      ends' k h = go (dec_le (suc k) j)
        where
          go : Dec (suc k ≤ j) → part_end w' f k ≤ to.used
          go (yes x) =
              let a = end_kept (part_address f j) here.used w w' read.pool g.going.room.pool f k (omega (arith, ready.few)) in
              let b = g.ends k x in
              let d = (Moved-on c read.read.advanced).pool in
              omega arith
          go (no x) =
              let i : j ≡ k = omega arith in
              subst (λ (i : ℕ). part_end w' f i ≤ to.used) i (read.ends to c)

pub parts_end : {text : List ℕ} {f count : ℕ} {item : List Part → Reader Part} {from : Cursor} {w₀ w : List ℕ} {j : ℕ} {here : Cursor} → PartsGoing text f count item from w₀ w j here
    → count ≤ j → PartsRead text f count item from w₀ w (Ok here)
parts_end {f = f} {count = count} {w = w} {j = j} {here = here} g l =
    record {
      read = going_end g.going l;
      pool = g.pool;
      ends = λ to d k h. subst (λ (c : Cursor). part_end w f k ≤ c.used) (same_answer d) (g.ends k (omega (arith, g.going.within)));
    }
