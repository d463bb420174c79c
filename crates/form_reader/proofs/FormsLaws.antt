-- The forms of a sheet: a law for each turn of their loop. Assumes nothing.
use Prim.Native.Nat.{ℕ, suc, ◌+◌, ◌≤◌, ◌<◌}
use native.Mathlib.Omega.{arith}
use native.Mathlib.Decide.{dec_le}
use native.Mathlib.Numerals.{add-one}
use mathlib.Core.Path.{◌≡◌, refl, ap, ap₂, ◌∙◌, subst}
use mathlib.Core.List.{List}
use Rattle.lists.specs.Tab.{tab}
use Rattle.lists.proofs.TabLaws.{tab-suc, tab_ext}
use Rattle.sheet_rules.specs.Sheet.{Row, Form, size_of_parts, size_of_forms}
use Rattle.sheet_rules.specs.FormLines.{read_form}
use Rattle.sheet_rules.proofs.SizeLaws.{forms_snoc}
use Rattle.table.specs.Layout.{form_address, table_end}
use Rattle.table.specs.View.{row_in, rows_in, form_in, forms_in}
use Rattle.table.specs.Pool.{OnlyFrom, FormEnds}
use Rattle.table.specs.Ready.{Ready}
use Rattle.table.proofs.ViewLaws.{Only-widen}
use Rattle.table.proofs.RowLaws.{Ready-kept}
use Rattle.table.proofs.PoolLaws.{from_refl, from_trans, from→only, row_kept, form_kept, FormEnds-kept}
use Rattle.line_reader.specs.declared.Cursor.{Cursor}
use Rattle.line_reader.specs.Told.{Room, read_from, Advanced}
use Rattle.reader_loop.proofs.LoopLaws.{Moved-on, Going, Turn, Going-start, Going-next, going_stop, going_end}
use Rattle.form_reader.specs.Reads.{FormRead, parts_rest, form_rest, form_reader, form_items, FormsRead}
use Rattle.std.specs.declared.result.Result.{Result}
use Rattle.std.specs.declared.result.Result.TheVariants.{Ok, Err}
use Rattle.sheet_rules.specs.declared.Refusal.{Refusal}
use Rattle.line_reader.proofs.ExitLaws.{Passes, none_passed, same_answer}

-- the rule's reader of a form depends on the earlier ones by their instructions alone
reader_by : (rows : List Row) (forms : ℕ) (earlier : List Form) (text : List ℕ) (c : Cursor) → read_from text c (form_reader rows forms (size_of_forms earlier)) ≡ read_from text c (read_form rows forms earlier)
unfolding form_reader form_rest parts_rest read_form
reader_by rows forms earlier text c = refl

-- where the loop stands
pub record FormsGoing (text : List ℕ) (rows count : ℕ) (from : Cursor) (w₀ w : List ℕ) (f : ℕ) (here : Cursor) : Type 0 where
  pub ends : (g : ℕ) → g < f → FormEnds w g here.used
  pub pool : OnlyFrom (form_address 0) 0 w₀ w
  pub going : Going text (form_items (rows_in w₀ rows) count) count from w₀ w f here

pub forms_start : {text : List ℕ} {rows count : ℕ} {from : Cursor} {w : List ℕ} → Room text from → from.used ≡ 0 → FormsGoing text rows count from w w 0 from
unfolding tab size_of_forms
forms_start {w = w} room none =
    record {
      ends = λ g h. absurd (omega arith);
      pool = from_refl (form_address 0) 0 w;
      going = Going-start room none;
    }

module _ {text : List ℕ} {rows count : ℕ} {from : Cursor} {w₀ w : List ℕ} {f : ℕ} {here : Cursor} (g : FormsGoing text rows count from w₀ w f here) where
  rows_same : rows_in w rows ≡ rows_in w₀ rows
  rows_same = tab_ext (row_in w) (row_in w₀) rows (λ i h. row_kept (form_address 0) 0 w₀ w g.pool (omega arith) (omega arith) i)

  pub forms_ready : Ready rows w₀ → Ready rows w
  forms_ready r = Ready-kept rows (form_address 0) table_end w₀ w (omega arith) (from→only (form_address 0) 0 g.pool) r

  -- a turn, by what the reader of a form gave
  module _ (small : count ≤ 64) (l : f < count) {w' : List ℕ} {r : Result Cursor Refusal} (read : FormRead text f (form_reader (rows_in w rows) count here.used) here w w' r) where
    forms_before : forms_in w' f ≡ forms_in w f
    forms_before = tab_ext (form_in w') (form_in w) f (λ k h. form_kept (form_address f) here.used w w' read.pool g.going.room.pool k (omega arith) (g.ends k h))

    forms_used : here.used + size_of_parts (form_in w' f).parts ≡ size_of_forms (forms_in w' (f + 1))
    forms_used =
        let a : size_of_forms (forms_in w' (f + 1)) ≡ size_of_forms (forms_in w f) + size_of_parts (form_in w' f).parts =
        ap (λ (k : ℕ). size_of_forms (forms_in w' k)) (add-one f) ∙ ap size_of_forms (tab-suc (form_in w') f)
        ∙ forms_snoc (forms_in w' f) (form_in w' f) ∙ ap (λ (fs : List Form). size_of_forms fs + size_of_parts (form_in w' f).parts) forms_before in
        omega (arith, g.going.pool, a)

    turn : Turn text (form_items (rows_in w₀ rows) count) w f here w' r
    turn =
        record {
          read =
              record {
                told =
                    read.read.told
                    ∙ ap₂ (λ (rs : List Row) (u : ℕ). read_from text here (form_reader rs count u)) rows_same g.going.pool
                    ∙ reader_by (rows_in w₀ rows) count (forms_in w f) text here;
                only = Only-widen (omega arith) (omega arith) read.read.only;
                advanced = subst (λ (u : ℕ). Advanced text here u r) forms_used read.read.advanced;
              };
          kept = forms_before;
        }

    pub forms_stop : {q : Refusal} → r ≡ Err q → {s : Result Cursor Refusal} → Passes s q → FormsRead text rows count from w₀ w' s
    forms_stop c h = record { read = going_stop g.going l c turn h; ends = λ to d. none_passed _ h d }

    pub forms_next : {to : Cursor} → r ≡ Ok to → FormsGoing text rows count from w₀ w' (f + 1) to
    forms_next {to} c =
        record {
          ends = ends';
          pool = from_trans {lo' = form_address f} {p' = here.used} (omega arith) (omega arith) g.pool read.pool;
          going = Going-next g.going l c turn;
        }
      where
        grows : here.used ≤ to.used
        grows = let d = (Moved-on c read.read.advanced).pool in omega arith

        ends' : (k : ℕ) → k < f + 1 → FormEnds w' k to.used
        ends' k h = go (dec_le (suc k) f)
          where
            go : Dec (suc k ≤ f) → FormEnds w' k to.used
            go (yes x) = FormEnds-kept (form_address f) here.used w w' read.pool g.going.room.pool k to.used grows (omega arith) (g.ends k x)
            go (no x) = let e : f ≡ k = omega arith in subst (λ (i : ℕ). FormEnds w' i to.used) e (read.ends to c)

  pub forms_end : count ≤ f → FormsRead text rows count from w₀ w (Ok here)
  forms_end l =
      record {
        read = going_end g.going l;
        ends = λ to d k h. subst (λ (c : Cursor). FormEnds w k c.used) (same_answer d) (g.ends k (omega (arith, g.going.within)));
      }
