-- Reading a whole sheet: rows, then forms, then devices and main; a law for each exit. Assumes nothing.
use Prim.Native.Nat.{ℕ, ◌≤◌, ◌<◌}
use native.Mathlib.Omega.{arith}
use mathlib.Core.Path.{◌≡◌, refl, sym, ap, ◌∙◌, subst}
use mathlib.Core.Bool.{Bool, true, cond}
use mathlib.Core.List.{List, []}
use lib.Dec.{leb}
use lib.ListN.{length, drop}
use borrow.Author.Tests.{le-leb, lt-leb}
use Rattle.lists.proofs.TabLaws.{tab_ext}
use Rattle.lists.proofs.Tests.{clash}
use Rattle.sheet_rules.specs.declared.Place.{Place}
use Rattle.sheet_rules.specs.declared.Reason.TheVariants.{BufferTooShort, TextTooLong}
use Rattle.sheet_rules.specs.declared.Verdict.{Verdict}
use Rattle.sheet_rules.specs.Limits.{text_limit}
use Rattle.sheet_rules.specs.Lines.{Line, lines_of}
use Rattle.sheet_rules.specs.Sheet.{Row}
use Rattle.sheet_rules.specs.Reader.{one, many, count_line, and_then}
use Rattle.sheet_rules.specs.RowLines.{read_row}
use Rattle.sheet_rules.specs.FormLines.{read_form}
use Rattle.sheet_rules.specs.WellFormed.{WellFormed}
use Rattle.sheet_rules.specs.Reading.{unreadable, read_sheet, conclude, meaning}
use Rattle.sheet_rules.proofs.ReaderLaws.{Gives, its_got, Gives-one, count_line_within}
use Rattle.sheet_rules.proofs.RowLinesLaws.{WellFormedRows, read_rows_well_formed}
use Rattle.sheet_rules.proofs.ReadingLaws.{readable-WellFormed}
use Rattle.table.specs.Layout.{form_address, table_end, work_size}
use Rattle.table.specs.View.{row_in, rows_in, forms_in, sheet_in}
use Rattle.table.specs.Only.{Only}
use Rattle.table.specs.Ready.{Ready}
use Rattle.table.proofs.ViewLaws.{Only-refl, Only-trans, Only-widen, row_same}
use Rattle.table.proofs.RowLaws.{rows_ready, Ready-kept}
use Rattle.line_reader.specs.declared.Cursor.{Cursor}
use Rattle.line_reader.specs.declared.TakenLine.{TakenLine}
use Rattle.line_reader.specs.Told.{Room, read_from, got_at, number, LineTold, read_told}
use Rattle.reader_loop.proofs.LoopLaws.{Moved-on}
use Rattle.reader_loop.proofs.ThenLaws.{past, line_then, line_stop, line_gives, Moved-then, moved_stop}
use Rattle.row_reader.specs.Reads.{RowsRead}
use Rattle.form_reader.specs.Reads.{FormsUsed, FormsRead}
use Rattle.reader.specs.Reads.{text_start, verdict_means, end_rest, instrs_rest, main_rest, devices_rest, forms_rest, rows_rest, RestRead, SheetRead}
use Rattle.reader.proofs.MainLaws.{not_accepted, refused_by, rest_refused}
use Rattle.std.specs.declared.result.Result.{Result}
use Rattle.std.specs.declared.result.Result.TheVariants.{Ok, Err}
use Rattle.sheet_rules.specs.declared.Refusal.{Refusal}
use Rattle.sheet_rules.specs.Answers.{verdict_from}
use Rattle.line_reader.proofs.ExitLaws.{Passes}
use Rattle.sheet_rules.specs.Reader.{nth}

-- FORMS, THEN DEVICES AND MAIN

module _ {text : List ℕ} {rows : ℕ} {from : Cursor} {w : List ℕ} (ready : Ready rows w) {b : ℕ} {p : Result TakenLine Refusal} (told : LineTold Place.Forms b text from p) where
  pub forms_line_refused : {q : Refusal} → p ≡ Err q → (s : Result Unit Refusal) → Passes s q → RestRead text (rows_rest (rows_in w rows)) from w w (verdict_from s)
  unfolding rows_rest
  forms_line_refused e s h = rest_refused (refused_by s h) (line_stop text number (forms_rest (rows_in w rows)) told.told e) (Only-refl 0 table_end w)

  module _ {head : TakenLine} (e : p ≡ Ok head) where
    pub forms_few : nth head.numbers.values 0 ≤ 64
    forms_few =
        (line_gives text number told.told e (λ k. (0 ≤ k) × (k ≤ 64))
        (Gives-one (λ k. (0 ≤ k) × (k ≤ 64)) (count_line Place.Forms 0 64) (count_line_within Place.Forms 0 64) (lines_of (drop from.at text)) from.line)).1

    told_forms : read_from text from (rows_rest (rows_in w rows)) ≡ and_then (read_from text head.next (many (nth head.numbers.values 0) (read_form (rows_in w rows) (nth head.numbers.values 0)) [])) (devices_rest (rows_in w rows) (nth head.numbers.values 0))
    unfolding rows_rest forms_rest
    told_forms = line_then text number (forms_rest (rows_in w rows)) told.told e

    module _ {w₁ : List ℕ} {r : Result Cursor Refusal} (m : FormsRead text rows (nth head.numbers.values 0) head.next w w₁ r) where
      forms_only : Only 0 table_end w w₁
      forms_only = Only-widen (omega arith) (omega arith) m.read.only

      pub forms_refused : {q : Refusal} → r ≡ Err q → (s : Result Unit Refusal) → Passes s q → RestRead text (rows_rest (rows_in w rows)) from w w₁ (verdict_from s)
      forms_refused c s h =
          rest_refused (refused_by s h) (told_forms ∙ moved_stop text (devices_rest (rows_in w rows) (nth head.numbers.values 0)) (forms_in w₁ (nth head.numbers.values 0)) m.read.told c) forms_only

      pub forms_ready : Ready rows w₁
      forms_ready = Ready-kept rows (form_address 0) table_end w w₁ (omega arith) m.read.only ready

      rows_same : rows_in w₁ rows ≡ rows_in w rows
      rows_same = tab_ext (row_in w₁) (row_in w) rows (λ i h. row_same w w₁ i (λ k l u. m.read.only.below k (omega arith)))

      module _ {to : Cursor} (moved : r ≡ Ok to) where
        pub forms_used : FormsUsed w₁ (nth head.numbers.values 0) to.used
        forms_used = record { counted = (Moved-on moved m.read.advanced).pool; ends = m.ends to moved }

        pub forms_after : {w' : List ℕ} {v : Verdict} → RestRead text (devices_rest (rows_in w₁ rows) (nth head.numbers.values 0) (forms_in w₁ (nth head.numbers.values 0))) to w₁ w' v → RestRead text (rows_rest (rows_in w rows)) from w w' v
        forms_after k =
            record {
              told =
                  k.told
                  ∙ ap (λ (rs : List Row). conclude (read_from text to (devices_rest rs (nth head.numbers.values 0) (forms_in w₁ (nth head.numbers.values 0))))) rows_same
                  ∙ sym (ap conclude (told_forms ∙ Moved-then text (devices_rest (rows_in w rows) (nth head.numbers.values 0)) (forms_in w₁ (nth head.numbers.values 0)) m.read.told moved));
              only = Only-trans forms_only k.only;
              placed = k.placed;
            }

-- A WHOLE SHEET

sheet_rest : (ls : List Line) (n : ℕ)
    → read_sheet ls n ≡ and_then (one (count_line Place.Types 1 64) ls n) (λ t ls n. and_then (many t read_row [] ls n) rows_rest)
unfolding read_sheet rows_rest forms_rest devices_rest main_rest instrs_rest end_rest
sheet_rest ls n = refl

module _ {text : List ℕ} (w : List ℕ) (size : work_size ≤ length w) {b : ℕ} {p : Result TakenLine Refusal} (told : LineTold Place.Types b text text_start p) where
  pub types_refused : {q : Refusal} → p ≡ Err q → (s : Result Unit Refusal) → Passes s q → RestRead text read_sheet text_start w w (verdict_from s)
  types_refused e s h =
      rest_refused (refused_by s h)
      (sheet_rest (lines_of (drop 0 text)) 1 ∙ line_stop text number (λ t ls n. and_then (many t read_row [] ls n) rows_rest) told.told e) (Only-refl 0 table_end w)

  module _ {head : TakenLine} (e : p ≡ Ok head) where
    pub types_few : nth head.numbers.values 0 ≤ 64
    types_few =
        (line_gives text number told.told e (λ k. (1 ≤ k) × (k ≤ 64))
        (Gives-one (λ k. (1 ≤ k) × (k ≤ 64)) (count_line Place.Types 1 64) (count_line_within Place.Types 1 64) (lines_of (drop 0 text)) 1)).1

    told_rows : read_from text text_start read_sheet ≡ and_then (read_from text head.next (many (nth head.numbers.values 0) read_row [])) rows_rest
    told_rows = sheet_rest (lines_of (drop 0 text)) 1 ∙ line_then text number (λ t ls n. and_then (many t read_row [] ls n) rows_rest) told.told e

    module _ {count : ℕ} (count-is : count ≡ nth head.numbers.values 0) {w₁ : List ℕ} {r : Result Cursor Refusal} (m₁ : RowsRead text count head.next w w₁ r) where
      m : RowsRead text (nth head.numbers.values 0) head.next w w₁ r
      m = subst (λ (k : ℕ). RowsRead text k head.next w w₁ r) count-is m₁

      rows_only : Only 0 table_end w w₁
      rows_only = Only-widen (omega arith) (omega arith) m.only

      pub rows_refused : {q : Refusal} → r ≡ Err q → (s : Result Unit Refusal) → Passes s q → RestRead text read_sheet text_start w w₁ (verdict_from s)
      rows_refused c s h = rest_refused (refused_by s h) (told_rows ∙ moved_stop text rows_rest (rows_in w₁ (nth head.numbers.values 0)) m.told c) rows_only

      module _ {to : Cursor} (moved : r ≡ Ok to) where
        pub rows_moved : Room text to × (to.used ≡ 0)
        rows_moved = let x = Moved-on moved m.advanced in (x.room, x.pool ∙ (past e told.onward).pool)

        well_formed : WellFormedRows (rows_in w₁ (nth head.numbers.values 0))
        well_formed =
            go (rows_in w₁ (nth head.numbers.values 0))
            (subst (Gives (λ rows. WellFormedRows rows × (length rows ≡ nth head.numbers.values 0))) (sym (ap (λ (x : Result Cursor Refusal). read_told text x (rows_in w₁ (nth head.numbers.values 0))) (sym moved) ∙ m.told))
            (read_rows_well_formed (nth head.numbers.values 0) (lines_of (drop head.next.at text)) head.next.line))
          where
            go : (rows : List Row) → Gives (λ rows. WellFormedRows rows × (length rows ≡ nth head.numbers.values 0)) (got_at text to rows) → WellFormedRows rows
            go rows (its_got x) = x.0

        pub rows_then_ready : Ready (nth head.numbers.values 0) w₁
        rows_then_ready = rows_ready (nth head.numbers.values 0) w₁ (omega (arith, m.only.size)) types_few well_formed

        pub rows_forms : {w' : List ℕ} {v : Verdict} → RestRead text (rows_rest (rows_in w₁ (nth head.numbers.values 0))) to w₁ w' v → RestRead text read_sheet text_start w w' v
        rows_forms k =
            record {
              told = k.told ∙ sym (ap conclude (told_rows ∙ Moved-then text rows_rest (rows_in w₁ (nth head.numbers.values 0)) m.told moved));
              only = Only-trans rows_only k.only;
              placed = k.placed;
            }

-- THE PROMISE

module _ (text w : List ℕ) where
  pub sheet_short : length w < work_size → SheetRead text w w (Verdict.Refused BufferTooShort 0)
  sheet_short h =
      record {
        told = sym (ap (λ (b : Bool). cond b (meaning text) (unreadable BufferTooShort 0)) (lt-leb work_size (length w) h));
        only = Only-refl 0 table_end w;
        short = λ e. refl;
        placed = not_accepted refl;
      }

  module _ (h : work_size ≤ length w) where
    whole : leb work_size (length w) ≡ true
    whole = le-leb work_size (length w) h

    pub sheet_long : 65535 < length text → SheetRead text w w (Verdict.Refused TextTooLong 0)
    unfolding meaning
    sheet_long l =
        record {
          told =
              sym (ap (λ (b : Bool). cond b (conclude (read_sheet (lines_of text) 1)) (unreadable TextTooLong 0)) (lt-leb (length text) text_limit l))
              ∙ sym (ap (λ (b : Bool). cond b (meaning text) (unreadable BufferTooShort 0)) whole);
          only = Only-refl 0 table_end w;
          short = λ e. refl;
          placed = not_accepted refl;
        }

    pub sheet_read : length text ≤ 65535 → {w' : List ℕ} {v : Verdict} → RestRead text read_sheet text_start w w' v → SheetRead text w w' v
    unfolding meaning
    sheet_read l k =
        record {
          told =
              k.told
              ∙ sym (ap (λ (b : Bool). cond b (conclude (read_sheet (lines_of text) 1)) (unreadable TextTooLong 0)) (le-leb (length text) text_limit l))
              ∙ sym (ap (λ (b : Bool). cond b (meaning text) (unreadable BufferTooShort 0)) whole);
          only = k.only;
          short = λ e. (let b = sym e ∙ whole in clash (cc));
          placed = k.placed;
        }

-- what the crates above have of a sheet that was read

pub read_means : (text w w' : List ℕ) → work_size ≤ length w → {v : Verdict} → SheetRead text w w' v → meaning text ≡ verdict_means v (sheet_in w')
read_means text w w' h k =
    sym (k.told ∙ ap (λ (b : Bool). cond b (meaning text) (unreadable BufferTooShort 0)) (le-leb work_size (length w) h))

pub read_well_formed : (text w w' : List ℕ) → work_size ≤ length w → SheetRead text w w' Verdict.Accepted → WellFormed (sheet_in w')
read_well_formed text w w' h k = readable-WellFormed text (sheet_in w') (read_means text w w' h k)
