-- Reading main: a law for each exit. Assumes nothing.
use Prim.Native.Nat.{ℕ, ◌+◌, ◌≤◌, ◌<◌}
use native.Mathlib.Omega.{arith}
use mathlib.Core.Path.{◌≡◌, refl, sym, ap, ◌∙◌, subst}
use mathlib.Core.List.{List}
use lib.ListN.{length, drop}
use lib.Seq.{get_or-set_same, get_or-set_other}
use Rattle.lists.proofs.TabLaws.{length-tab, tab_ext}
use Rattle.lists.proofs.Tests.{clash}
use Rattle.sheet_rules.specs.declared.Place.{Place}
use Rattle.sheet_rules.specs.declared.Reason.{Reason}
use Rattle.sheet_rules.specs.declared.Reason.TheVariants.{Malformed}
use Rattle.sheet_rules.specs.declared.Verdict.{Verdict}
use Rattle.sheet_rules.specs.Lines.{lines_of}
use Rattle.sheet_rules.specs.Sheet.{Sheet, size_of_forms}
use Rattle.sheet_rules.specs.Reader.{refused, Reader, and_then, give, one}
use Rattle.sheet_rules.specs.FormLines.{body_line, read_instrs}
use Rattle.sheet_rules.specs.Reading.{conclude}
use Rattle.sheet_rules.proofs.ReaderLaws.{Gives-one}
use Rattle.sheet_rules.proofs.FormLinesLaws as Body
use Rattle.sheet_rules.proofs.FormLinesLaws.{body_line-Room}
use Rattle.table.specs.Layout.{row_count_at, form_count_at, main_start_at, main_count_at, device_count_at, device_address, row_address, instr_address, table_end, work_size}
use Rattle.table.specs.View.{cell, row_in, rows_in, instrs_in, form_in, forms_in, devices_in, sheet_in}
use Rattle.table.specs.Only.{Only}
use Rattle.table.specs.Pool.{OnlyFrom, FormEnds, Placed}
use Rattle.table.specs.Ready.{Ready}
use Rattle.table.specs.Stores.{three_put, counts_put}
use Rattle.table.proofs.ViewLaws.{Only-refl, Only-trans, Only-widen, Only-set, row_same, instr_same, part_same, form_same}
use Rattle.table.proofs.PoolLaws.{instrs→from, row_kept, form_kept, ends_same, FormEnds-kept}
use Rattle.table.proofs.StoreLaws.{three_only, three_0, three_1, three_2}
use Rattle.line_reader.specs.declared.Cursor.{Cursor}
use Rattle.line_reader.specs.declared.TakenLine.{TakenLine}
use Rattle.line_reader.proofs.ExitLaws.{Passes, passed_on}
use Rattle.sheet_rules.specs.Answers.{verdict_from}
use Rattle.line_reader.specs.Told.{read_from, number as first, line_read, LineTold, Past}
use Rattle.reader_loop.proofs.ThenLaws.{past, then_stop, line_then, line_stop, line_gives, Moved-then, moved_stop}
use Rattle.instr_reader.specs.Reads.{InstrsRead}
use Rattle.form_reader.specs.Reads.{FormsUsed}
use Rattle.reader.specs.Reads.{verdict_means, end_rest, instrs_rest, main_rest, RestRead}
use Rattle.reader.proofs.EndLaws.{at_end, not_at_end}
use Rattle.std.specs.declared.result.Result.{Result}
use Rattle.std.specs.declared.result.Result.TheVariants.{Ok, Err}
use Rattle.sheet_rules.specs.declared.Refusal.{Refusal}
use Rattle.sheet_rules.specs.Reader.{nth}

-- the sheet's counts, stored: the counts are there, and the rest of the table is as it was
module _ (w : List ℕ) (rows forms start count : ℕ) (size : work_size ≤ length w) where
  pub counts_only : Only 0 4 w (counts_put w rows forms start count)
  counts_only =
      Only-trans (Only-widen (omega arith) (omega arith) (three_only w row_count_at rows forms start))
      (Only-set 0 4 (three_put w row_count_at rows forms start) main_count_at count (omega arith) (omega arith))

  pub count_0 : cell (counts_put w rows forms start count) row_count_at ≡ rows
  count_0 = get_or-set_other (three_put w row_count_at rows forms start) main_count_at row_count_at count 0 (λ e. omega arith) ∙ three_0 w row_count_at rows forms start (omega arith)

  pub count_1 : cell (counts_put w rows forms start count) form_count_at ≡ forms
  count_1 = get_or-set_other (three_put w row_count_at rows forms start) main_count_at form_count_at count 0 (λ e. omega arith) ∙ three_1 w row_count_at rows forms start (omega arith)

  pub count_2 : cell (counts_put w rows forms start count) main_start_at ≡ start
  count_2 = get_or-set_other (three_put w row_count_at rows forms start) main_count_at main_start_at count 0 (λ e. omega arith) ∙ three_2 w row_count_at rows forms start (omega arith)

  pub count_3 : cell (counts_put w rows forms start count) main_count_at ≡ count
  count_3 = get_or-set_same (three_put w row_count_at rows forms start) main_count_at count 0 (omega (arith, (three_only w row_count_at rows forms start).size))

pub counts_size : (w : List ℕ) {w₁ : List ℕ} (rows forms start count : ℕ) → work_size ≤ length w → w₁ ≡ counts_put w rows forms start count → length w₁ ≡ length w
counts_size w rows forms start count size e = ap length e ∙ (counts_only w rows forms start count size).size

-- a buffer that is changed below its rows alone has rows and forms as they were
module _ (w w₁ : List ℕ) (o : Only 0 (row_address 0) w w₁) where
  pub counts_row : (i : ℕ) → row_in w₁ i ≡ row_in w i
  counts_row i = row_same w w₁ i (λ k l u. o.above k (omega arith))

  pub counts_form : (f : ℕ) → form_in w₁ f ≡ form_in w f
  counts_form f =
      form_same w w₁ f (λ k l u. o.above k (omega arith))
      (λ j h. part_same w w₁ f j (λ k l u. o.above k (omega arith)) (λ k l u t. instr_same w w₁ k (λ i a b. o.above i (omega arith))))

  pub counts_ends : (f p : ℕ) → FormEnds w f p → FormEnds w₁ f p
  counts_ends f p e = ends_same w w₁ f p (λ k l u. o.above k (omega arith)) e

-- a refusal is no acceptance
pub not_accepted : {q : Reason} {l : ℕ} {v : Verdict} → v ≡ Verdict.Refused q l → {A : Type 0} → v ≡ Verdict.Accepted → A
not_accepted {q} {l} e c = go (sym e ∙ c)
  where
    go : {A : Type 0} → Verdict.Refused q l ≡ Verdict.Accepted → A
    go x = clash (cc)

-- the verdict of an answer that passes a refusal on
pub refused_by : {q : Refusal} (s : Result Unit Refusal) → Passes s q → verdict_from s ≡ Verdict.Refused q.reason q.line
refused_by {q} s h = passed_on (λ s. verdict_from s ≡ Verdict.Refused q.reason q.line) h refl

-- the rest of a sheet, refused
pub rest_refused : {q : Reason} {l : ℕ} {text : List ℕ} {rest : Reader Sheet} {from : Cursor} {w w' : List ℕ} {v : Verdict} → v ≡ Verdict.Refused q l → read_from text from rest ≡ refused q l
    → Only 0 table_end w w' → RestRead text rest from w w' v
rest_refused {w' = w'} ev ex o =
    record { told = ap (λ (y : Verdict). verdict_means y (sheet_in w')) ev ∙ sym (ap conclude ex); only = o; placed = not_accepted ev }

module _ {text : List ℕ} {rows forms : ℕ} {from : Cursor} {w : List ℕ} (ready : Ready rows w) (small : forms ≤ 64) (by : FormsUsed w forms from.used)
    (few_devices : cell w device_count_at ≤ 8) {p : Result TakenLine Refusal} (told : LineTold Place.Main from.used text from p) where
  -- the devices that are there, and main's rest with them
  abbrev pub started : List ℕ
  started = devices_in w (cell w device_count_at)

  started-length : length started ≡ cell w device_count_at
  started-length = length-tab (λ i. cell w (device_address i)) (cell w device_count_at)

  abbrev pub rest : Reader Sheet
  rest = main_rest (rows_in w rows) forms (forms_in w forms) started

  told_here : line_read text first p ≡ read_from text from (one (body_line Place.Main (size_of_forms (forms_in w forms))))
  told_here = told.told ∙ ap (λ (u : ℕ). read_from text from (one (body_line Place.Main u))) by.counted

  pub main_refused : {q : Refusal} → p ≡ Err q → (s : Result Unit Refusal) → Passes s q → RestRead text rest from w w (verdict_from s)
  unfolding main_rest
  main_refused e s h =
      rest_refused (refused_by s h) (line_stop text first (instrs_rest (rows_in w rows) forms (forms_in w forms) started) told_here e) (Only-refl 0 table_end w)

  module _ {head : TakenLine} (e : p ≡ Ok head) where
    q : Past text from head
    q = past e told.onward

    used_by : FormsUsed w forms head.next.used
    used_by = subst (FormsUsed w forms) (sym q.pool) by

    Room-for : Body.Room head.next.used (nth head.numbers.values 0)
    Room-for =
        subst (λ (u : ℕ). Body.Room u (nth head.numbers.values 0)) (sym q.pool)
        (line_gives text first told.told e (Body.Room from.used) (Gives-one (Body.Room from.used) (body_line Place.Main from.used) (body_line-Room Place.Main from.used) (lines_of (drop from.at text)) from.line))

    pub main_whole : head.next.used + (nth head.numbers.values 0) ≤ 1024
    main_whole = Room-for.whole

    module _ {w₁ : List ℕ} (stored : w₁ ≡ counts_put w rows forms head.next.used (nth head.numbers.values 0)) {number filled : ℕ} (number_is : number ≡ nth head.numbers.values 0)
        (Filled-is : filled ≡ cell w device_count_at) {w' : List ℕ} {r : Result Cursor Refusal} (m₁ : InstrsRead text number forms filled head.next w₁ w' r) where
      m : InstrsRead text (nth head.numbers.values 0) forms (length started) head.next w₁ w' r
      m =
          subst (λ (k : ℕ). InstrsRead text k forms (length started) head.next w₁ w' r) number_is
          (subst (λ (k : ℕ). InstrsRead text number forms k head.next w₁ w' r) (Filled-is ∙ sym started-length) m₁)

      head_only : Only 0 (row_address 0) w w₁
      head_only = subst (Only 0 (row_address 0) w) (sym stored) (Only-widen (omega arith) (omega arith) (counts_only w rows forms head.next.used (nth head.numbers.values 0) ready.size))

      pool_from : OnlyFrom (instr_address 0) head.next.used w₁ w'
      pool_from = instrs→from head.next.used (nth head.numbers.values 0) (omega arith) Room-for.some Room-for.whole m.only

      main_only : Only 0 table_end w w'
      main_only =
          Only-trans (Only-widen (omega arith) (omega arith) head_only)
          (Only-widen (omega arith) (let a = Room-for.some in let b = Room-for.whole in omega arith) m.only)

      told_main : read_from text from rest
          ≡ and_then (read_from text head.next (read_instrs forms (length started) (nth head.numbers.values 0))) (end_rest (rows_in w rows) (forms_in w forms) started)
      unfolding main_rest instrs_rest
      told_main = line_then text first (instrs_rest (rows_in w rows) forms (forms_in w forms) started) told_here e

      pub instrs_refused : {q : Refusal} → r ≡ Err q → (s : Result Unit Refusal) → Passes s q → RestRead text rest from w w' (verdict_from s)
      instrs_refused c s h =
          rest_refused (refused_by s h) (told_main ∙ moved_stop text (end_rest (rows_in w rows) (forms_in w forms) started) (instrs_in w' head.next.used (nth head.numbers.values 0)) m.told c) main_only

      -- the sheet that the table holds
      cell_kept : (k : ℕ) → k < 16 → cell w' k ≡ cell (counts_put w rows forms head.next.used (nth head.numbers.values 0)) k
      cell_kept k h = pool_from.below k (omega arith) ∙ ap (λ (x : List ℕ). cell x k) stored

      rows_there : rows_in w' rows ≡ rows_in w rows
      rows_there = tab_ext (row_in w') (row_in w) rows (λ k h. row_kept (instr_address 0) head.next.used w₁ w' pool_from q.room.pool (omega arith) k ∙ counts_row w w₁ head_only k)

      forms_there : forms_in w' forms ≡ forms_in w forms
      forms_there =
          tab_ext (form_in w') (form_in w) forms
          (λ k h. form_kept (instr_address 0) head.next.used w₁ w' pool_from q.room.pool k (omega arith) (counts_ends w w₁ head_only k head.next.used (used_by.ends k h)) ∙ counts_form w w₁ head_only k)

      device_kept : (k : ℕ) → 4 ≤ k → k < 16 → cell w' k ≡ cell w k
      device_kept k l h = cell_kept k h ∙ (counts_only w rows forms head.next.used (nth head.numbers.values 0) ready.size).above k l

      devices_there : devices_in w' (cell w' device_count_at) ≡ started
      devices_there =
          ap (devices_in w') (device_kept device_count_at (omega arith) (omega arith))
          ∙ tab_ext (λ i. cell w' (device_address i)) (λ i. cell w (device_address i)) (cell w device_count_at) (λ i h. device_kept (device_address i) (omega arith) (omega arith))

      sheet_there : sheet_in w' ≡ record { rows = rows_in w rows; forms = forms_in w forms; devices = started; main = instrs_in w' head.next.used (nth head.numbers.values 0) }
      unfolding sheet_in
      sheet_there =
          λ x. record {
            rows = (ap (rows_in w') (cell_kept row_count_at (omega arith) ∙ count_0 w rows forms head.next.used (nth head.numbers.values 0) ready.size) ∙ rows_there) x;
            forms = (ap (forms_in w') (cell_kept form_count_at (omega arith) ∙ count_1 w rows forms head.next.used (nth head.numbers.values 0) ready.size) ∙ forms_there) x;
            devices = devices_there x;
            main =
                instrs_in w' ((cell_kept main_start_at (omega arith) ∙ count_2 w rows forms head.next.used (nth head.numbers.values 0) ready.size) x)
                ((cell_kept main_count_at (omega arith) ∙ count_3 w rows forms head.next.used (nth head.numbers.values 0) ready.size) x);
          }

      all_placed : Placed w'
      all_placed =
          record {
            forms = λ f h.
                FormEnds-kept (instr_address 0) head.next.used w₁ w' pool_from q.room.pool f 1024 q.room.pool (omega (arith, count))
                (counts_ends w w₁ head_only f head.next.used (used_by.ends f (omega (arith, count))));
            main =
                (let a = cell_kept main_start_at (omega arith) ∙ count_2 w rows forms head.next.used (nth head.numbers.values 0) ready.size in
                let b = cell_kept main_count_at (omega arith) ∙ count_3 w rows forms head.next.used (nth head.numbers.values 0) ready.size in
                omega (arith, Room-for.whole));
          }
        where
          count : cell w' form_count_at ≡ forms
          count = cell_kept form_count_at (omega arith) ∙ count_1 w rows forms head.next.used (nth head.numbers.values 0) ready.size

      module _ {to : Cursor} (moved : r ≡ Ok to) where
        told_end : read_from text from rest ≡ read_from text to (end_rest (rows_in w rows) (forms_in w forms) started (instrs_in w' head.next.used (nth head.numbers.values 0)))
        told_end = told_main ∙ Moved-then text (end_rest (rows_in w rows) (forms_in w forms) started) (instrs_in w' head.next.used (nth head.numbers.values 0)) m.told moved

        pub after_main : to.at < length text → RestRead text rest from w w' (Verdict.Refused Malformed to.line)
        unfolding end_rest
        after_main h =
            rest_refused refl
            (told_end
            ∙ then_stop _ (λ end. give (record { rows = rows_in w rows; forms = forms_in w forms; devices = started; main = instrs_in w' head.next.used (nth head.numbers.values 0) })) Malformed to.line (sym (not_at_end text to.at to.line h)))
            main_only

        pub main_read : length text ≤ to.at → RestRead text rest from w w' Verdict.Accepted
        unfolding end_rest and_then
        main_read h =
            record {
              told =
                  ap (verdict_means Verdict.Accepted) sheet_there
                  ∙ sym (ap conclude
                  (told_end
                  ∙ ap (λ x. and_then x (λ end. give (record { rows = rows_in w rows; forms = forms_in w forms; devices = started; main = instrs_in w' head.next.used (nth head.numbers.values 0) }))) (at_end text to.at to.line h)));
              only = main_only;
              placed = λ e. all_placed;
            }
