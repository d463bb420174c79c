-- Reading a form after its heading: the heading stored, its kept rows read, then its parts. Assumes nothing.
use Prim.Native.Nat.{ℕ, ◌+◌, ◌≤◌, ◌<◌}
use native.Mathlib.Omega.{arith}
use mathlib.Core.Path.{◌≡◌, refl, sym, ap, ◌∙◌, subst}
use mathlib.Core.List.{List, []}
use lib.ListN.{length}
use Rattle.lists.proofs.TabLaws.{tab_ext, length-tab, get_or-tab}
use Rattle.sheet_rules.specs.declared.Place.{Place}
use Rattle.sheet_rules.specs.declared.Member.{Member}
use Rattle.sheet_rules.specs.Sheet.{Row, Part, Form, no_row, row_at, size_of_parts}
use Rattle.sheet_rules.specs.Reader.{Read, and_then, give, one, many, existing_line}
use Rattle.table.specs.Layout.{row_address, form_address, keep_address, part_address}
use Rattle.table.specs.View.{cell, row_in, rows_in, keeps_in, parts_in, form_in}
use Rattle.table.specs.Pool.{OnlyFrom}
use Rattle.table.specs.Ready.{Ready}
use Rattle.table.specs.Stores.{heading_put}
use Rattle.table.proofs.RowLaws.{members-length}
use Rattle.table.proofs.PoolLaws.{from_trans, from→only, only→from, row_kept}
use Rattle.table.proofs.StoreLaws.{three_only, three_0, three_1, three_2}
use Rattle.line_reader.specs.declared.Cursor.{Cursor}
use Rattle.line_reader.specs.Told.{Room, read_from, read_told, Advanced}
use Rattle.reader_loop.proofs.LoopLaws.{Moved, Moved-on}
use Rattle.reader_loop.proofs.ThenLaws.{Moved-then, moved_stop, Advanced-sooner}
use Rattle.number_reader.specs.Reads.{KeepsRead}
use Rattle.form_reader.specs.Reads.{PartsReady, part_item, PartsRead, FormRead, parts_rest, form_rest}
use Rattle.line_reader.proofs.ExitLaws.{Passes, passed_on, no_answer}
use Rattle.std.specs.declared.result.Result.{Result}
use Rattle.std.specs.declared.result.Result.TheVariants.{Ok, Err}
use Rattle.sheet_rules.specs.declared.Refusal.{Refusal}

-- a row's members are few enough for a number of the buffer
pub few_members : {rows row₁ row parts : ℕ} {w : List ℕ} → Ready rows w → row < rows → row₁ ≡ row → parts ≡ cell w (row_address row₁ + 1) → parts ≤ 8
few_members {row₁ = row₁} ready h e c = let a = ready.few row₁ (omega arith) in omega arith

module _ {text : List ℕ} {f row keeps rows : ℕ} (forms : ℕ) {from : Cursor} {w : List ℕ} (start : Room text from) (hf : f < 64) (hr : row < rows) (few : keeps ≤ 8) (ready : Ready rows w)
    {row₁ : ℕ} (row_is : row₁ ≡ row) {parts : ℕ} (counted₁ : parts ≡ cell w (row_address row₁ + 1)) {w₁ : List ℕ} (stored : w₁ ≡ heading_put w f row keeps parts)
    {keeps₁ : ℕ} (keeps-are : keeps₁ ≡ keeps) {w₂ : List ℕ} {r : Result Cursor Refusal} (k₁ : KeepsRead text f keeps₁ rows from w₁ w₂ r) where
  counted : parts ≡ cell w (row_address row + 1)
  counted = counted₁ ∙ ap (λ (x : ℕ). cell w (row_address x + 1)) row_is

  k : KeepsRead text f keeps rows from w₁ w₂ r
  k = subst (λ (x : ℕ). KeepsRead text f x rows from w₁ w₂ r) keeps-are k₁

  -- what has changed so far
  head_pool : OnlyFrom (form_address f) from.used w w₁
  head_pool = subst (OnlyFrom (form_address f) from.used w) (sym stored) (only→from from.used (omega arith) (three_only w (form_address f) row keeps parts))

  keeps_pool : OnlyFrom (form_address f) from.used w w₂
  keeps_pool = from_trans {lo' = form_address f + 3} {p' = from.used} (omega arith) (omega arith) head_pool (only→from from.used (omega arith) k.only)

  few_parts : parts ≤ 8
  few_parts = few_members ready hr row_is counted₁

  fits : form_address f + 3 ≤ length w
  fits = let a = ready.size in omega arith

  -- the rule's reader, with the code's counts
  rows-length : length (rows_in w rows) ≡ rows
  rows-length = length-tab (row_in w) rows

  row_there : row_at (rows_in w rows) row ≡ row_in w row
  row_there = get_or-tab (row_in w) rows row no_row hr

  keeps_told : read_told text r (keeps_in w₂ f keeps) ≡ read_from text from (many keeps (λ before. one (existing_line Place.Keep (length (rows_in w rows)))) [])
  keeps_told = k.told ∙ ap (λ (m : ℕ). read_from text from (many keeps (λ before. one (existing_line Place.Keep m)) [])) (sym rows-length)

  pub keeps_refused : {q : Refusal} → r ≡ Err q → {s : Result Cursor Refusal} → Passes s q
      → FormRead text f (form_rest (rows_in w rows) forms from.used (record { row = row; count = keeps })) from w w₂ s
  unfolding form_rest
  keeps_refused e h =
      passed_on (FormRead text f (form_rest (rows_in w rows) forms from.used (record { row = row; count = keeps })) from w w₂) h
      (record {
        read =
            record {
              told = sym (moved_stop text (parts_rest (row_at (rows_in w rows) row).members row forms from.used) (keeps_in w₂ f keeps) keeps_told e);
              only = from→only (form_address f) from.used keeps_pool;
              advanced = Advanced.stopped;
            };
        pool = keeps_pool;
        ends = λ to c. no_answer c;
      })

  -- what reading the parts asks for
  pub parts_ready : {row₂ : ℕ} → row₂ ≡ row → PartsReady w₂ f row₂ parts keeps
  parts_ready e =
      subst (λ (x : ℕ). PartsReady w₂ f x parts keeps) (sym e)
      (record {
        form = hf;
        there = omega (arith, ready.rows);
        counted = keeps_pool.below (row_address row + 1) (omega arith) ∙ sym counted;
        few = few_parts;
        kept = few;
        size = omega (arith, keeps_pool.size, ready.size);
      })

  module _ {next : Cursor} (moved : r ≡ Ok next) where
    there : Moved text from from.used next
    there = Moved-on moved k.advanced

    pub parts_room : Room text next
    parts_room = there.room

    module _ {row₂ : ℕ} (row-still : row₂ ≡ row) {w' : List ℕ} {p : Result Cursor Refusal} (m₁ : PartsRead text f parts (part_item (row_in w₂ row₂).members forms keeps next.used) next w₂ w' p) where
      m : PartsRead text f parts (part_item (row_in w₂ row).members forms keeps next.used) next w₂ w' p
      m = subst (λ (x : ℕ). PartsRead text f parts (part_item (row_in w₂ x).members forms keeps next.used) next w₂ w' p) row-still m₁

      form_pool : OnlyFrom (form_address f) from.used w w'
      form_pool = from_trans {lo' = part_address f 0} {p' = next.used} (omega arith) (omega (arith, there.pool)) keeps_pool m.pool

      -- the heading's numbers, as they were stored
      same_head : (i : ℕ) → form_address f ≤ i → i < form_address f + 3 → cell w' i ≡ cell (heading_put w f row keeps parts) i
      same_head i l h = m.pool.below i (omega arith) ∙ k.only.below i (omega arith) ∙ ap (λ (x : List ℕ). cell x i) stored

      row-cell : cell w' (form_address f) ≡ row
      row-cell = same_head (form_address f) (omega arith) (omega arith) ∙ three_0 w (form_address f) row keeps parts fits

      keep_cell : cell w' (form_address f + 1) ≡ keeps
      keep_cell = same_head (form_address f + 1) (omega arith) (omega arith) ∙ three_1 w (form_address f) row keeps parts fits

      part_cell : cell w' (form_address f + 2) ≡ parts
      part_cell = same_head (form_address f + 2) (omega arith) (omega arith) ∙ three_2 w (form_address f) row keeps parts fits

      keeps_same : keeps_in w' f keeps ≡ keeps_in w₂ f keeps
      keeps_same = tab_ext (λ j. cell w' (keep_address f j)) (λ j. cell w₂ (keep_address f j)) keeps (λ j h. m.pool.below (keep_address f j) (omega arith))

      abbrev form_of : List Part → Form
      form_of ps = record { row = row; keeps = keeps_in w₂ f keeps; parts = ps }

      form_there : form_in w' f ≡ form_of (parts_in w' f parts)
      unfolding form_in
      form_there = λ x. record { row = row-cell x; keeps = (ap (keeps_in w' f) keep_cell ∙ keeps_same) x; parts = parts_in w' f (part_cell x) }

      -- the row's members, as the rule has them
      members_same : (row_in w₂ row).members ≡ (row_at (rows_in w rows) row).members
      members_same = ap (λ (a : Row). a.members) (row_kept (form_address f) from.used w w₂ keeps_pool start.pool (omega arith) row ∙ sym row_there)

      members_count : parts ≡ length (row_at (rows_in w rows) row).members
      members_count = counted ∙ sym (members-length w row) ∙ ap (λ (a : Row). length a.members) (sym row_there)

      keeps_count : keeps ≡ length (keeps_in w₂ f keeps)
      keeps_count = sym (length-tab (λ j. cell w₂ (keep_address f j)) keeps)

      parts_of : ℕ → List Member → ℕ → ℕ → Read (List Part)
      parts_of c ms kept used = read_from text next (many c (part_item ms forms kept used) [])

      parts_told : read_told text p (parts_in w' f parts)
          ≡ read_from text next (many (length (row_at (rows_in w rows) row).members) (part_item (row_at (rows_in w rows) row).members forms (length (keeps_in w₂ f keeps)) from.used) [])
      unfolding parts_of
      parts_told = m.read.told ∙ λ x. parts_of (members_count x) (members_same x) (keeps_count x) (there.pool x)

      each : (s : Result Cursor Refusal) → read_told text s (form_of (parts_in w' f parts)) ≡ and_then (read_told text s (parts_in w' f parts)) (λ ps. give (form_of ps))
      unfolding and_then
      each (Ok to) = refl
      each (Err q) = refl

      form_told : read_told text p (form_in w' f) ≡ read_from text from (form_rest (rows_in w rows) forms from.used (record { row = row; count = keeps }))
      unfolding form_rest parts_rest
      form_told =
          ap (read_told text p) form_there ∙ each p
          ∙ ap (λ x. and_then x (λ ps. give (form_of ps))) parts_told
          ∙ sym (Moved-then text (parts_rest (row_at (rows_in w rows) row).members row forms from.used) (keeps_in w₂ f keeps) keeps_told moved)

      form_used : next.used + size_of_parts (parts_in w' f parts) ≡ from.used + size_of_parts (form_in w' f).parts
      form_used =
          let a : size_of_parts (form_in w' f).parts ≡ size_of_parts (parts_in w' f parts) = ap (λ (x : Form). size_of_parts x.parts) form_there in
          omega (arith, there.pool, a)

      pub form_kept : FormRead text f (form_rest (rows_in w rows) forms from.used (record { row = row; count = keeps })) from w w' p
      form_kept =
          record {
            read =
                record {
                  told = form_told;
                  only = from→only (form_address f) from.used form_pool;
                  advanced = subst (λ (u : ℕ). Advanced text from u p) form_used (Advanced-sooner there.later m.read.advanced);
                };
            pool = form_pool;
            ends = λ to c. record { few = omega (arith, part_cell, few_parts); ends = λ j h. m.ends to c j (omega (arith, part_cell)) };
          }
