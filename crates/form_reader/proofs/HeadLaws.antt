-- Reading a form from its heading's line on. Assumes nothing.
use Prim.Native.Nat.{ℕ, ◌+◌, ◌≤◌}
use native.Mathlib.Omega.{arith}
use mathlib.Core.Path.{◌≡◌, sym, ap, ◌∙◌, subst}
use mathlib.Core.List.{List}
use lib.ListN.{length, drop}
use Rattle.lists.proofs.TabLaws.{length-tab}
use Rattle.sheet_rules.specs.declared.Place.{Place}
use Rattle.sheet_rules.specs.Lines.{lines_of}
use Rattle.sheet_rules.specs.Sheet.{size_of_parts}
use Rattle.sheet_rules.specs.Reader.{one}
use Rattle.sheet_rules.specs.FormLines.{form_line}
use Rattle.sheet_rules.proofs.ReaderLaws.{Gives-one}
use Rattle.sheet_rules.proofs.FormLinesLaws.{HeadingOk, form_line_ok}
use Rattle.table.specs.Layout.{form_address}
use Rattle.table.specs.View.{row_in, rows_in, form_in}
use Rattle.table.specs.Pool.{OnlyFrom}
use Rattle.table.proofs.PoolLaws.{from_refl, from→only}
use Rattle.line_reader.specs.declared.Cursor.{Cursor}
use Rattle.line_reader.specs.declared.TakenLine.{TakenLine}
use Rattle.line_reader.specs.Told.{read_from, heading, line_read, LineTold, Advanced}
use Rattle.reader_loop.proofs.ThenLaws.{line_then, line_stop, line_gives, past, Advanced-sooner}
use Rattle.line_reader.proofs.ExitLaws.{Passes, passed_on, no_answer}
use Rattle.form_reader.specs.Reads.{FormRead, form_rest, form_reader}
use Rattle.std.specs.declared.result.Result.{Result}
use Rattle.std.specs.declared.result.Result.TheVariants.{Ok, Err}
use Rattle.sheet_rules.specs.declared.Refusal.{Refusal}

-- by what the heading's reader gave
module _ {text : List ℕ} (f : ℕ) {rows : ℕ} (forms : ℕ) {from : Cursor} (w : List ℕ) {p : Result TakenLine Refusal} (told : LineTold Place.Form rows text from p) where
  told_here : line_read text heading p ≡ read_from text from (one (form_line (length (rows_in w rows))))
  told_here = told.told ∙ ap (λ (k : ℕ). read_from text from (one (form_line k))) (sym (length-tab (row_in w) rows))

  pub head_refused : {q : Refusal} → p ≡ Err q → {r : Result Cursor Refusal} → Passes r q → FormRead text f (form_reader (rows_in w rows) forms from.used) from w w r
  unfolding form_reader
  head_refused e h =
      let same = from_refl (form_address f) from.used w in
      passed_on (FormRead text f (form_reader (rows_in w rows) forms from.used) from w w) h
      (record {
        read =
            record {
              told = sym (line_stop text heading (form_rest (rows_in w rows) forms from.used) told_here e);
              only = from→only (form_address f) from.used same;
              advanced = Advanced.stopped;
            };
        pool = same;
        ends = λ to c. no_answer c;
      })

  module _ {head : TakenLine} (e : p ≡ Ok head) where
    pub head_ok : HeadingOk rows (heading head.place head.numbers)
    head_ok =
        line_gives text heading told.told e (HeadingOk rows)
        (Gives-one (HeadingOk rows) (form_line rows) (form_line_ok rows) (lines_of (drop from.at text)) from.line)

    pub head_read : {w' : List ℕ} {r : Result Cursor Refusal} → FormRead text f (form_rest (rows_in w rows) forms head.next.used (heading head.place head.numbers)) head.next w w' r
        → FormRead text f (form_reader (rows_in w rows) forms from.used) from w w' r
    unfolding form_reader
    head_read {w'} {r} m =
        let q = past e told.onward in
        record {
          read =
              record {
                told =
                    m.read.told ∙ ap (λ (u : ℕ). read_from text head.next (form_rest (rows_in w rows) forms u (heading head.place head.numbers))) q.pool
                    ∙ sym (line_then text heading (form_rest (rows_in w rows) forms from.used) told_here e);
                only = m.read.only;
                advanced =
                    subst (λ (u : ℕ). Advanced text from (u + size_of_parts (form_in w' f).parts) r) q.pool
                    (Advanced-sooner (let l : from.at ≤ head.next.at = omega (arith, q.later) in l) m.read.advanced);
              };
          pool = subst (λ (u : ℕ). OnlyFrom (form_address f) u w w') q.pool m.pool;
          ends = m.ends;
        }
