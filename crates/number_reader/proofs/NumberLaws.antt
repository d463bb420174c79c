-- Reading one number: a law for each exit. Assumes nothing.
use Prim.Native.Nat.{ℕ, ◌+◌, ◌<◌}
use native.Mathlib.Omega.{arith}
use mathlib.Core.Path.{◌≡◌, sym, ap, ◌∙◌, subst}
use mathlib.Core.List.{List}
use lib.ListN.{length, set}
use lib.Seq.{get_or-set_same}
use Rattle.table.proofs.ViewLaws.{Only-set}
use Rattle.line_reader.specs.declared.Cursor.{Cursor}
use Rattle.line_reader.specs.declared.TakenLine.{TakenLine}
use Rattle.line_reader.specs.Told.{read_from, got_at, number, line_read, LineTold}
use Rattle.reader_loop.proofs.ThenLaws.{past_moved, item_refused}
use Rattle.number_reader.specs.declared.Listed.{Listed}
use Rattle.number_reader.specs.Reads.{Existing, NumberRead}
use Rattle.std.specs.declared.result.Result.{Result}
use Rattle.std.specs.declared.result.Result.TheVariants.{Ok, Err}
use Rattle.sheet_rules.specs.declared.Refusal.{Refusal}
use Rattle.line_reader.proofs.ExitLaws.{Passes}
use Rattle.sheet_rules.specs.Reader.{one, existing_line}
use Rattle.sheet_rules.specs.Reader.{nth}

-- by what the line's reader gave
module _ {text : List ℕ} (l : Listed) (j : ℕ) {from : Cursor} (w : List ℕ) {p : Result TakenLine Refusal} (existing : Existing l.wanted) (told : LineTold l.wanted l.bound text from p) where
  line_is : line_read text number p ≡ read_from text from (one (existing_line l.wanted l.bound))
  line_is = existing l.bound text from p told.told

  pub number_read : l.at + j < length w → {line : TakenLine} → p ≡ Ok line → {w' : List ℕ} → w' ≡ set w (l.at + j) (nth line.numbers.values 0) → NumberRead text l j from w w' (Ok line.next)
  number_read size {line} e stored =
      subst (λ (x : List ℕ). NumberRead text l j from w x (Ok line.next)) (sym stored)
      (record {
        told = ap (got_at text line.next) (get_or-set_same w (l.at + j) (nth line.numbers.values 0) 0 size) ∙ sym (ap (line_read text number) e) ∙ line_is;
        only = Only-set (l.at + j) (l.at + j + 1) w (l.at + j) (nth line.numbers.values 0) (omega arith) (omega arith);
        advanced = past_moved e told.onward;
      })

  pub number_refused : {q : Refusal} → p ≡ Err q → {r : Result Cursor Refusal} → Passes r q → NumberRead text l j from w w r
  number_refused e = item_refused _ _ _ (l.at + j) (l.at + j + 1) from w (sym line_is ∙ ap (line_read text number) e)
