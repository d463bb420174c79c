-- Reading one member: a law for each exit. Assumes nothing.
use Prim.Native.Nat.{ℕ, ◌+◌}
use mathlib.Core.Path.{◌≡◌, refl, sym, ap, ◌∙◌, subst}
use mathlib.Core.List.{List}
use lib.ListN.{length}
use Rattle.sheet_rules.specs.declared.Member.{Member}
use Rattle.sheet_rules.specs.declared.MemberKind.{MemberKind}
use Rattle.sheet_rules.specs.declared.Place.{Place}
use Rattle.sheet_rules.specs.Reader.{Judged, one}
use Rattle.sheet_rules.specs.RowLines.{member_line}
use Rattle.lexer.specs.declared.numbers.Numbers.{Numbers}
use Rattle.lexer.specs.Told.{list_of}
use Rattle.line_judges.specs.Told.{MemberShaped, Lowest, member_rest}
use Rattle.table.specs.Layout.{member_address}
use Rattle.table.specs.View.{members_in, rows_in}
use Rattle.line_reader.specs.declared.Cursor.{Cursor}
use Rattle.line_reader.specs.declared.TakenLine.{TakenLine}
use Rattle.line_reader.specs.Told.{read_from, line_asked, LineTold, Advanced}
use Rattle.reader_loop.proofs.ThenLaws.{past, past_moved, item_refused}
use Rattle.row_reader.specs.Reads.{heading_in, Kept, MemberRead}
use Rattle.std.specs.declared.result.Result.{Result}
use Rattle.std.specs.declared.result.Result.TheVariants.{Ok, Err}
use Rattle.sheet_rules.specs.declared.Refusal.{Refusal}
use Rattle.line_reader.proofs.ExitLaws.{Passes}

-- by what the line's reader gave
module _ {text : List ℕ} (i j : ℕ) {from : Cursor} (w : List ℕ) {lowest : ℕ} (low : Lowest (members_in w i j) lowest)
    {p : Result TakenLine Refusal} (told : LineTold (Place.Member MemberKind.Method) lowest text from p) where
  abbrev asked : Place → Numbers → Judged Member
  asked k ns = member_rest (length (rows_in w i)) (rows_in w i) (heading_in w i) (members_in w i j) k (list_of ns)

  line_told : line_asked text from.line asked p ≡ read_from text from (one (member_line (length (rows_in w i)) (rows_in w i) (heading_in w i) (members_in w i j)))
  line_told = told.told.0 (length (rows_in w i)) (rows_in w i) (heading_in w i) (members_in w i j) low

  pub member_refused : {q : Refusal} → p ≡ Err q → {r : Result Cursor Refusal} → Passes r q → MemberRead text i j from w w r
  member_refused e = item_refused _ _ _ (member_address i j) (member_address i j + 4) from w (sym line_told ∙ ap (line_asked text from.line asked) e)

  module _ {line : TakenLine} (e : p ≡ Ok line) where
    pub member_shaped : MemberShaped line.place line.numbers
    member_shaped = record { fitting = (past e told.onward).fitting; member = told.told.1 line e }

    pub member_kept : {w' : List ℕ} {r : Result Cursor Refusal} → Kept i j line.place line.numbers from.line line.next w w' r → MemberRead text i j from w w' r
    member_kept {w'} {r} kept =
        record {
          told = kept.told text ∙ sym (ap (line_asked text from.line asked) e) ∙ line_told;
          only = kept.only;
          advanced = go r kept.moves;
        }
      where
        go : (x : Result Cursor Refusal) → ((to : Cursor) → x ≡ Ok to → to ≡ line.next) → Advanced text from from.used x
        go (Ok to) h = subst (λ (c : Cursor). Advanced text from from.used (Ok c)) (sym (h to refl)) (past_moved e told.onward)
        go (Err q) h = Advanced.stopped
