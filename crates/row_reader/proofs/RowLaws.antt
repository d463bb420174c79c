-- Reading one row: its heading stored, its twin asked, its members read. Assumes nothing.
use Prim.Native.Nat.{ℕ, suc, ◌+◌, ◌≤◌, ◌<◌}
use native.Mathlib.Omega.{arith}
use native.Mathlib.Numerals.{add-one}
use mathlib.Core.Path.{◌≡◌, refl, sym, ap, ap₂, ◌∙◌, subst}
use mathlib.Core.Bool.{Bool, true, false, not, ◌&&◌}
use mathlib.Core.List.{List, []}
use lib.Dec.{T, eqb, eqb→eq}
use lib.ListN.{length, drop, set, length-set}
use lib.Seq.{get_or-set_same, get_or-set_other}
use Rattle.lists.specs.Tab.{tab}
use Rattle.lists.proofs.TabLaws.{tab_ext}
use Rattle.sheet_rules.specs.declared.Member.{Member}
use Rattle.sheet_rules.specs.declared.Place.{Place}
use Rattle.sheet_rules.specs.declared.Reason.{Reason}
use Rattle.sheet_rules.specs.declared.Reason.TheVariants.{DuplicateRow}
use Rattle.sheet_rules.specs.Lines.{Line, lines_of}
use Rattle.sheet_rules.specs.Sheet.{Row}
use Rattle.sheet_rules.specs.Reader.{Judged, refused, give, and_then, settle, one, many}
use Rattle.sheet_rules.specs.RowLines.{Heading, kind_of, twin, row_line, member_line, read_row}
use Rattle.line_judges.specs.Told.{row_told}
use Rattle.line_judges.proofs.JudgeLaws.{demand_no, demand_yes}
use Rattle.table.specs.Layout.{row_address, work_size}
use Rattle.table.specs.View.{cell, members_in, row_in, rows_in}
use Rattle.table.specs.Only.{Only}
use Rattle.table.specs.Stores.{row_head_put}
use Rattle.table.proofs.ViewLaws.{Only-set, Only-trans, Only-widen, row_other}
use Rattle.lexer.specs.declared.numbers.Numbers.{Numbers}
use Rattle.line_reader.specs.declared.Cursor.{Cursor}
use Rattle.line_reader.specs.declared.TakenLine.{TakenLine}
use Rattle.line_reader.specs.Told.{read_from, line_asked, LineTold, read_told, Advanced}
use Rattle.reader_loop.proofs.ThenLaws.{past, item_refused, Advanced-sooner}
use Rattle.row_reader.specs.Reads.{heading_in, Headed, MembersRead, row_rest, RowKept, RowRead}
use Rattle.std.specs.declared.result.Result.{Result}
use Rattle.std.specs.declared.result.Result.TheVariants.{Ok, Err}
use Rattle.line_reader.proofs.ExitLaws.{Passes}
use Rattle.sheet_rules.specs.declared.Refusal.{Refusal}
use Rattle.sheet_rules.specs.Answers.{turned_away}
use Rattle.sheet_rules.specs.Reader.{nth}

-- a row of a kind's number and members
abbrev row_of : ℕ → List Member → Row
row_of kind members = record { kind = kind_of kind; members = members }

-- a row's heading, stored
abbrev pub headed : List ℕ → ℕ → ℕ → ℕ → List ℕ
headed = row_head_put

module _ (w : List ℕ) (i kind count : ℕ) (size : work_size ≤ length w) where
  kind_stored : cell (headed w i kind count) (row_address i) ≡ kind
  kind_stored =
      get_or-set_other (set w (row_address i) kind) (row_address i + 1) (row_address i) count 0 (λ e. omega arith)
      ∙ get_or-set_same w (row_address i) kind 0 (omega arith)

  pub count_stored : cell (headed w i kind count) (row_address i + 1) ≡ count
  count_stored = get_or-set_same (set w (row_address i) kind) (row_address i + 1) count 0 (omega (arith, length-set w (row_address i) kind))

  pub headed-Only : Only (row_address i) (row_address i + 36) w (headed w i kind count)
  headed-Only =
      Only-trans (Only-set (row_address i) (row_address i + 36) w (row_address i) kind (omega arith) (omega arith))
      (Only-set (row_address i) (row_address i + 36) (set w (row_address i) kind) (row_address i + 1) count (omega arith) (omega arith))

  module _ (hi : i < 64) where
    rows_kept : (w' : List ℕ) → Only (row_address i) (row_address i + 36) w w' → rows_in w' i ≡ rows_in w i
    rows_kept w' o = tab_ext (row_in w') (row_in w) i (λ k l. row_other w w' i k o hi (omega arith) (λ e. omega arith))

    heading : heading_in (headed w i kind count) i ≡ record { kind = kind_of kind; count = count }
    heading = λ x. record { kind = kind_of (kind_stored x); count = count_stored x }

    -- a row without members
    lone : count ≡ 0 → row_in (headed w i kind count) i ≡ record { kind = kind_of kind; members = [] }
    unfolding row_in tab
    lone e = λ x. record { kind = kind_of (kind_stored x); members = ap (members_in (headed w i kind count) i) (count_stored ∙ e) x }

    twin_asked : (eqb count 0 && twin (rows_in (headed w i kind count) i) (row_in (headed w i kind count) i))
        ≡ (eqb count 0 && twin (rows_in w i) (record { kind = kind_of kind; members = [] }))
    twin_asked = go (eqb count 0) refl
      where
        go : (b : Bool) → eqb count 0 ≡ b
            → (b && twin (rows_in (headed w i kind count) i) (row_in (headed w i kind count) i)) ≡ (b && twin (rows_in w i) (record { kind = kind_of kind; members = [] }))
        go false e = refl
        go true e = ap₂ twin (rows_kept (headed w i kind count) headed-Only) (lone (eqb→eq count 0 (subst T (sym e) tt)))

    told_twin : (eqb count 0 && twin (rows_in (headed w i kind count) i) (row_in (headed w i kind count) i)) ≡ true
        → (ls : List Line) (n : ℕ) → row_rest (rows_in w i) (settle (row_told (rows_in w i) kind count) ls n) ≡ refused DuplicateRow n
    unfolding row_rest and_then settle
    told_twin e ls n = ap (λ x. row_rest (rows_in w i) (settle x ls n)) (demand_no _ _ _ (ap not (sym twin_asked ∙ e)))

    told_on : (eqb count 0 && twin (rows_in (headed w i kind count) i) (row_in (headed w i kind count) i)) ≡ false
        → (ls : List Line) (n : ℕ)
        → row_rest (rows_in w i) (settle (row_told (rows_in w i) kind count) ls n)
        ≡ and_then (many count (λ before. one (member_line (length (rows_in w i)) (rows_in w i) (record { kind = kind_of kind; count = count }) before)) [] ls (suc n))
        (λ members. give (record { kind = kind_of kind; members = members }))
    unfolding row_rest and_then settle
    told_on e ls n = ap (λ x. row_rest (rows_in w i) (settle x ls n)) (demand_yes _ _ _ (ap not (sym twin_asked ∙ e)))

    module _ {text : List ℕ} (n : ℕ) {next : Cursor} where
      pub row_twin : (eqb count 0 && twin (rows_in (headed w i kind count) i) (row_in (headed w i kind count) i)) ≡ true
          → RowKept text i kind count n next w (headed w i kind count) (turned_away DuplicateRow n)
      row_twin e = record { told = sym (told_twin e (lines_of (drop next.at text)) n); only = headed-Only; advanced = Advanced.stopped }

      pub row_members : (eqb count 0 && twin (rows_in (headed w i kind count) i) (row_in (headed w i kind count) i)) ≡ false → next.line ≡ n + 1
          → (w' : List ℕ) (r : Result Cursor Refusal) → MembersRead text i count next (headed w i kind count) w' r → RowKept text i kind count n next w w' r
      unfolding row_in and_then
      row_members e en w' r m =
          record {
            told =
                ap (read_told text r) row' ∙ each r
                ∙ ap (λ x. and_then x (λ members. give (row_of kind members)))
                (m.told
                ∙ ap₂ (λ (rs : List Row) (h : Heading). read_from text next (many count (λ before. one (member_line (length rs) rs h before)) []))
                (rows_kept (headed w i kind count) headed-Only) heading
                ∙ ap (λ (l : ℕ). many count (λ before. one (member_line (length (rows_in w i)) (rows_in w i) (record { kind = kind_of kind; count = count }) before)) [] (lines_of (drop next.at text)) l) (en ∙ add-one n))
                ∙ sym (told_on e (lines_of (drop next.at text)) n);
            only = Only-trans headed-Only (Only-widen (omega arith) (omega arith) m.only);
            advanced = m.advanced;
          }
        where
          row' : row_in w' i ≡ row_of kind (members_in w' i count)
          row' =
              λ x. record {
                kind = kind_of ((m.only.below (row_address i) (omega arith) ∙ kind_stored) x);
                members = members_in w' i ((m.only.below (row_address i + 1) (omega arith) ∙ count_stored) x);
              }

          each : (p : Result Cursor Refusal) → read_told text p (row_of kind (members_in w' i count))
              ≡ and_then (read_told text p (members_in w' i count)) (λ members. give (row_of kind members))
          each (Ok to) = refl
          each (Err q) = refl

-- the same, by what the calls left
module _ (w : List ℕ) (i kind : ℕ) {count : ℕ} (size : work_size ≤ length w) (hi : i < 64) {w₁ : List ℕ} (e : w₁ ≡ headed w i kind count) {c' : ℕ} (ec : c' ≡ count) where
  asked_by : {b : Bool} → b ≡ (eqb c' 0 && twin (rows_in w₁ i) (row_in w₁ i)) → (eqb count 0 && twin (rows_in (headed w i kind count) i) (row_in (headed w i kind count) i)) ≡ b
  asked_by p = sym (ap₂ (λ (x : List ℕ) (m : ℕ). eqb m 0 && twin (rows_in x i) (row_in x i)) e ec) ∙ sym p

  pub row_twin_by : {text : List ℕ} (n : ℕ) {next : Cursor} {b : Bool} → b ≡ (eqb c' 0 && twin (rows_in w₁ i) (row_in w₁ i)) → b ≡ true → RowKept text i kind count n next w w₁ (turned_away DuplicateRow n)
  row_twin_by {text} n {next} p q =
      subst (λ (x : List ℕ). RowKept text i kind count n next w x (turned_away DuplicateRow n)) (sym e) (row_twin w i kind count size hi n (asked_by p ∙ q))

  pub row_members_by : {text : List ℕ} (n : ℕ) {next : Cursor} → next.line ≡ n + 1 → {b : Bool} → b ≡ (eqb c' 0 && twin (rows_in w₁ i) (row_in w₁ i)) → b ≡ false
      → {w' : List ℕ} {r : Result Cursor Refusal} → MembersRead text i c' next w₁ w' r → RowKept text i kind count n next w w' r
  row_members_by {text} n {next} en p q {w'} {r} m =
      row_members w i kind count size hi n (asked_by p ∙ q) en w' r
      (subst (λ (x : List ℕ). MembersRead text i count next x w' r) e (subst (λ (k : ℕ). MembersRead text i k next w₁ w' r) ec m))

  pub Headed-by : count ≤ 8 → Headed w₁ i c'
  Headed-by h =
      subst (λ (x : List ℕ). Headed x i c') (sym e)
      (subst (Headed (headed w i kind count) i) (sym ec)
      (record {
        row = hi;
        few = h;
        counted = count_stored w i kind count size;
        size = omega (arith, (headed-Only w i kind count size).size);
      }))

-- a whole row, from its heading's line on

read_row_rest : (earlier : List Row) (ls : List Line) (n : ℕ) → read_row earlier ls n ≡ row_rest earlier (one (row_line earlier) ls n)
unfolding read_row row_rest
read_row_rest earlier ls n = refl

rest_refused : (earlier : List Row) (q : Reason) (n : ℕ) → row_rest earlier (refused q n) ≡ refused q n
unfolding row_rest and_then
rest_refused earlier q n = refl

-- by what the heading's reader gave
module _ {text : List ℕ} {from : Cursor} (i : ℕ) (w : List ℕ) {b : ℕ} {p : Result TakenLine Refusal} (told : LineTold Place.Row b text from p) where
  abbrev asked : Place → Numbers → Judged Heading
  asked k ns = row_told (rows_in w i) (nth ns.values 0) (nth ns.values 1)

  told_by : read_from text from (read_row (rows_in w i)) ≡ row_rest (rows_in w i) (line_asked text from.line asked p)
  told_by = read_row_rest (rows_in w i) (lines_of (drop from.at text)) from.line ∙ ap (row_rest (rows_in w i)) (sym (told.told.0 (rows_in w i)))

  module _ {head : TakenLine} (e : p ≡ Ok head) where
    pub row_few : nth head.numbers.values 1 ≤ 8
    row_few = told.told.1 head e

    pub row_read : {w' : List ℕ} {r : Result Cursor Refusal} → RowKept text i (nth head.numbers.values 0) (nth head.numbers.values 1) from.line head.next w w' r → RowRead text i from w w' r
    row_read {r = r} kept =
        let q = past e told.onward in
        record {
          told = kept.told ∙ sym (told_by ∙ ap (λ (x : Result TakenLine Refusal). row_rest (rows_in w i) (line_asked text from.line asked x)) e);
          only = kept.only;
          advanced = subst (λ (u : ℕ). Advanced text from u r) q.pool (Advanced-sooner (let l : from.at ≤ head.next.at = omega (arith, q.later) in l) kept.advanced);
        }

  pub row_refused : {q : Refusal} → p ≡ Err q → {r : Result Cursor Refusal} → Passes r q → RowRead text i from w w r
  row_refused {q} e =
      item_refused _ _ _ (row_address i) (row_address i + 36) from w
      (told_by ∙ ap (λ (x : Result TakenLine Refusal). row_rest (rows_in w i) (line_asked text from.line asked x)) e ∙ rest_refused (rows_in w i) q.reason q.line)
