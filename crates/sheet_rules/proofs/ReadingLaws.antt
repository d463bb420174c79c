-- Laws of the sheets that reading gives: a text has at most one meaning, and a readable sheet is well formed. Assumes nothing.
use Prim.Native.Nat.{ℕ, ◌≤◌}
use native.Mathlib.Omega.{arith}
use mathlib.Core.Path.{◌≡◌, sym, subst}
use mathlib.Core.Bool.{Bool, true, false, cond}
use mathlib.Core.List.{List}
use lib.Dec.{leb}
use lib.ListN.{length}
use Rattle.lists.specs.In.{In}
use Rattle.lists.proofs.Tests.{clash}
use Rattle.sheet_rules.specs.declared.Place.{Place}
use Rattle.sheet_rules.specs.declared.Reason.{Reason}
use Rattle.sheet_rules.specs.declared.Reason.TheVariants.{TextTooLong}
use Rattle.sheet_rules.specs.Limits.{text_limit, row_limit, form_limit}
use Rattle.sheet_rules.specs.Lines.{Line, lines_of}
use Rattle.sheet_rules.specs.Sheet.{Row, Form, Instr, Sheet, size_of_forms}
use Rattle.sheet_rules.specs.Reader.{Read, got, refused, count_line}
use Rattle.sheet_rules.specs.FormLines.{body_line}
use Rattle.sheet_rules.specs.Reading.{read_end, read_sheet, readable, unreadable, conclude, meaning}
use Rattle.sheet_rules.specs.WellFormed.{LowerRows, Scoped, WellFormedForm, WellFormed}
use Rattle.sheet_rules.proofs.ReaderLaws.{Gives, its_got, its_refused, Gives-any, Gives-one, Gives-then, count_line_within}
use Rattle.sheet_rules.proofs.RowLinesLaws.{WellFormedRows, read_rows_well_formed}
use Rattle.sheet_rules.proofs.FormLinesLaws.{Room, body_line-Room, read_instrs-Scoped, read_forms_well_formed}
use Rattle.sheet_rules.proofs.DeviceLinesLaws.{WellFormedDevices, read_devices_well_formed}

-- a text has at most one meaning
pub meaning_unique : (text : List ℕ) (s t : Sheet) → meaning text ≡ readable s → meaning text ≡ readable t → s ≡ t
meaning_unique text s t p q = cc

-- reading gives well-formed sheets

sheet_well_formed : (rows : List Row) (forms : List Form) (devices : List ℕ) (main : List Instr) (t f i : ℕ) → (1 ≤ t) × (t ≤ row_limit)
    → WellFormedRows rows × (length rows ≡ t) → (0 ≤ f) × (f ≤ form_limit)
    → ((g : Form) → In g forms → WellFormedForm rows f g) × (length forms ≡ f) → WellFormedDevices f devices → Room (size_of_forms forms) i
    → Scoped f (length devices) main × (length main ≡ i) → WellFormed (record { rows = rows; forms = forms; devices = devices; main = main })
sheet_well_formed rows forms devices main t f i rows-within all forms-within each started room scoped =
    let e : length rows ≡ t = all.1 in
    let g : length forms ≡ f = each.1 in
    let l : length main ≡ i = scoped.1 in
    record {
      rows = all.0;
      some_rows = omega arith;
      few_rows = omega arith;
      forms = λ h j. subst (λ (k : ℕ). WellFormedForm rows k h) (sym g) (each.0 h j);
      few_forms = omega arith;
      devices = λ h j. omega (arith, g, started.there h j);
      few_devices = started.few;
      main = record { scoped = subst (λ (k : ℕ). Scoped k (length devices) main) (sym g) scoped.0; some = omega arith; few = omega arith };
      size = omega arith;
    }

read_sheet-WellFormed : (ls : List Line) (n : ℕ) → Gives WellFormed (read_sheet ls n)
unfolding read_sheet
read_sheet-WellFormed ls n =
    Gives-then (λ t. (1 ≤ t) × (t ≤ row_limit)) WellFormed _ _
    (Gives-one (λ t. (1 ≤ t) × (t ≤ row_limit)) (count_line Place.Types 1 row_limit) (count_line_within Place.Types 1 row_limit) ls n) (λ t a ls n.
    Gives-then (λ rows. WellFormedRows rows × (length rows ≡ t)) WellFormed _ _ (read_rows_well_formed t ls n) (λ rows b ls n.
    Gives-then (λ f. (0 ≤ f) × (f ≤ form_limit)) WellFormed _ _
    (Gives-one (λ f. (0 ≤ f) × (f ≤ form_limit)) (count_line Place.Forms 0 form_limit) (count_line_within Place.Forms 0 form_limit) ls n) (λ f c ls n.
    Gives-then (λ forms. ((g : Form) → In g forms → WellFormedForm rows f g) × (length forms ≡ f)) WellFormed _ _
    (read_forms_well_formed rows f ls n) (λ forms d ls n.
    Gives-then (WellFormedDevices f) WellFormed _ _ (read_devices_well_formed f ls n) (λ devices v ls n.
    Gives-then (Room (size_of_forms forms)) WellFormed _ _
    (Gives-one (Room (size_of_forms forms)) (body_line Place.Main (size_of_forms forms)) (body_line-Room Place.Main (size_of_forms forms)) ls n) (λ i e ls n.
    Gives-then (λ main. Scoped f (length devices) main × (length main ≡ i)) WellFormed _ _ (read_instrs-Scoped f (length devices) i ls n) (λ main g ls n.
    Gives-then (λ _. Unit {0}) WellFormed _ _ (Gives-any (read_end ls n)) (λ _ _ ls n.
    its_got (sheet_well_formed rows forms devices main t f i a b c d v e g)))))))))

-- what holds of every sheet that reading gives holds of the sheet that a text means
pub meaning_has : (P : Sheet → Type 0) → ((ls : List Line) (n : ℕ) → Gives P (read_sheet ls n)) → (text : List ℕ) (s : Sheet) → meaning text ≡ readable s → P s
unfolding meaning
meaning_has P h text s e = go (leb (length text) text_limit) (read_sheet (lines_of text) 1) (h (lines_of text) 1) e
  where
    go : (b : Bool) (x : Read Sheet) → Gives P x → cond b (conclude x) (unreadable TextTooLong 0) ≡ readable s → P s
    go true (got t ls n) (its_got p) e = subst P (cc) p
    go true (refused r n) its_refused e = absurd (apart r n e)
      where
        apart : (r : Reason) (n : ℕ) → unreadable r n ≡ readable s → ⊥
        apart r n e = clash (cc)
    go false x p e = clash (cc)

-- a sheet that a text means is well formed
pub readable-WellFormed : (text : List ℕ) (s : Sheet) → meaning text ≡ readable s → WellFormed s
readable-WellFormed text s e = meaning_has WellFormed read_sheet-WellFormed text s e

-- so that its rows mention lower ones
pub readable_lower : (text : List ℕ) (s : Sheet) → meaning text ≡ readable s → LowerRows s.rows
readable_lower text s e = λ a. ((readable-WellFormed text s e).rows a).lower
