-- Where a verdict's line stands: by any judge of lines, and so by typing's, the line of a text that is refused is the line of the form,
-- kept row, part, device or instruction at fault. Assumes nothing.
use Prim.Native.Nat.{ℕ, suc, pred, ◌+◌, ◌<◌}
use native.Mathlib.Omega.{arith}
use mathlib.Core.Path.{◌≡◌, refl, sym, ap, ◌∙◌, subst}
use mathlib.Core.List.{List, [], ◌∷◌, ◌++◌, map}
use mathlib.Core.Option.{none, some}
use lib.ListN.{length, get_or, length-append, length-map}
use lib.Seq.{get_or-append-add}
use Rattle.lists.specs.In.{In, here, there}
use Rattle.lists.specs.Pairwise.{Pairwise, pair}
use Rattle.lists.proofs.InLaws.{In-get_or}
use Rattle.lists.proofs.PairwiseLaws.{Pairwise-both}
use Rattle.lists.proofs.Tests.{clash}
use Rattle.sheet_rules.specs.declared.Member.{Member}
use Rattle.sheet_rules.specs.declared.Member.TheVariants.{Method, Field}
use Rattle.sheet_rules.specs.declared.Place.{Place}
use Rattle.sheet_rules.specs.declared.Reason.{Reason}
use Rattle.sheet_rules.specs.declared.Verdict.TheVariants.{Refused}
use Rattle.sheet_rules.specs.Lines.{Line, line, torn, lines_of}
use Rattle.sheet_rules.specs.Sheet.{Row, Instr, Part, init, body, Form, Sheet, no_form, form_at}
use Rattle.sheet_rules.specs.Reading.{readable, meaning}
use Rattle.sheet_rules.specs.WellFormed.{PartOf, field, method, WellFormed}
use Rattle.sheet_rules.specs.Print.{member_written, row_written, rows_written, instr_written, part_written, parts_written, keep_written, form_written, forms_written, device_written, devices_written, before_forms, after_forms}
use Rattle.sheet_rules.proofs.ReadingLaws.{readable-WellFormed}
use Rattle.sheet_rules.proofs.RoundTrip.{readable_lines}
use Rattle.type_rules.specs.Fit.{fit_answer}
use Rattle.type_rules.specs.SlotRows.{Own, members_at, body_rows, main_rows, rows_after}
use Rattle.type_rules.specs.Typing.{Fault, InstrJudge, LineJudge, code_faults, part_faults, parts_faults, form_faults, forms_faults, devices_faults, line_faults, typed_lines, first_fault, row_lines, first_form_line, typing}

-- form f is number n of the sheet's
pub record FormIs (s : Sheet) (n : ℕ) (f : Form) : Type 0 where
  pub there : n < length s.forms
  pub is : form_at s n ≡ f

-- what stands on a line, and its fault by a judge of lines: a form's heading, one of its kept rows, one of its parts, a device, an
-- instruction of a body or of main with the rows of the slots before it and the instructions after it; a `body`, `devices` or `main`
-- line has none
pub data FaultOf (judge : LineJudge) (s : Sheet) : Fault → Line → Type 0 where
  of_form : {n : ℕ} {f : Form} → FormIs s n f → FaultOf judge s (judge.of_form n f) (line Place.Form (f.row ∷ length f.keeps ∷ []))
  of_keep : {n k : ℕ} {f : Form} → FormIs s n f → In k f.keeps → FaultOf judge s (judge.of_keep n f k) (keep_written k)
  of_init : {n m r k : ℕ} {f : Form} → FormIs s n f → In (Field m r) (members_at s f.row) → FaultOf judge s (judge.of_init n f m r k) (line Place.Init (k ∷ []))
  of_body : (is : List Instr) → FaultOf judge s none (line Place.Body (length is ∷ []))
  of_instr : {n m a r : ℕ} {f : Form} → FormIs s n f → In (Method m a r) (members_at s f.row) → (rows : List ℕ) (i : Instr) (is : List Instr)
      → FaultOf judge s (judge.of_body n f m r rows i is) (instr_written i)
  of_devices : FaultOf judge s none (line Place.Devices (length s.devices ∷ []))
  of_device : {f : ℕ} → In f s.devices → FaultOf judge s (judge.of_device f) (device_written f)
  of_main : FaultOf judge s none (line Place.Main (length s.main ∷ []))
  of_main_instr : (rows : List ℕ) (i : Instr) (is : List Instr) → FaultOf judge s (judge.of_main rows i is) (instr_written i)

module _ (judge : LineJudge) (s : Sheet) where
  code_lines : (of : InstrJudge) → ((rows : List ℕ) (i : Instr) (is : List Instr) → FaultOf judge s (of rows i is) (instr_written i))
      → (own : Own) (rows : List ℕ) (is : List Instr) → Pairwise (FaultOf judge s) (code_faults of s own rows is) (map instr_written is)
  unfolding code_faults
  code_lines of each own rows [] = Pairwise.none
  code_lines of each own rows (i ∷ is) = pair (each rows i is) (code_lines of each own (rows_after s own rows i) is)

  module _ (w : WellFormed s) {n : ℕ} {f : Form} (here-is : FormIs s n f) where
    part_lines : {forms keeps : ℕ} (m : Member) (p : Part) → In m (members_at s f.row) → PartOf forms keeps m p → Pairwise (FaultOf judge s) (part_faults judge s n f m p) (part_written p)
    part_lines (Field m r) (init k) j (field h) = pair (of_init here-is j) Pairwise.none
    part_lines (Method m a r) (body is) j (method h) = pair (of_body is) (code_lines (judge.of_body n f m r) (of_instr here-is j) (some f.row) (body_rows f a) is)
    part_lines {forms = forms} {keeps = keeps} (Method m a r) (init k) j x4 = elim x4 [ ]
    part_lines {forms = forms} {keeps = keeps} (Field m r) (body is) j x5 = elim x5 [ ]

    parts_lines : {forms keeps : ℕ} (ms : List Member) (ps : List Part) → ((m : Member) → In m ms → In m (members_at s f.row)) → Pairwise (PartOf forms keeps) ms ps
        → Pairwise (FaultOf judge s) (parts_faults judge s n f ms ps) (parts_written ps)
    unfolding parts_faults parts_written
    parts_lines [] [] j Pairwise.none = Pairwise.none
    parts_lines (m ∷ ms) (p ∷ ps) j (pair q r) = Pairwise-both (part_lines m p (j m (here refl)) q) (parts_lines ms ps (λ x k. j x (there k)) r)
    parts_lines {forms = forms} {keeps = keeps} [] (p ∷ ps) j x4 = elim x4 [ ]
    parts_lines {forms = forms} {keeps = keeps} (m ∷ ms) [] j x4 = elim x4 [ ]

    keeps_lines : (ks : List ℕ) → ((k : ℕ) → In k ks → In k f.keeps) → Pairwise (FaultOf judge s) (map (judge.of_keep n f) ks) (map keep_written ks)
    keeps_lines [] j = Pairwise.none
    keeps_lines (k ∷ ks) j = pair (of_keep here-is (j k (here refl))) (keeps_lines ks (λ x l. j x (there l)))

    form_lines : Pairwise (FaultOf judge s) (form_faults judge s n f) (form_written f)
    form_lines =
        let i : In f s.forms = subst (λ (g : Form). In g s.forms) here-is.is (In-get_or s.forms n no_form here-is.there) in
        pair (of_form here-is)
        (Pairwise-both (keeps_lines f.keeps (λ k l. l)) (parts_lines (members_at s f.row) f.parts (λ m l. l) (w.forms f i).parts))

  module _ (w : WellFormed s) where
    forms_lines : (n : ℕ) (fs : List Form) → ((k m : ℕ) → k < length fs → m ≡ n + k → FormIs s m (get_or fs k no_form))
        → Pairwise (FaultOf judge s) (forms_faults judge s n fs) (forms_written fs)
    unfolding forms_faults forms_written
    forms_lines n [] j = Pairwise.none
    forms_lines n (f ∷ fs) j =
        Pairwise-both (form_lines w (j 0 n (omega arith) (omega arith))) (forms_lines (suc n) fs (λ k m l e. j (suc k) m (omega arith) (omega arith)))

    device_lines : (fs : List ℕ) → ((f : ℕ) → In f fs → In f s.devices) → Pairwise (FaultOf judge s) (map judge.of_device fs) (map device_written fs)
    device_lines [] j = Pairwise.none
    device_lines (f ∷ fs) j = pair (of_device (j f (here refl))) (device_lines fs (λ x i. j x (there i)))

    devices_lines : (fs : List ℕ) → fs ≡ s.devices → Pairwise (FaultOf judge s) (devices_faults judge fs) (devices_written fs)
    unfolding devices_faults devices_written
    devices_lines [] e = Pairwise.none
    devices_lines (f ∷ fs) e =
        pair (subst (λ (n : ℕ). FaultOf judge s none (line Place.Devices (n ∷ []))) (sym (ap length e)) of_devices)
        (device_lines (f ∷ fs) (λ x i. subst (In x) e i))

    -- the faults are those of the lines from the first `form` line on
    pub faults_lines : Pairwise (FaultOf judge s) (line_faults judge s) (forms_written s.forms ++ after_forms s)
    unfolding line_faults
    faults_lines =
        Pairwise-both (forms_lines 0 s.forms (λ k m l e. record { there = omega arith; is = ap (form_at s) (let same : m ≡ k = omega arith in same) }))
        (Pairwise-both (devices_lines s.devices refl) (pair of_main (code_lines judge.of_main of_main_instr none (main_rows s) s.main)))

-- THE LINE OF A REFUSAL

-- the first fault stands as far behind line n as its place in the list, and is the fault of the line there
record Found (judge : LineJudge) (s : Sheet) (n m : ℕ) (r : Reason) (ls : List Line) : Type 0 where
  place : ℕ
  is : m ≡ n + place
  fault : FaultOf judge s (some r) (get_or ls place torn)

found : {judge : LineJudge} {s : Sheet} {n m : ℕ} {r : Reason} {fs : List Fault} {ls : List Line} → Pairwise (FaultOf judge s) fs ls → first_fault n fs ≡ Refused r m → Found judge s n m r ls
unfolding first_fault
found Pairwise.none e = clash (cc)
found (pair {x = none} q p) e =
    let f = found p e in
    record { place = suc f.place; is = omega (arith, f.is); fault = f.fault }
found {judge} {s} {n} {m} {r} (pair {x = some x} {y = l} q p) e =
    let same : x ≡ r = cc in
    let there : n ≡ m = cc in
    record { place = 0; is = omega arith; fault = subst (λ (y : Reason). FaultOf judge s (some y) l) same q }

-- the lines before the first form's: the `types` line, the rows and the `forms` line
rows_count : (rows : List Row) → length (rows_written rows) ≡ row_lines rows
unfolding rows_written row_lines
rows_count [] = refl
rows_count (a ∷ bs) = omega (arith, length-append (row_written a) (rows_written bs), rows_count bs, length-map a.members member_written)

-- by any judge, line n of a text whose first fault is on line n is that of the form, kept row, part, device or instruction whose fault
-- it is
pub fault_line : {judge : LineJudge} (text : List ℕ) {s : Sheet} → meaning text ≡ readable s → {r : Reason} {n : ℕ} → first_fault (first_form_line s) (line_faults judge s) ≡ Refused r n
    → FaultOf judge s (some r) (get_or (lines_of text) (pred n) torn)
fault_line {judge} text {s} e {r} {n} t =
    let f = found (faults_lines judge s (readable-WellFormed text s e)) t in
    subst (FaultOf judge s (some r)) (sym (at-line f.place f.is)) f.fault
  where
    rest : List Line
    rest = forms_written s.forms ++ after_forms s

    size : suc (length (before_forms s)) ≡ first_form_line s
    size = omega (arith, length-append (rows_written s.rows) (line Place.Forms (length s.forms ∷ []) ∷ []), rows_count s.rows)

    at-line : (place : ℕ) → n ≡ first_form_line s + place → get_or (lines_of text) (pred n) torn ≡ get_or rest place torn
    at-line place q =
        let m : pred n ≡ length (before_forms s) + place = omega (arith, size) in
        (λ i. get_or (readable_lines text s e i) (m i) torn) ∙ get_or-append-add (before_forms s) rest place torn

-- and so where typing refuses
pub refused_line : (text : List ℕ) {s : Sheet} → meaning text ≡ readable s → {r : Reason} {n : ℕ} → typing s ≡ Refused r n
    → FaultOf (typed_lines (fit_answer s.rows) s) s (some r) (get_or (lines_of text) (pred n) torn)
unfolding typing
refused_line text e t = fault_line text e t
