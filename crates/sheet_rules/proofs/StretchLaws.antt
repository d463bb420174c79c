-- A form's stretch of a readable text is the print of that form of its sheet, and stands after the print of all before it.
-- Assumes nothing.
use Prim.Native.Nat.{ℕ, zero, suc, ◌+◌, ◌≤◌, ◌<◌}
use native.Mathlib.Omega.{arith}
use native.Mathlib.Decide.{dec_lt}
use mathlib.Core.Path.{◌≡◌, refl, sym, ap, ◌∙◌, subst}
use mathlib.Core.Bool.{Bool, true, false, cond, not}
use mathlib.Core.List.{List, [], ◌∷◌, ◌++◌, map, map-append, append_assoc, flatten}
use lib.ListN.{length, get_or, take, drop, length-append}
use lib.Seq.{take-suc, take-append_seam, drop-append_seam, drop-drop}
use borrow.Author.Tests.{lt-ltb, le-ltb, not-true}
use Rattle.lists.specs.BeforeNth.{before_nth}
use Rattle.lists.proofs.BeforeNthLaws.{nth_here, nth_later, nth_none, nth_map}
use Rattle.lists.proofs.EachLaws.{Each-follows}
use Rattle.lists.proofs.Tests.{and_right, T→true}
use Rattle.sheet_rules.specs.declared.FormLines.{FormLines}
use Rattle.sheet_rules.specs.declared.Refusal.{Refusal}
use Rattle.std.specs.declared.result.Result.{Result}
use Rattle.std.specs.declared.result.Result.TheVariants.{Ok, Err}
use Rattle.sheet_rules.specs.declared.MemberKind.{MemberKind}
use Rattle.sheet_rules.specs.declared.Operation.{Operation}
use Rattle.sheet_rules.specs.declared.Place.{Place}
use Rattle.sheet_rules.specs.declared.Reason.{Reason}
use Rattle.sheet_rules.specs.declared.Reason.TheVariants.{BufferTooShort, TextTooLong, Malformed, OutOfLimit, NotAscending, DuplicateRow, NotDefined, ImpureForm, NoSuchMember, Misfit, NoHolder, CircularCall, BeyondCount, WrongDevice}
use Rattle.sheet_rules.specs.Answers.{number_of, turned_away}
use Rattle.sheet_rules.specs.Keys.{bytes}
use Rattle.sheet_rules.specs.Lines.{Line, line}
use Rattle.sheet_rules.specs.Sheet.{Instr, Form, Sheet, no_form, form_at}
use Rattle.sheet_rules.specs.Reading.{Meaning, readable, unreadable, meaning}
use Rattle.sheet_rules.specs.Print.{instr_written, form_written, forms_written, device_written, devices_written, main_written, before_forms, after_forms, sheet_written, line_bytes, lines_bytes, print}
use Rattle.sheet_rules.specs.Stretch.{text_lines, begins, form_border, form_lines, form_stretch, form_in, form_on, stretch, form_reply, stretch_start, stretch_length, lines_before, lines_after, Shows}
use Rattle.sheet_rules.proofs.PrintLines.{has_key, standing}
use Rattle.sheet_rules.proofs.PrintLaws.{forms_snoc}
use Rattle.sheet_rules.proofs.RoundTrip.{is_border, Inner, before_inner, after_first, form_inner, readable-print}
use Rattle.sheet_rules.proofs.TextLines.{text_lines_lem}

-- a line of a sheet that is a border
abbrev border : Line → Bool
border l = form_border (line_bytes l)

-- THE BORDERS OF A SHEET ARE ITS `form` LINES, `devices` AND `main`

border_key : (k : Place) (n : ℕ) (ns : List ℕ) → border (line k (n ∷ ns)) ≡ is_border k
unfolding line_bytes bytes begins
border_key Place.Types n ns = refl
border_key Place.Row n ns = refl
border_key (Place.Member MemberKind.Method) n ns = refl
border_key (Place.Member MemberKind.Field) n ns = refl
border_key Place.Forms n ns = refl
border_key Place.Form n ns = refl
border_key Place.Keep n ns = refl
border_key Place.Init n ns = refl
border_key Place.Body n ns = refl
border_key Place.Devices n ns = refl
border_key Place.Device n ns = refl
border_key Place.Main n ns = refl
border_key (Place.Instruction Operation.New) n ns = refl
border_key (Place.Instruction Operation.Call) n ns = refl
border_key (Place.Instruction Operation.Get) n ns = refl
border_key (Place.Instruction Operation.Put) n ns = refl
border_key (Place.Instruction Operation.Copy) n ns = refl
border_key Place.Nowhere n ns = refl

Inner-border : (l : Line) → Inner l → border l ≡ false
Inner-border (line k (n ∷ ns)) (standing t) =
    border_key k n ns ∙ not-true (is_border k) (T→true (not (is_border k)) (and_right (has_key k) (not (is_border k)) t))
Inner-border (line k []) x3 = elim x3 [ ]
Inner-border Rattle.sheet_rules.specs.Lines.torn x'' = elim x'' [ ]

form_border_lem : (f : Form) → border (line Place.Form (f.row ∷ length f.keeps ∷ [])) ≡ true
form_border_lem f = border_key Place.Form f.row (length f.keeps ∷ [])

-- BEFORE A BORDER

-- before the n-th border of some forms, and of the border at which they end
forms_before : (n : ℕ) (fs : List Form) → n ≤ length fs → (l : Line) (ls : List Line) → border l ≡ true
    → before_nth border n (forms_written fs ++ (l ∷ ls)) ≡ forms_written (take n fs)
unfolding forms_written
forms_before zero [] h l ls e = nth_here border ls e
forms_before zero (f ∷ fs) h l ls e = nth_here border ((after_first f ++ forms_written fs) ++ (l ∷ ls)) (form_border_lem f)
forms_before (suc n) [] h l ls e = absurd (omega arith)
forms_before (suc n) (f ∷ fs) h l ls e =
    nth_later border n ((after_first f ++ forms_written fs) ++ (l ∷ ls)) (form_border_lem f)
    ∙ ap (λ (zs : List Line). line Place.Form (f.row ∷ length f.keeps ∷ []) ∷ zs)
    (ap (before_nth border n) (append_assoc (after_first f) (forms_written fs) (l ∷ ls))
    ∙ nth_none border n (Each-follows Inner-border (form_inner f)) (forms_written fs ++ (l ∷ ls))
    ∙ ap (λ (zs : List Line). after_first f ++ zs) (forms_before n fs (omega arith) l ls e))

-- what stands after the forms begins with a border
after_before : (forms : List Form) (devices : List ℕ) (main : List Instr) (n : ℕ) → n ≤ length forms
    → before_nth border n (forms_written forms ++ (devices_written devices ++ main_written main)) ≡ forms_written (take n forms)
unfolding devices_written
after_before forms [] main n h = forms_before n forms h (line Place.Main (length main ∷ [])) (map instr_written main) (border_key Place.Main (length main) [])
after_before forms (f ∷ fs) main n h =
    forms_before n forms h (line Place.Devices (suc (length fs) ∷ [])) (map device_written (f ∷ fs) ++ main_written main) (border_key Place.Devices (suc (length fs)) [])

sheet_before : (s : Sheet) (n : ℕ) → n ≤ length s.forms
    → before_nth border n (sheet_written s) ≡ before_forms s ++ forms_written (take n s.forms)
sheet_before s n h =
    nth_none border n (Each-follows Inner-border (before_inner s)) (forms_written s.forms ++ after_forms s)
    ∙ ap (λ (zs : List Line). before_forms s ++ zs)
    (after_before s.forms s.devices s.main n h)

-- REFUSED

-- no refusal has the number 0
pub number_some : (r : Reason) → 1 ≤ number_of r
number_some BufferTooShort = omega arith
number_some TextTooLong = omega arith
number_some Malformed = omega arith
number_some OutOfLimit = omega arith
number_some NotAscending = omega arith
number_some DuplicateRow = omega arith
number_some NotDefined = omega arith
number_some ImpureForm = omega arith
number_some NoSuchMember = omega arith
number_some (Misfit l) = omega arith
number_some NoHolder = omega arith
number_some CircularCall = omega arith
number_some BeyondCount = omega arith
number_some WrongDevice = omega arith

-- in a sheet: the form is there, or not
module _ (text : List ℕ) (s : Sheet) (f : ℕ) where
  pub there_in : f < length s.forms → form_in text s f ≡ form_stretch f (text_lines text)
  there_in h = ap (λ (b : Bool). cond b (form_stretch f (text_lines text)) (turned_away NotDefined 0)) (lt-ltb f (length s.forms) h)

  pub missing_in : length s.forms ≤ f → form_in text s f ≡ turned_away NotDefined 0
  missing_in h = ap (λ (b : Bool). cond b (form_stretch f (text_lines text)) (turned_away NotDefined 0)) (le-ltb f (length s.forms) h)

module _ (text : List ℕ) (f : ℕ) where
  pub refused_read : {r : Reason} {n : ℕ} → meaning text ≡ unreadable r n → form_reply text f ≡ turned_away r n
  unfolding form_reply
  refused_read e = ap (λ (m : Meaning). form_on text m f) e

  pub missing_form : {s : Sheet} → meaning text ≡ readable s → length s.forms ≤ f → form_reply text f ≡ turned_away NotDefined 0
  unfolding form_reply
  missing_form {s} e h = ap (λ (m : Meaning). form_on text m f) e ∙ missing_in text s f h

-- THE STRETCH

forms_split : (f : ℕ) (fs : List Form) → f < length fs
    → forms_written fs ≡ forms_written (take f fs) ++ (form_written (get_or fs f no_form) ++ forms_written (drop (suc f) fs))
unfolding forms_written
forms_split f [] h = absurd (omega arith)
forms_split zero (g ∷ gs) h = refl
forms_split (suc f) (g ∷ gs) h =
    ap (λ (zs : List Line). form_written g ++ zs) (forms_split f gs (omega arith))
    ∙ sym (append_assoc (form_written g) (forms_written (take f gs)) (form_written (get_or gs f no_form) ++ forms_written (drop (suc f) gs)))

lines_both : (ls ms : List Line) → lines_bytes (ls ++ ms) ≡ lines_bytes ls ++ lines_bytes ms
unfolding flatten
lines_both [] ms = refl
lines_both (l ∷ ls) ms =
    ap (λ (zs : List ℕ). line_bytes l ++ zs) (lines_both ls ms)
    ∙ sym (append_assoc (line_bytes l) (lines_bytes ls) (lines_bytes ms))

module _ (text : List ℕ) (s : Sheet) (e : meaning text ≡ readable s) where
  -- the lines before border n, and their bytes
  text_before : (n : ℕ) → n ≤ length s.forms → before_nth form_border n (text_lines text) ≡ map line_bytes (lines_before s n)
  text_before n h =
      ap (before_nth form_border n) (text_lines_lem text s e)
      ∙ nth_map form_border line_bytes n (sheet_written s)
      ∙ ap (map line_bytes) (sheet_before s n h)

  module _ (f : ℕ) (h : f < length s.forms) where
    before_suc : lines_before s (suc f) ≡ lines_before s f ++ form_written (form_at s f)
    before_suc =
        ap (λ (zs : List Line). before_forms s ++ zs) (ap forms_written (take-suc s.forms f no_form h) ∙ forms_snoc (take f s.forms) (form_at s f))
        ∙ sym (append_assoc (before_forms s) (forms_written (take f s.forms)) (form_written (form_at s f)))

    text_own : form_lines f (text_lines text) ≡ map line_bytes (form_written (form_at s f))
    text_own =
        (λ i. drop (length (text_before f (omega arith) i)) (text_before (suc f) h i))
        ∙ ap (drop (length (map line_bytes (lines_before s f)))) (ap (map line_bytes) before_suc ∙ map-append line_bytes (lines_before s f) (form_written (form_at s f)))
        ∙ drop-append_seam (map line_bytes (lines_before s f)) (map line_bytes (form_written (form_at s f)))

    text_parts : text ≡ lines_bytes (lines_before s f) ++ (lines_bytes (form_written (form_at s f)) ++ lines_bytes (lines_after s f))
    unfolding print
    text_parts =
        readable-print text s e
        ∙ ap lines_bytes
        (ap (λ (zs : List Line). before_forms s ++ (zs ++ after_forms s)) (forms_split f s.forms h)
        ∙ ap (λ (zs : List Line). before_forms s ++ zs)
        (append_assoc (forms_written (take f s.forms)) (form_written (form_at s f) ++ forms_written (drop (suc f) s.forms)) (after_forms s)
        ∙ ap (λ (zs : List Line). forms_written (take f s.forms) ++ zs) (append_assoc (form_written (form_at s f)) (forms_written (drop (suc f) s.forms)) (after_forms s)))
        ∙ sym (append_assoc (before_forms s) (forms_written (take f s.forms)) (form_written (form_at s f) ++ lines_after s f)))
        ∙ lines_both (lines_before s f) (form_written (form_at s f) ++ lines_after s f)
        ∙ ap (λ (zs : List ℕ). lines_bytes (lines_before s f) ++ zs) (lines_both (form_written (form_at s f)) (lines_after s f))

    -- a form that is there is given
    pub form_given : form_reply text f ≡ Ok (stretch (length (lines_bytes (lines_before s f))) (length (lines_bytes (form_written (form_at s f)))))
    unfolding form_reply
    form_given =
        ap (λ (m : Meaning). form_on text m f) e ∙ there_in text s f h
        ∙ (λ i. Ok (stretch (length (flatten (text_before f (omega arith) i))) (length (flatten (text_own i)))))

    shown : Shows text f (length (lines_bytes (lines_before s f))) (length (lines_bytes (form_written (form_at s f))))
    shown =
        let front : List ℕ = lines_bytes (lines_before s f) in
        let own : List ℕ = lines_bytes (form_written (form_at s f)) in
        let rest : List ℕ = lines_bytes (lines_after s f) in
        record {
          sheet = s;
          means = e;
          there = h;
          before = ap (take (length front)) text_parts ∙ take-append_seam front (own ++ rest);
          own =
              ap (λ (bs : List ℕ). take (length own) (drop (length front) bs)) text_parts
              ∙ ap (take (length own)) (drop-append_seam front (own ++ rest)) ∙ take-append_seam own rest;
          after =
              ap (drop (length front + length own)) text_parts ∙ sym (drop-drop (length own) (length front) (front ++ (own ++ rest)))
              ∙ ap (drop (length own)) (drop-append_seam front (own ++ rest)) ∙ drop-append_seam own rest;
        }

-- and is a part of the text
shown_within : (text : List ℕ) {s : Sheet} → meaning text ≡ readable s → (f : ℕ) → f < length s.forms
    → length (lines_bytes (lines_before s f)) + length (lines_bytes (form_written (form_at s f))) ≤ length text
shown_within text {s} e f h =
    let own : List ℕ = lines_bytes (form_written (form_at s f)) in
    let rest : List ℕ = lines_bytes (lines_after s f) in
    omega (arith, ap length (text_parts text s e f h), length-append (lines_bytes (lines_before s f)) (own ++ rest), length-append own rest)

-- what is answered: a part of the text that shows the form, or a refusal
data Answered (text : List ℕ) (f : ℕ) : Result FormLines Refusal → Type 0 where
  given : {p : FormLines} → Shows text f p.start p.length → p.start + p.length ≤ length text → Answered text f (Ok p)
  refused : {e : Refusal} → Answered text f (Err e)

answered : (text : List ℕ) (f : ℕ) → Answered text f (form_reply text f)
answered text f = go (meaning text) refl
  where
    go : (m : Meaning) → meaning text ≡ m → Answered text f (form_reply text f)
    go (unreadable r n) e = subst (Answered text f) (sym (refused_read text f e)) refused
    go (readable s) e = there (dec_lt f (length s.forms))
      where
        there : Dec (f < length s.forms) → Answered text f (form_reply text f)
        there (yes h) = subst (Answered text f) (sym (form_given text s e f h)) (given (shown text s e f h) (shown_within text e f h))
        there (no h) = subst (Answered text f) (sym (missing_form text f e (omega (arith, h)))) refused

-- whatever the text and the number, what is given shows that form of the sheet that the text means
pub form_shown : (text : List ℕ) (f : ℕ) {start size : ℕ} → form_reply text f ≡ Ok (stretch start size) → Shows text f start size
form_shown text f e = go (subst (Answered text f) e (answered text f))
  where
    go : {p : FormLines} → Answered text f (Ok p) → Shows text f p.start p.length
    go (given x _) = x

-- and is a part of the text
pub given_within : (text : List ℕ) (f : ℕ) → stretch_start (form_reply text f) + stretch_length (form_reply text f) ≤ length text
given_within text f = go (answered text f)
  where
    go : {r : Result FormLines Refusal} → Answered text f r → stretch_start r + stretch_length r ≤ length text
    go refused = omega arith
    go (given x within) = within
