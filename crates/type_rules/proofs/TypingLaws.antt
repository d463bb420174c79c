-- An accepted sheet is well typed: no line is at fault, so each line's rule holds. Assumes nothing.
use Prim.Native.Nat.{ℕ, suc, pred, ◌<◌}
use native.Mathlib.Omega.{arith}
use mathlib.Core.Path.{◌≡◌, refl, sym, ap, ◌∙◌, subst}
use mathlib.Core.Bool.{Bool, true, false, not, ◌&&◌}
use mathlib.Core.List.{List, [], ◌∷◌, ◌++◌, map}
use mathlib.Core.Option.{Option, none, some}
use lib.Dec.{T, T_not, eqb, eqb→eq, ltb, ltb→lt}
use lib.ListN.{length, get_or, length-append, length-map, drop_of_length-le}
use lib.Seq.{get_or_at}
use Rattle.lists.specs.In.{In, here, there}
use Rattle.lists.specs.Pairwise.{Pairwise, pair}
use Rattle.lists.proofs.InLaws.{In-left, In-right}
use Rattle.lists.proofs.Tests.{and_left, and_right, and_intro, clash}
use Rattle.sheet_rules.specs.declared.FitAnswer.{FitAnswer}
use Rattle.sheet_rules.specs.declared.FitAnswer.TheVariants.{Yes, WrongKind, Unmet}
use Rattle.sheet_rules.specs.declared.Lack.{Lack}
use Rattle.sheet_rules.specs.declared.Member.{Member}
use Rattle.sheet_rules.specs.declared.Member.TheVariants.{Method, Field}
use Rattle.sheet_rules.specs.declared.Reason.{Reason}
use Rattle.sheet_rules.specs.declared.Reason.TheVariants.{ImpureForm, Misfit, WrongDevice}
use Rattle.sheet_rules.specs.declared.Verdict.TheVariants.{Accepted}
use Rattle.sheet_rules.specs.Answers.{is_yes}
use Rattle.sheet_rules.specs.Sheet.{Row, Instr, new, call, get, put, copy, Part, init, body, Form, Sheet, row_at, form_at, row_of_form}
use Rattle.sheet_rules.specs.FormLines.{all_below, names_exist}
use Rattle.sheet_rules.specs.WellFormed.{Scoped, WellFormedBody, PartOf, WellFormedForm, WellFormed}
use Rattle.sheet_rules.proofs.FormLinesLaws.{first_below, others_below}
use Rattle.type_rules.specs.Fit.{fit_answer, fits}
use Rattle.type_rules.specs.SlotRows.{Signature, method_in, members_at, Own, own_field, result_of, row_or0, slot_row, slot_rows, last_row, body_rows, main_rows}
use Rattle.type_rules.specs.Typing.{Fault, unless, first_of, fit_fault, slots_fault, call_fault, get_fault, put_fault, instr_fault, result_fault, is_pure, has_field, keep_fault, device_fault, LineJudge, code_faults, part_faults, parts_faults, keep_faults, form_faults, forms_faults, devices_faults, main_faults, line_faults, typed_instr, typed_lines, first_fault, first_form_line, typing}
use Rattle.type_rules.specs.Typed.{SlotFits, InstrTyped, typed_new, typed_call, typed_get, typed_put, typed_copy, ResultFits, undeclared, declared, CodeTyped, end, next, PartTyped, typed_init, typed_body, FormTyped, DeviceTyped, Typed}

-- lines without a fault
abbrev pub Faultless : List Fault → Type 0
Faultless gs = (g : Fault) → In g gs → g ≡ none

pub first_fault-Faultless : (n : ℕ) (gs : List Fault) → first_fault n gs ≡ Accepted → Faultless gs
unfolding first_fault
first_fault-Faultless n [] e g i = elim i [ ]
first_fault-Faultless n (none ∷ gs) e g (here p) = p
first_fault-Faultless n (none ∷ gs) e g (there i) = first_fault-Faultless (suc n) gs e g i
first_fault-Faultless n (some r ∷ gs) e g i = clash (cc)

pub unless_passed : (b : Bool) (r : Reason) → unless b r ≡ none → T b
unless_passed true r e = tt
unless_passed false r e = clash (cc)

first_of-none : (f g : Fault) → first_of f g ≡ none → (f ≡ none) × (g ≡ none)
first_of-none none g e = (refl, e)
first_of-none (some r) g e = clash (cc)

pub last_row_snoc : (rows : List ℕ) (a : ℕ) → last_row (rows ++ (a ∷ [])) ≡ a
last_row_snoc rows a = get_or_at rows a [] 0 (pred (length (rows ++ (a ∷ [])))) (rw length-append (omega arith))

answer_passed : (x : FitAnswer) → fit_fault x ≡ none → T (is_yes x)
answer_passed Yes e = tt
answer_passed WrongKind e = clash (cc)
answer_passed (Unmet n) e = clash (cc)

-- on the last line the last of all slots is the one that its instruction fills
pub result_row : (fit : ℕ → ℕ → FitAnswer) (s : Sheet) (own : Own) (result : Option ℕ) (rows : List ℕ) (i : Instr) (is : List Instr)
    → result_fault fit result (last_row (slot_rows s own rows (i ∷ is))) is ≡ result_fault fit result (slot_row s own rows i) is
unfolding slot_rows
result_row fit s own none rows i is = refl
result_row fit s own (some r) rows i [] = ap (λ (a : ℕ). fit_fault (fit a r)) (last_row_snoc rows (slot_row s own rows i))
result_row fit s own (some r) rows i (j ∷ is) = refl

module _ (s : Sheet) where
  -- typing's judge of the sheet's lines
  abbrev of_typing : LineJudge
  of_typing = typed_lines (fit_answer s.rows) s

  -- INSTRUCTIONS

  fit_passed : (a b : ℕ) → fit_fault (fit_answer s.rows a b) ≡ none → T (fits s.rows a b)
  unfolding fits
  fit_passed a b e = answer_passed (fit_answer s.rows a b) e

  slots_fit : (rows ss bs : List ℕ) → T (all_below (length rows) ss) → length ss ≡ length bs → slots_fault (fit_answer s.rows) rows ss bs ≡ none
      → Pairwise (SlotFits s rows) ss bs
  unfolding all_below slots_fault
  slots_fit rows [] [] t n e = Pairwise.none
  slots_fit rows [] (b ∷ bs) t n e = absurd (omega arith)
  slots_fit rows (v ∷ ss) [] t n e = absurd (omega arith)
  slots_fit rows (v ∷ ss) (b ∷ bs) t n e =
      let p = first_of-none (fit_fault (fit_answer s.rows (get_or rows v 0) b)) (slots_fault (fit_answer s.rows) rows ss bs) e in
      pair (record { filled = first_below ss t; fit = fit_passed (get_or rows v 0) b p.0 })
      (slots_fit rows ss bs (others_below (length rows) v ss t) (omega arith) p.1)

  instr_typed : (own : Own) (rows : List ℕ) (i : Instr) → T (names_exist (length s.forms) (length rows) i)
      → instr_fault (fit_answer s.rows) s own rows i ≡ none → InstrTyped s own rows i (slot_row s own rows i)
  instr_typed own rows (new f ss) t e =
      typed_new (ltb→lt f (length s.forms) (and_left (ltb f (length s.forms)) (all_below (length rows) ss) t))
      (slots_fit rows ss keeps (and_right (ltb f (length s.forms)) (all_below (length rows) ss) t)
      (eqb→eq (length ss) (length keeps) (unless_passed (eqb (length ss) (length keeps)) (Misfit Lack.Count) p.0)) p.1)
    where
      keeps : List ℕ
      keeps = (form_at s f).keeps

      p : (unless (eqb (length ss) (length keeps)) (Misfit Lack.Count) ≡ none) × (slots_fault (fit_answer s.rows) rows ss keeps ≡ none)
      p = first_of-none (unless (eqb (length ss) (length keeps)) (Misfit Lack.Count)) (slots_fault (fit_answer s.rows) rows ss keeps) e
  instr_typed own rows (call o n a) t e = go (method_in (members_at s (get_or rows o 0)) n) refl e
    where
      go : (m : Option Signature) → method_in (members_at s (get_or rows o 0)) n ≡ m → call_fault (fit_answer s.rows) m (get_or rows a 0) ≡ none
          → InstrTyped s own rows (call o n a) (result_of m)
      go none p e = clash (cc)
      go (some m) p e =
          typed_call (first_below (a ∷ []) t) p (record { filled = first_below [] (others_below (length rows) o (a ∷ []) t); fit = fit_passed (get_or rows a 0) m.argument e })
  instr_typed own rows (get n) t e = go (own_field s own n) refl e
    where
      go : (r : Option ℕ) → own_field s own n ≡ r → get_fault r ≡ none → InstrTyped s own rows (get n) (row_or0 r)
      go none p e = clash (cc)
      go (some r) p e = typed_get p
  instr_typed own rows (put n v) t e = go (own_field s own n) refl e
    where
      go : (r : Option ℕ) → own_field s own n ≡ r → put_fault (fit_answer s.rows) r (get_or rows v 0) ≡ none → InstrTyped s own rows (put n v) (row_or0 r)
      go none p e = clash (cc)
      go (some r) p e = typed_put p (record { filled = first_below [] t; fit = fit_passed (get_or rows v 0) r e })
  instr_typed own rows (copy v) t e = typed_copy (first_below [] t)

  -- BODIES

  result_fits : (result : Option ℕ) (a : ℕ) → result_fault (fit_answer s.rows) result a [] ≡ none → ResultFits s a result
  result_fits none a e = undeclared
  result_fits (some r) a e = declared (fit_passed a r e)

  -- the first line of some instructions passed, with its result if it is the last
  first_typed : (own : Own) (result : Option ℕ) (rows : List ℕ) (i : Instr) (is : List Instr) → T (names_exist (length s.forms) (length rows) i)
      → typed_instr (fit_answer s.rows) s own result rows i is ≡ none
      → InstrTyped s own rows i (slot_row s own rows i) × (result_fault (fit_answer s.rows) result (slot_row s own rows i) is ≡ none)
  first_typed own result rows i is t e =
      let p = first_of-none (instr_fault (fit_answer s.rows) s own rows i) (result_fault (fit_answer s.rows) result (last_row (slot_rows s own rows (i ∷ is))) is) e in
      (instr_typed own rows i t p.0, sym (result_row (fit_answer s.rows) s own result rows i is) ∙ p.1)

  code_typed : (own : Own) (result : Option ℕ) (rows : List ℕ) (i : Instr) (is : List Instr) → Scoped (length s.forms) (length rows) (i ∷ is)
      → Faultless (code_faults (typed_instr (fit_answer s.rows) s own result) s own rows (i ∷ is)) → CodeTyped s own result rows (i ∷ is)
  unfolding code_faults
  code_typed own result rows i [] (Scoped.next t r) h =
      let p = first_typed own result rows i [] t.exist (h _ (here refl)) in
      let a : ℕ = slot_row s own rows i in
      let some-slot : 0 < length (rows ++ (a ∷ [])) = rw length-append (omega arith) in
      next p.0
      (end some-slot (subst (λ (b : ℕ). ResultFits s b result) (sym (last_row_snoc rows a)) (result_fits result a p.1)))
  code_typed own result rows i (j ∷ is) (Scoped.next t r) h =
      let p = first_typed own result rows i (j ∷ is) t.exist (h _ (here refl)) in
      let a : ℕ = slot_row s own rows i in
      let e : suc (length rows) ≡ length (rows ++ (a ∷ [])) = rw length-append (omega arith) in
      next p.0
      (code_typed own result (rows ++ (a ∷ [])) j is (subst (λ (k : ℕ). Scoped (length s.forms) k (j ∷ is)) e r) (λ g k. h g (there k)))

  body_typed : (own : Own) (result : Option ℕ) (rows : List ℕ) (is : List Instr) → WellFormedBody (length s.forms) (length rows) is
      → Faultless (code_faults (typed_instr (fit_answer s.rows) s own result) s own rows is) → CodeTyped s own result rows is
  body_typed own result rows [] w h = absurd (omega (arith, w.some))
  body_typed own result rows (i ∷ is) w h = code_typed own result rows i is w.scoped h

  -- FORMS

  part_typed : (n : ℕ) (f : Form) (m : Member) (p : Part) → PartOf (length s.forms) (length f.keeps) m p → Faultless (part_faults of_typing s n f m p) → PartTyped s f m p
  part_typed n f (Field m r) (init k) (PartOf.field b) h =
      typed_init (record { filled = b; fit = fit_passed (get_or f.keeps k 0) r (h _ (here refl)) })
  part_typed n f (Method m a r) (body is) (PartOf.method w) h =
      typed_body (body_typed (some f.row) (some r) (body_rows f a) is w (λ g i. h g (there i)))
  part_typed n f (Method m a r) (init k) x4 h = elim x4 [ ]
  part_typed n f (Field m r) (body is) x5 h = elim x5 [ ]

  parts_typed : (n : ℕ) (f : Form) (ms : List Member) (ps : List Part) → Pairwise (PartOf (length s.forms) (length f.keeps)) ms ps
      → Faultless (parts_faults of_typing s n f ms ps) → Pairwise (PartTyped s f) ms ps
  unfolding parts_faults
  parts_typed n f [] [] Pairwise.none h = Pairwise.none
  parts_typed n f (m ∷ ms) (p ∷ ps) (pair o r) h =
      pair (part_typed n f m p o (λ g i. h g (In-left (part_faults of_typing s n f m p) (parts_faults of_typing s n f ms ps) i)))
      (parts_typed n f ms ps r (λ g i. h g (In-right (part_faults of_typing s n f m p) (parts_faults of_typing s n f ms ps) i)))
  parts_typed n f [] (p ∷ ps) x4 h = elim x4 [ ]
  parts_typed n f (m ∷ ms) [] x4 h = elim x4 [ ]

  -- a test of the form `not (pure and b)` that passed: where pure is asked, b fails
  pure_not : (a b : Bool) → T (not (a && b)) → T a → T b → ⊥
  pure_not a b t u v = T_not (a && b) t (and_intro a b u v)

  keeps_pure : (a : Row) (ks : List ℕ) → Faultless (map (keep_fault s a) ks) → T (is_pure a.kind) → (k : ℕ) → In k ks → T (is_pure (row_at s.rows k).kind)
  keeps_pure a [] h t k i = elim i [ ]
  keeps_pure a (x ∷ ks) h t k (here e) =
      subst (λ (y : ℕ). T (is_pure (row_at s.rows y).kind)) (sym e)
      (kept pure (unless_passed (not (is_pure a.kind && not pure)) ImpureForm (h _ (here refl))))
    where
      pure : Bool
      pure = is_pure (row_at s.rows x).kind

      kept : (b : Bool) → T (not (is_pure a.kind && not b)) → T b
      kept true u = tt
      kept false u = pure_not (is_pure a.kind) true u t tt
  keeps_pure a (x ∷ ks) h t k (there i) = keeps_pure a ks (λ g j. h g (there j)) t k i

  form_typed : (n : ℕ) (f : Form) → WellFormedForm s.rows (length s.forms) f → Faultless (form_faults of_typing s n f) → FormTyped s f
  form_typed n f w h =
      record {
        pure = λ t. record {
          no_field = pure_not (is_pure a.kind) (has_field a.members) (unless_passed (not (is_pure a.kind && has_field a.members)) ImpureForm (h _ (here refl))) t;
          pure_keeps = keeps_pure a f.keeps (λ g i. h g (there (In-left keep_lines part_lines i))) t;
        };
        parts = parts_typed n f a.members f.parts w.parts (λ g i. h g (there (In-right keep_lines part_lines i)));
      }
    where
      a : Row
      a = row_at s.rows f.row

      keep_lines : List Fault
      keep_lines = keep_faults of_typing n f

      part_lines : List Fault
      part_lines = parts_faults of_typing s n f a.members f.parts

  forms_typed : (n : ℕ) (fs : List Form) → ((f : Form) → In f fs → WellFormedForm s.rows (length s.forms) f)
      → Faultless (forms_faults of_typing s n fs) → (f : Form) → In f fs → FormTyped s f
  unfolding forms_faults
  forms_typed n [] w h f i = elim i [ ]
  forms_typed n (g ∷ fs) w h f (here e) =
      subst (FormTyped s) (sym e)
      (form_typed n g (w g (here refl)) (λ x i. h x (In-left (form_faults of_typing s n g) (forms_faults of_typing s (suc n) fs) i)))
  forms_typed n (g ∷ fs) w h f (there j) =
      forms_typed (suc n) fs (λ x i. w x (there i)) (λ x i. h x (In-right (form_faults of_typing s n g) (forms_faults of_typing s (suc n) fs) i)) f j

  -- DEVICES

  device_typed : (f : ℕ) → device_fault s f ≡ none → DeviceTyped s f
  device_typed f e =
      let t = unless_passed (bare && not pure) WrongDevice e in
      record {
        resource = T_not pure (and_right bare (not pure) t);
        keeps_none = drop_of_length-le (form_at s f).keeps {i = 0} (omega (arith, eqb→eq (length (form_at s f).keeps) 0 (and_left bare (not pure) t)));
      }
    where
      bare : Bool
      bare = eqb (length (form_at s f).keeps) 0

      pure : Bool
      pure = is_pure (row_of_form s f).kind

  each_typed : (fs : List ℕ) → Faultless (map (device_fault s) fs) → (f : ℕ) → In f fs → DeviceTyped s f
  each_typed [] h f i = elim i [ ]
  each_typed (g ∷ fs) h f (here e) = subst (DeviceTyped s) (sym e) (device_typed g (h _ (here refl)))
  each_typed (g ∷ fs) h f (there i) = each_typed fs (λ x j. h x (there j)) f i

  devices_typed : (fs : List ℕ) → Faultless (devices_faults of_typing fs) → (f : ℕ) → In f fs → DeviceTyped s f
  unfolding devices_faults
  devices_typed [] h f i = elim i [ ]
  devices_typed (g ∷ fs) h f i = each_typed (g ∷ fs) (λ x j. h x (there j)) f i

  -- a readable sheet that the verdict accepts is well typed
  pub accepted_typed : WellFormed s → typing s ≡ Accepted → Typed s
  unfolding typing line_faults
  accepted_typed w e =
      record {
        forms = forms_typed 0 s.forms w.forms (λ g j. all g (In-left form_lines (device_lines ++ main_lines) j));
        devices = devices_typed s.devices (λ g j. all g (In-right form_lines (device_lines ++ main_lines) (In-left device_lines main_lines j)));
        main =
            body_typed none none (main_rows s) s.main
            (subst (λ (k : ℕ). WellFormedBody (length s.forms) k s.main) (sym (length-map s.devices (λ f. (form_at s f).row))) w.main)
            (λ g j. all g (In-right form_lines (device_lines ++ main_lines) (In-right device_lines main_lines (there j))));
      }
    where
      form_lines : List Fault
      form_lines = forms_faults of_typing s 0 s.forms

      device_lines : List Fault
      device_lines = devices_faults of_typing s.devices

      main_lines : List Fault
      main_lines = main_faults of_typing s

      all : Faultless (line_faults of_typing s)
      all = first_fault-Faultless (first_form_line s) (line_faults of_typing s) e
