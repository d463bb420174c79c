-- A well-typed sheet is accepted: each line's rule holds, so no line is at fault. With TypingLaws, the verdict accepts exactly the
-- well-typed sheets. Assumes nothing.
use Prim.Native.Nat.{ℕ, suc}
use mathlib.Core.Path.{◌≡◌, refl, sym, ap, ◌∙◌, subst}
use mathlib.Core.Bool.{Bool, true, false, not, ◌&&◌}
use mathlib.Core.List.{List, [], ◌∷◌, ◌++◌, map}
use mathlib.Core.Option.{Option, none, some}
use mathlib.Core.Logic.{◌⊎◌, inl, inr, ◌↔◌}
use lib.Dec.{T, eqb}
use lib.ListN.{length, get_or}
use borrow.Author.Tests.{eq-eqb}
use Rattle.lists.specs.In.{In, here, there}
use Rattle.lists.specs.Pairwise.{Pairwise, pair}
use Rattle.lists.proofs.InLaws.{In-nil, In-cases}
use Rattle.lists.proofs.PairwiseLaws.{Pairwise-length}
use Rattle.lists.proofs.Tests.{and_intro, T→true}
use Rattle.sheet_rules.specs.declared.FitAnswer.{FitAnswer}
use Rattle.sheet_rules.specs.declared.FitAnswer.TheVariants.{Yes, WrongKind, Unmet}
use Rattle.sheet_rules.specs.declared.Lack.{Lack}
use Rattle.sheet_rules.specs.declared.Member.{Member}
use Rattle.sheet_rules.specs.declared.Reason.{Reason}
use Rattle.sheet_rules.specs.declared.Reason.TheVariants.{ImpureForm, Misfit, WrongDevice}
use Rattle.sheet_rules.specs.declared.Verdict.TheVariants.{Accepted}
use Rattle.sheet_rules.specs.Answers.{is_yes}
use Rattle.sheet_rules.specs.Sheet.{Row, Instr, Part, Form, Sheet, row_at, form_at, row_of_form}
use Rattle.sheet_rules.specs.Reading.{readable, meaning}
use Rattle.sheet_rules.specs.WellFormed.{WellFormed}
use Rattle.sheet_rules.proofs.ReadingLaws.{readable-WellFormed}
use Rattle.type_rules.specs.Fit.{fit_answer, fits}
use Rattle.type_rules.specs.SlotRows.{Own, result_of, row_or0, slot_row, slot_rows, last_row}
use Rattle.type_rules.specs.Typing.{Fault, unless, first_of, fit_fault, slots_fault, new_fault, call_fault, get_fault, put_fault, instr_fault, result_fault, is_pure, has_field, keep_fault, device_fault, LineJudge, code_faults, part_faults, parts_faults, keep_faults, form_faults, forms_faults, devices_faults, main_faults, line_faults, typed_instr, typed_lines, first_fault, first_form_line, typing, verdict_on, verdict}
use Rattle.type_rules.specs.Typed.{SlotFits, InstrTyped, typed_new, typed_call, typed_get, typed_put, typed_copy, ResultFits, undeclared, declared, CodeTyped, end, next, PartTyped, typed_init, typed_body, FormTyped, DeviceTyped, Typed}
use Rattle.type_rules.proofs.TypingLaws.{Faultless, last_row_snoc, result_row, accepted_typed}

-- LINES

pub Faultless-cons : {g : Fault} {gs : List Fault} → g ≡ none → Faultless gs → Faultless (g ∷ gs)
Faultless-cons e h x (here p) = p ∙ e
Faultless-cons e h x (there i) = h x i

pub Faultless-append : (gs ks : List Fault) → Faultless gs → Faultless ks → Faultless (gs ++ ks)
Faultless-append gs ks h k x i = go (In-cases gs ks i)
  where
    go : In x gs ⊎ In x ks → x ≡ none
    go (inl j) = h x j
    go (inr j) = k x j

pub first_fault_accepts : (n : ℕ) (gs : List Fault) → Faultless gs → first_fault n gs ≡ Accepted
unfolding first_fault
first_fault_accepts n [] h = refl
first_fault_accepts n (g ∷ gs) h = go g (h g (here refl)) (first_fault_accepts (suc n) gs (λ x i. h x (there i)))
  where
    go : (g : Fault) → g ≡ none → first_fault (suc n) gs ≡ Accepted → first_fault n (g ∷ gs) ≡ Accepted
    go none e r = r
    go (some r) e q = cc

pub passed : (b : Bool) (r : Reason) → T b → unless b r ≡ none
passed b r t = ap (λ (x : Bool). unless x r) (T→true b t)

answer_passes : (x : FitAnswer) → T (is_yes x) → fit_fault x ≡ none
answer_passes Yes t = refl
answer_passes WrongKind t = absurd t
answer_passes (Unmet n) t = absurd t

module _ (s : Sheet) where
  -- typing's judge of the sheet's lines
  abbrev of_typing : LineJudge
  of_typing = typed_lines (fit_answer s.rows) s

  fit_passes : (a b : ℕ) → T (fits s.rows a b) → fit_fault (fit_answer s.rows a b) ≡ none
  unfolding fits
  fit_passes a b t = answer_passes (fit_answer s.rows a b) t

  slots_faultless : {rows ss bs : List ℕ} → Pairwise (SlotFits s rows) ss bs → slots_fault (fit_answer s.rows) rows ss bs ≡ none
  unfolding slots_fault
  slots_faultless Pairwise.none = refl
  slots_faultless {rows} (pair {x = v} {y = b} {xs = ss} {ys = bs} f p) =
      ap (λ (x : Fault). first_of x (slots_fault (fit_answer s.rows) rows ss bs)) (fit_passes (get_or rows v 0) b f.fit) ∙ slots_faultless p

  new_faultless : (rows ss bs : List ℕ) → Pairwise (SlotFits s rows) ss bs → new_fault (fit_answer s.rows) rows ss bs ≡ none
  new_faultless rows ss bs p =
      ap (λ (x : Fault). first_of x (slots_fault (fit_answer s.rows) rows ss bs))
      (ap (λ (t : Bool). unless t (Misfit Lack.Count)) (eq-eqb (length ss) (length bs) (Pairwise-length p)))
      ∙ slots_faultless p

  -- a well-typed instruction has no fault, and its slot has the row that the rule gives
  instr_faultless : {own : Own} {rows : List ℕ} {i : Instr} {a : ℕ} → InstrTyped s own rows i a
      → (instr_fault (fit_answer s.rows) s own rows i ≡ none) × (slot_row s own rows i ≡ a)
  instr_faultless {rows = rows} (typed_new {f = f} {ss = ss} h p) = (new_faultless rows ss (form_at s f).keeps p, refl)
  instr_faultless {rows = rows} (typed_call {a = a} {m = m} h e f) = (
    ap (λ x. call_fault (fit_answer s.rows) x (get_or rows a 0)) e ∙ fit_passes (get_or rows a 0) m.argument f.fit,
    ap result_of e,
  )
  instr_faultless (typed_get e) = (ap get_fault e, ap row_or0 e)
  instr_faultless {rows = rows} (typed_put {v = v} {r = r} e f) = (
    ap (λ x. put_fault (fit_answer s.rows) x (get_or rows v 0)) e ∙ fit_passes (get_or rows v 0) r f.fit,
    ap row_or0 e,
  )
  instr_faultless (typed_copy h) = (refl, refl)

  result_faultless : (result : Option ℕ) (a : ℕ) → ResultFits s a result → result_fault (fit_answer s.rows) result a [] ≡ none
  result_faultless none a undeclared = refl
  result_faultless (some r) a (declared f) = fit_passes a r f

  later_faultless : (result : Option ℕ) (a : ℕ) (i : Instr) (is : List Instr) → result_fault (fit_answer s.rows) result a (i ∷ is) ≡ none
  later_faultless none a i is = refl
  later_faultless (some r) a i is = refl

  -- the result is judged on the last line alone
  last_faultless : {own : Own} {result : Option ℕ} (rows : List ℕ) (a : ℕ) (is : List Instr) → CodeTyped s own result (rows ++ (a ∷ [])) is
      → result_fault (fit_answer s.rows) result a is ≡ none
  last_faultless {result = result} rows a [] (end h r) =
      result_faultless result a (subst (λ (x : ℕ). ResultFits s x result) (last_row_snoc rows a) r)
  last_faultless {result = result} rows a (i ∷ is) c = later_faultless result a i is

  code_faultless : {own : Own} {result : Option ℕ} {rows : List ℕ} {is : List Instr} → CodeTyped s own result rows is
      → Faultless (code_faults (typed_instr (fit_answer s.rows) s own result) s own rows is)
  unfolding code_faults
  code_faultless (end h r) = λ x i. absurd (In-nil i)
  code_faultless {own} {result} {rows} (next {i = i} {is = is} {a = a} h c) =
      let e = instr_faultless h in
      Faultless-cons
      (ap (λ (x : Fault). first_of x (result_fault (fit_answer s.rows) result (last_row (slot_rows s own rows (i ∷ is))) is)) e.0
      ∙ result_row (fit_answer s.rows) s own result rows i is
      ∙ ap (λ (x : ℕ). result_fault (fit_answer s.rows) result x is) e.1 ∙ last_faultless rows a is c)
      (subst (λ (x : ℕ). Faultless (code_faults (typed_instr (fit_answer s.rows) s own result) s own (rows ++ (x ∷ [])) is)) (sym e.1) (code_faultless c))

  -- the value of a well-typed body, the last of all its slots, fits the declared result
  pub value_fits : {own : Own} {result : Option ℕ} {rows : List ℕ} {is : List Instr} → CodeTyped s own result rows is
      → ResultFits s (last_row (slot_rows s own rows is)) result
  unfolding slot_rows
  value_fits (end h r) = r
  value_fits {own} {result} {rows} (next {is = is} h c) =
      subst (λ (x : ℕ). ResultFits s (last_row (slot_rows s own (rows ++ (x ∷ [])) is)) result) (sym (instr_faultless h).1) (value_fits c)

  part_faultless : (n : ℕ) {f : Form} {m : Member} {p : Part} → PartTyped s f m p → Faultless (part_faults of_typing s n f m p)
  part_faultless n {f} (typed_init {r = r} {k = k} h) =
      Faultless-cons (fit_passes (get_or f.keeps k 0) r h.fit) (λ x i. absurd (In-nil i))
  part_faultless n (typed_body c) = Faultless-cons refl (code_faultless c)

  parts_faultless : (n : ℕ) {f : Form} {ms : List Member} {ps : List Part} → Pairwise (PartTyped s f) ms ps → Faultless (parts_faults of_typing s n f ms ps)
  unfolding parts_faults
  parts_faultless n Pairwise.none = λ x i. absurd (In-nil i)
  parts_faultless n {f} (pair {x = m} {y = p} {xs = ms} {ys = ps} h r) =
      Faultless-append (part_faults of_typing s n f m p) (parts_faults of_typing s n f ms ps) (part_faultless n h) (parts_faultless n r)

  -- a test of the form `not (pure and b)` passes where pure excludes b
  excludes : (a b : Bool) → (T a → T b → ⊥) → T (not (a && b))
  excludes true true h = h tt tt
  excludes true false h = tt
  excludes false b h = tt

  not-not : (b : Bool) → T b → T (not b) → ⊥
  not-not true t u = u
  not-not false t u = t

  keeps_faultless : (a : Row) (ks : List ℕ) → (T (is_pure a.kind) → (k : ℕ) → In k ks → T (is_pure (row_at s.rows k).kind))
      → Faultless (map (keep_fault s a) ks)
  keeps_faultless a [] h = λ x i. absurd (In-nil i)
  keeps_faultless a (k ∷ ks) h =
      let b : Bool = is_pure (row_at s.rows k).kind in
      Faultless-cons
      (passed (not (is_pure a.kind && not b)) ImpureForm (excludes (is_pure a.kind) (not b) (λ p. not-not b (h p k (here refl)))))
      (keeps_faultless a ks (λ p j i. h p j (there i)))

  form_faultless : (n : ℕ) (f : Form) → FormTyped s f → Faultless (form_faults of_typing s n f)
  form_faultless n f h =
      let a : Row = row_at s.rows f.row in
      Faultless-cons (passed (not (is_pure a.kind && has_field a.members)) ImpureForm (excludes (is_pure a.kind) (has_field a.members) (λ p. (h.pure p).no_field)))
      (Faultless-append (keep_faults of_typing n f) (parts_faults of_typing s n f a.members f.parts)
      (keeps_faultless a f.keeps (λ p. (h.pure p).pure_keeps)) (parts_faultless n h.parts))

  forms_faultless : (n : ℕ) (fs : List Form) → ((f : Form) → In f fs → FormTyped s f) → Faultless (forms_faults of_typing s n fs)
  unfolding forms_faults
  forms_faultless n [] h = λ x i. absurd (In-nil i)
  forms_faultless n (f ∷ fs) h =
      Faultless-append (form_faults of_typing s n f) (forms_faults of_typing s (suc n) fs) (form_faultless n f (h f (here refl)))
      (forms_faultless (suc n) fs (λ g i. h g (there i)))

  none_kept : (ks : List ℕ) → ks ≡ [] → T (eqb (length ks) 0)
  none_kept ks e = subst (λ (xs : List ℕ). T (eqb (length xs) 0)) (sym e) tt

  not_pure : (b : Bool) → (T b → ⊥) → T (not b)
  not_pure true h = h tt
  not_pure false h = tt

  device_faultless : (f : ℕ) → DeviceTyped s f → device_fault s f ≡ none
  device_faultless f t =
      let bare : Bool = eqb (length (form_at s f).keeps) 0 in
      let pure : Bool = is_pure (row_of_form s f).kind in
      passed (bare && not pure) WrongDevice (and_intro bare (not pure) (none_kept (form_at s f).keeps t.keeps_none) (not_pure pure t.resource))

  each_faultless : (fs : List ℕ) → ((f : ℕ) → In f fs → DeviceTyped s f) → Faultless (map (device_fault s) fs)
  each_faultless [] h = λ x i. absurd (In-nil i)
  each_faultless (f ∷ fs) h = Faultless-cons (device_faultless f (h f (here refl))) (each_faultless fs (λ g i. h g (there i)))

  devices_faultless : (fs : List ℕ) → ((f : ℕ) → In f fs → DeviceTyped s f) → Faultless (devices_faults of_typing fs)
  unfolding devices_faults
  devices_faultless [] h = λ x i. absurd (In-nil i)
  devices_faultless (f ∷ fs) h = Faultless-cons refl (each_faultless (f ∷ fs) h)

  pub Typed-accepted : Typed s → typing s ≡ Accepted
  unfolding typing line_faults
  Typed-accepted t =
      first_fault_accepts (first_form_line s) (line_faults of_typing s)
      (Faultless-append (forms_faults of_typing s 0 s.forms) (devices_faults of_typing s.devices ++ main_faults of_typing s) (forms_faultless 0 s.forms t.forms)
      (Faultless-append (devices_faults of_typing s.devices) (main_faults of_typing s) (devices_faultless s.devices t.devices) (Faultless-cons refl (code_faultless t.main))))

  -- of the sheets that reading gives, the verdict accepts exactly the well-typed ones
  pub accepted_exactly : WellFormed s → (typing s ≡ Accepted) ↔ Typed s
  accepted_exactly w = (accepted_typed s w, Typed-accepted)

-- an accepted text's sheet is well formed and well typed
pub accepted_sheet : (text : List ℕ) (s : Sheet) → meaning text ≡ readable s → verdict text ≡ Accepted → WellFormed s × Typed s
unfolding verdict
accepted_sheet text s e v =
    let w : WellFormed s = readable-WellFormed text s e in
    (w, accepted_typed s w (ap (verdict_on typing) (sym e) ∙ v))
