-- What a misfit carries: of a `new` count, or the answer of the first slot that misfits; and always what is lacking in the sheet. Assumes
-- nothing.
use Prim.Native.Nat.{ℕ, zero, suc, pred, ◌<◌}
use native.Mathlib.Omega.{arith}
use mathlib.Core.Path.{◌≡◌, refl, sym, ap, ◌∙◌, subst}
use mathlib.Core.Bool.{Bool, true, false, not, ◌&&◌}
use mathlib.Core.List.{List, [], ◌∷◌}
use mathlib.Core.Option.{Option, none, some}
use mathlib.Core.Logic.{◌⊎◌, inl, inr}
use lib.Dec.{eqb}
use lib.ListN.{length, get_or}
use borrow.Author.Tests.{eqb-true, eqb-false}
use Rattle.lists.proofs.Tests.{clash}
use Rattle.sheet_rules.specs.declared.FitAnswer.{FitAnswer}
use Rattle.sheet_rules.specs.declared.FitAnswer.TheVariants.{Yes, WrongKind, Unmet}
use Rattle.sheet_rules.specs.declared.Lack.{Lack}
use Rattle.sheet_rules.specs.declared.Reason.{Reason}
use Rattle.sheet_rules.specs.declared.Reason.TheVariants.{ImpureForm, Misfit, WrongDevice}
use Rattle.sheet_rules.specs.declared.Verdict.TheVariants.{Refused}
use Rattle.sheet_rules.specs.Answers.{answer_lack}
use Rattle.sheet_rules.specs.Lines.{Line, torn, lines_of}
use Rattle.sheet_rules.specs.Sheet.{Instr, new, call, get, put, copy, Sheet, row_at, form_at}
use Rattle.sheet_rules.specs.Reading.{readable, meaning}
use Rattle.sheet_rules.specs.Print.{instr_written}
use Rattle.sheet_rules.specs.WellFormed.{WellFormed}
use Rattle.sheet_rules.proofs.ReadingLaws.{readable-WellFormed}
use Rattle.type_rules.specs.Fit.{fit_answer}
use Rattle.type_rules.specs.Says.{Lacking, lacks_slots, lacks_fit}
use Rattle.type_rules.specs.SlotRows.{Signature, Own, method_in, members_at, own_field, slot_rows, last_row}
use Rattle.type_rules.specs.Typing.{Fault, unless, first_of, fit_fault, slots_fault, new_fault, call_fault, get_fault, put_fault, instr_fault, result_fault, is_pure, has_field, is_device, typed_instr, typed_lines, typing, verdict_on, verdict}
use Rattle.type_rules.proofs.AnswerLaws.{answer_exactly}
use Rattle.type_rules.proofs.FaultLines.{FaultOf, of_form, of_keep, of_init, of_body, of_instr, of_devices, of_device, of_main, of_main_instr, refused_line}

-- the first of two faults is one of them
one_of : (f g : Fault) {r : Reason} → first_of f g ≡ some r → (f ≡ some r) ⊎ (g ≡ some r)
one_of none g e = inr e
one_of (some q) g e = inl e

-- a misfit carries what fit's answer lacks
carried : (x : FitAnswer) {l : Lack} → fit_fault x ≡ some (Misfit l) → answer_lack x ≡ some l
carried Yes e = clash (cc)
carried WrongKind e = cc
carried (Unmet n) e = cc

impure : (b : Bool) {l : Lack} {A : Type 0} → unless b ImpureForm ≡ some (Misfit l) → A
impure true e = clash (cc)
impure false e = clash (cc)

no_device : (b : Bool) {l : Lack} {A : Type 0} → unless b WrongDevice ≡ some (Misfit l) → A
no_device true e = clash (cc)
no_device false e = clash (cc)

-- of the slots of a `new` the first that misfits is the fault: what is carried is its answer, and each slot before it fits
pub record FirstAt (fit : ℕ → ℕ → FitAnswer) (rows vs bs : List ℕ) (r : Reason) : Type 0 where
  pub place : ℕ
  pub within : place < length vs
  pub fault : fit_fault (fit (get_or rows (get_or vs place 0) 0) (get_or bs place 0)) ≡ some r
  pub before : (j : ℕ) → j < place → fit_fault (fit (get_or rows (get_or vs j 0) 0) (get_or bs j 0)) ≡ none

pub slots_first : (fit : ℕ → ℕ → FitAnswer) (rows vs bs : List ℕ) {r : Reason} → slots_fault fit rows vs bs ≡ some r → FirstAt fit rows vs bs r
unfolding slots_fault
slots_first fit rows [] bs e = clash (cc)
slots_first fit rows (v ∷ vs) [] e = clash (cc)
slots_first fit rows (v ∷ vs) (b ∷ bs) {r} e = go (slots_first fit rows vs bs) (fit_fault (fit (get_or rows v 0) b)) refl e
  where
    go : (slots_fault fit rows vs bs ≡ some r → FirstAt fit rows vs bs r) → (f : Fault) → fit_fault (fit (get_or rows v 0) b) ≡ f
        → first_of f (slots_fault fit rows vs bs) ≡ some r → FirstAt fit rows (v ∷ vs) (b ∷ bs) r
    go later none p q =
        let l = later q in
        record { place = suc l.place; within = omega (arith, l.within); fault = l.fault; before = below }
      where
        below : (j : ℕ) → j < suc (later q).place → fit_fault (fit (get_or rows (get_or (v ∷ vs) j 0) 0) (get_or (b ∷ bs) j 0)) ≡ none
        below zero k = p
        below (suc j) k = (later q).before j (omega arith)
    go later (some x) p q = record { place = 0; within = omega arith; fault = p ∙ q; before = λ j k. absurd (omega arith) }

-- and count comes before them
pub new_first : (fit : ℕ → ℕ → FitAnswer) (rows vs bs : List ℕ) {l : Lack} → new_fault fit rows vs bs ≡ some (Misfit l)
    → ((length vs ≡ length bs → ⊥) × (Lack.Count ≡ l)) ⊎ ((length vs ≡ length bs) × FirstAt fit rows vs bs (Misfit l))
new_first fit rows vs bs {l} e = go (eqb (length vs) (length bs)) refl e
  where
    go : (t : Bool) → eqb (length vs) (length bs) ≡ t → first_of (unless t (Misfit Lack.Count)) (slots_fault fit rows vs bs) ≡ some (Misfit l)
        → ((length vs ≡ length bs → ⊥) × (Lack.Count ≡ l)) ⊎ ((length vs ≡ length bs) × FirstAt fit rows vs bs (Misfit l))
    go true p q = inr (eqb-true (length vs) (length bs) p, slots_first fit rows vs bs q)
    go false p q = let same : Lack.Count ≡ l = cc in inl (eqb-false (length vs) (length bs) p, same)

module _ {s : Sheet} (w : WellFormed s) where
  abbrev fit : ℕ → ℕ → FitAnswer
  fit = fit_answer s.rows

  value_lacks : {on : Line} {l : Lack} (a b : ℕ) → fit_fault (fit a b) ≡ some (Misfit l) → Lacking s on l
  value_lacks a b e = lacks_fit a b ((answer_exactly s w a b (fit a b)).0 refl) (carried (fit a b) e)

  new_lacks : {l : Lack} (rows : List ℕ) (f : ℕ) (vs : List ℕ) → new_fault fit rows vs (form_at s f).keeps ≡ some (Misfit l) → Lacking s (instr_written (new f vs)) l
  new_lacks {l} rows f vs e = go (new_first fit rows vs (form_at s f).keeps e)
    where
      keeps : List ℕ
      keeps = (form_at s f).keeps

      go : ((length vs ≡ length keeps → ⊥) × (Lack.Count ≡ l)) ⊎ ((length vs ≡ length keeps) × FirstAt fit rows vs keeps (Misfit l)) → Lacking s (instr_written (new f vs)) l
      go (inl p) = subst (Lacking s (instr_written (new f vs))) p.1 (lacks_slots f vs p.0)
      go (inr p) = value_lacks (get_or rows (get_or vs p.1.place 0) 0) (get_or keeps p.1.place 0) p.1.fault

  call_lacks : {on : Line} {l : Lack} (m : Option Signature) (a : ℕ) → call_fault fit m a ≡ some (Misfit l) → Lacking s on l
  call_lacks none a e = clash (cc)
  call_lacks (some m) a e = value_lacks a m.argument e

  get_lacks : {on : Line} {l : Lack} (r : Option ℕ) → get_fault r ≡ some (Misfit l) → Lacking s on l
  get_lacks none e = clash (cc)
  get_lacks (some r) e = clash (cc)

  put_lacks : {on : Line} {l : Lack} (r : Option ℕ) (a : ℕ) → put_fault fit r a ≡ some (Misfit l) → Lacking s on l
  put_lacks none a e = clash (cc)
  put_lacks (some r) a e = value_lacks a r e

  result_lacks : {on : Line} {l : Lack} (result : Option ℕ) (a : ℕ) (is : List Instr) → result_fault fit result a is ≡ some (Misfit l) → Lacking s on l
  result_lacks none a is e = clash (cc)
  result_lacks (some r) a [] e = value_lacks a r e
  result_lacks (some r) a (i ∷ is) e = clash (cc)

  instr_lacks : {l : Lack} (own : Own) (rows : List ℕ) (i : Instr) → instr_fault fit s own rows i ≡ some (Misfit l) → Lacking s (instr_written i) l
  instr_lacks own rows (new f vs) e = new_lacks rows f vs e
  instr_lacks own rows (call o n a) e = call_lacks (method_in (members_at s (get_or rows o 0)) n) (get_or rows a 0) e
  instr_lacks own rows (get n) e = get_lacks (own_field s own n) e
  instr_lacks own rows (put n v) e = put_lacks (own_field s own n) (get_or rows v 0) e
  instr_lacks own rows (copy v) e = clash (cc)

  typed_lacks : {l : Lack} (own : Own) (result : Option ℕ) (rows : List ℕ) (i : Instr) (is : List Instr) → typed_instr fit s own result rows i is ≡ some (Misfit l)
      → Lacking s (instr_written i) l
  typed_lacks {l} own result rows i is e = go (one_of (instr_fault fit s own rows i) (result_fault fit result value is) e)
    where
      value : ℕ
      value = last_row (slot_rows s own rows (i ∷ is))

      go : (instr_fault fit s own rows i ≡ some (Misfit l)) ⊎ (result_fault fit result value is ≡ some (Misfit l)) → Lacking s (instr_written i) l
      go (inl q) = instr_lacks own rows i q
      go (inr q) = result_lacks result value is q

  line_lacks : {f : Fault} {on : Line} {l : Lack} → FaultOf (typed_lines fit s) s f on → f ≡ some (Misfit l) → Lacking s on l
  line_lacks (of_form {f = f} h) e = let a = row_at s.rows f.row in impure (not (is_pure a.kind && has_field a.members)) e
  line_lacks (of_keep {k = k} {f = f} h i) e = let a = row_at s.rows f.row in impure (not (is_pure a.kind && not (is_pure (row_at s.rows k).kind))) e
  line_lacks (of_init {r = r} {k = k} {f = f} h i) e = value_lacks (get_or f.keeps k 0) r e
  line_lacks (of_body is) e = clash (cc)
  line_lacks (of_instr {r = r} {f = f} h i rows x is) e = typed_lacks (some f.row) (some r) rows x is e
  line_lacks of_devices e = clash (cc)
  line_lacks (of_device {f = f} i) e = no_device (is_device s f) e
  line_lacks of_main e = clash (cc)
  line_lacks (of_main_instr rows x is) e = typed_lacks none none rows x is e

-- of a text that is refused for a misfit, what the verdict carries is lacking on the line that it names
pub misfit_lacks : (text : List ℕ) {s : Sheet} → meaning text ≡ readable s → {l : Lack} {n : ℕ} → verdict text ≡ Refused (Misfit l) n → Lacking s (get_or (lines_of text) (pred n) torn) l
unfolding verdict
misfit_lacks text {s} m e = line_lacks (readable-WellFormed text s m) (refused_line text m (sym (ap (verdict_on typing) m) ∙ e)) refl
