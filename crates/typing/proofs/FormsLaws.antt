-- The lines of all forms: a law for each turn of their loop. Assumes nothing.
use Prim.Native.Nat.{ℕ, suc, ◌+◌, ◌*◌, ◌≤◌, ◌<◌}
use native.Mathlib.Omega.{arith}
use native.Mathlib.Numerals.{add-one}
use mathlib.Core.Path.{◌≡◌, refl, sym, ap, ◌∙◌}
use mathlib.Core.List.{List, ◌++◌}
use lib.ListN.{length, drop, drop_of_length-le, length-append, length-map}
use lib.Seq.{drop-cons}
use Rattle.lists.proofs.Tests.{clash}
use Rattle.sheet_rules.specs.declared.FitAnswer.{FitAnswer}
use Rattle.sheet_rules.specs.Sheet.{Form, Sheet, no_form, form_at}
use Rattle.type_rules.specs.Typing.{Fault, form_faults, forms_faults, typed_lines}
use Rattle.table.specs.Layout.{slot_row_address}
use Rattle.table.specs.View.{sheet_in}
use Rattle.table.specs.Whole.{Whole}
use Rattle.table.proofs.ViewLaws.{Only-refl, Only-trans}
use Rattle.table.proofs.SheetLaws.{form_well, parts-Pairwise}
use Rattle.std.specs.declared.result.Result.{Result}
use Rattle.std.specs.declared.result.Result.TheVariants.{Ok, Err}
use Rattle.sheet_rules.specs.declared.Refusal.{Refusal}
use Rattle.code_typing.specs.Walk.{walk, walk_on}
use Rattle.code_typing.specs.Told.{judge_in, OnlySlots, LinesJudged}
use Rattle.code_typing.proofs.WalkLaws.{walk_none, walk-append, walk-length}
use Rattle.code_typing.proofs.CodeLaws.{slots_sheet, slots_answers, slots_whole}
use Rattle.form_typing.specs.Told.{keep_faults_in, parts_faults_in, form_faults_in}
use Rattle.form_typing.proofs.PartsLaws.{parts_lines}
use Rattle.typing.specs.Told.{forms_faults_in, FormsJudged}

-- a form has at most 273 lines
form_lines : (w : List ℕ) (f : ℕ) → Whole w → f < length (sheet_in w).forms → length (form_faults_in w f) ≤ 273
form_lines w f h l =
    let a : length (keep_faults_in w f ++ parts_faults_in w f) ≡ length (keep_faults_in w f) + length (parts_faults_in w f) = length-append (keep_faults_in w f) (parts_faults_in w f) in
    let b = length-map (form_at (sheet_in w) f).keeps ((judge_in w).of_keep f (form_at (sheet_in w) f)) in
    let c = (form_well w h f l).few in
    let d = parts_lines (judge_in w) (sheet_in w) f (form_at (sheet_in w) f) (parts-Pairwise w h f l) in
    let e = (h.sheet.rows (form_at (sheet_in w) f).row).few in
    omega arith

-- the lines of the forms from number f on
abbrev faults_from : List ℕ → ℕ → List Fault
faults_from w f = forms_faults (judge_in w) (sheet_in w) f (drop f (sheet_in w).forms)

-- the forms of the sheet of a buffer are the buffer's
pub counted : {v w : List ℕ} {count : ℕ} → v ≡ w → count ≡ length (sheet_in v).forms → count ≡ length (sheet_in w).forms
counted e c = c ∙ ap (λ (x : List ℕ). length (sheet_in x).forms) e

-- where the loop stands
pub record FormsGoing (first : ℕ) (w₀ w : List ℕ) (f line : ℕ) : Type 0 where
  pub within : f ≤ length (sheet_in w₀).forms
  pub only : OnlySlots w₀ w
  pub lined : line ≤ first + 273 * f
  pub same : walk line (faults_from w₀ f) ≡ walk first (forms_faults_in w₀)

pub forms_start : {first : ℕ} {w₀ : List ℕ} → FormsGoing first w₀ w₀ 0 first
forms_start {w₀ = w₀} = record { within = omega arith; only = Only-refl (slot_row_address 0) (slot_row_address 63 + 1) w₀; lined = omega arith; same = refl }

module _ {first : ℕ} {w₀ w : List ℕ} {f line : ℕ} (g : FormsGoing first w₀ w f line) (h : Whole w₀) where
  pub forms_whole : Whole w
  forms_whole = slots_whole g.only h

  -- the faults of form f and those after it
  abbrev faults : List Form → List Fault
  faults fs = forms_faults (judge_in w₀) (sheet_in w₀) f fs

  module _ {count : ℕ} (count-is : count ≡ length (sheet_in w₀).forms) where
    pub forms_in : f < count → f < length (sheet_in w).forms
    forms_in l = let e : length (sheet_in w).forms ≡ length (sheet_in w₀).forms = ap (λ (s : Sheet). length s.forms) (slots_sheet g.only) in omega (arith, count-is)

    pub forms_end : count ≤ f → FormsJudged first w₀ w (Ok line)
    unfolding forms_faults
    forms_end k =
        let past : length (sheet_in w₀).forms ≤ f = omega (arith, count-is) in
        record {
          lines =
              record {
                told = sym (walk_none line) ∙ sym (ap (λ (fs : List Form). walk line (faults fs)) (drop_of_length-le (sheet_in w₀).forms past)) ∙ g.same;
                only = g.only;
              };
          few = λ n e. (let q : line ≡ n = on-is n e in omega (arith, g.lined, g.within, h.sheet.few_forms));
        }
      where
        on-is : (n : ℕ) → ◌≡◌ {A = Result ℕ Refusal} (Ok line) (Ok n) → line ≡ n
        on-is n e = cc

    module _ (l : f < count) {w' : List ℕ} {r : Result ℕ Refusal} (t : LinesJudged (form_faults_in w f) line w w' r) where
      faults_of : (ℕ → ℕ → FitAnswer) → Sheet → List Fault
      faults_of fit s = form_faults (typed_lines fit s) s f (form_at s f)

      here : form_faults_in w f ≡ form_faults (judge_in w₀) (sheet_in w₀) f (form_at (sheet_in w₀) f)
      unfolding faults_of
      here = λ x. faults_of (slots_answers g.only x) (slots_sheet g.only x)

      abbrev rest : List Fault
      rest = faults_from w₀ (suc f)

      step : walk_on r (λ n. walk n rest) ≡ walk first (forms_faults_in w₀)
      unfolding forms_faults
      step =
          ap (λ (x : Result ℕ Refusal). walk_on x (λ n. walk n rest)) (t.told ∙ ap (walk line) here)
          ∙ sym (walk-append line (form_faults (judge_in w₀) (sheet_in w₀) f (form_at (sheet_in w₀) f)) rest)
          ∙ sym (ap (λ (fs : List Form). walk line (faults fs)) (drop-cons (sheet_in w₀).forms f no_form (omega (arith, count-is))))
          ∙ g.same

      only' : OnlySlots w₀ w'
      only' = Only-trans g.only t.only

      pub forms_stop : {q : Refusal} → r ≡ Err q → FormsJudged first w₀ w' (Err q)
      forms_stop {q} e =
          record {
            lines = record { told = ap (λ (x : Result ℕ Refusal). walk_on x (λ n. walk n rest)) (sym e) ∙ step; only = only' };
            few = λ m c. no_way m c;
          }
        where
          no_way : (m : ℕ) {A : Type 0} → ◌≡◌ {A = Result ℕ Refusal} (Err q) (Ok m) → A
          no_way m c = clash (cc)

      pub forms_next : {n : ℕ} → r ≡ Ok n → FormsGoing first w₀ w' (f + 1) n
      forms_next {n} e =
          record {
            within = omega (arith, count-is);
            only = only';
            lined =
                (let a = walk-length line (form_faults_in w f) n (sym t.told ∙ e) in
                let b = form_lines w f forms_whole (forms_in l) in
                let c = g.lined in
                omega arith);
            same =
                ap (λ (i : ℕ). walk n (faults_from w₀ i)) (add-one f)
                ∙ ap (λ (x : Result ℕ Refusal). walk_on x (λ n. walk n rest)) (sym e) ∙ step;
          }
