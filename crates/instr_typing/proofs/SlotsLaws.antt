-- The slots of a `new`, judged one after another: their count, and a law for each turn of the loop. Assumes nothing.
use Prim.Native.Nat.{ℕ, suc, ◌+◌, ◌≤◌, ◌<◌}
use native.Mathlib.Omega.{arith}
use native.Mathlib.Numerals.{add-one}
use mathlib.Core.Path.{◌≡◌, sym, ap, ap₂, ◌∙◌}
use mathlib.Core.Bool.{Bool}
use mathlib.Core.List.{List}
use mathlib.Core.Option.{some}
use lib.ListN.{length, get_or, drop, drop_of_length-le}
use lib.Seq.{drop-cons}
use borrow.Author.Tests.{eq-eqb, ne_eqb}
use Rattle.sheet_rules.specs.declared.FitAnswer.{FitAnswer}
use Rattle.sheet_rules.specs.declared.Lack.{Lack}
use Rattle.sheet_rules.specs.declared.Reason.{Reason}
use Rattle.sheet_rules.specs.declared.Reason.TheVariants.{Misfit}
use Rattle.type_rules.specs.Typing.{Fault, unless, first_of, fit_fault, slots_fault, new_fault}
use Rattle.std.specs.declared.result.Result.{Result}
use Rattle.std.specs.declared.result.Result.TheVariants.{Ok, Err}
use Rattle.instr_typing.specs.Told.{judged_of, fit_judged}
use Rattle.instr_typing.proofs.InstrLaws.{good_none, refused_some}

module _ (fit : ℕ → ℕ → FitAnswer) (rows vs bs : List ℕ) where
  by_count : Bool → Fault
  by_count t = first_of (unless t (Misfit Lack.Count)) (slots_fault fit rows vs bs)

  -- not as many
  pub count_differs : (row : ℕ) → (length vs ≡ length bs → ⊥) → Err (Misfit Lack.Count) ≡ judged_of (new_fault fit rows vs bs) row
  unfolding by_count
  count_differs row h = sym (ap (λ (t : Bool). judged_of (by_count t) row) (ne_eqb (length vs) (length bs) h))

  module _ (as_many : length vs ≡ length bs) (k : ℕ) (same : slots_fault fit rows (drop k vs) (drop k bs) ≡ slots_fault fit rows vs bs) where
    counted : slots_fault fit rows (drop k vs) (drop k bs) ≡ new_fault fit rows vs bs
    unfolding by_count
    counted = same ∙ sym (ap by_count (eq-eqb (length vs) (length bs) as_many))

    one_more : k < length vs
        → slots_fault fit rows (drop k vs) (drop k bs)
        ≡ first_of (fit_fault (fit (get_or rows (get_or vs k 0) 0) (get_or bs k 0))) (slots_fault fit rows (drop (suc k) vs) (drop (suc k) bs))
    unfolding slots_fault
    one_more l = ap₂ (slots_fault fit rows) (drop-cons vs k 0 l) (drop-cons bs k 0 (omega arith))

    -- the slot that is filled has the form's row, which the code has as a number of its own
    pub slots_end : {row form_row : ℕ} → row ≡ form_row → length vs ≤ k → Ok row ≡ judged_of (new_fault fit rows vs bs) form_row
    unfolding slots_fault
    slots_end er l =
        let m : length bs ≤ k = omega arith in
        ap₂ judged_of (sym (ap₂ (slots_fault fit rows) (drop_of_length-le vs l) (drop_of_length-le bs m)) ∙ counted) er

    -- slot v, the k-th, has row a, and is kept as a value of row b; x is how it was judged
    module _ (row : ℕ) {v a b : ℕ} {x : Result ℕ Reason} (l : k < length vs) (ev : v ≡ get_or vs k 0) (ea : a ≡ get_or rows v 0) (eb : b ≡ get_or bs k 0) (ex : x ≡ fit_judged (fit a b) row) where
      first : fit_fault (fit a b) ≡ fit_fault (fit (get_or rows (get_or vs k 0) 0) (get_or bs k 0))
      first = ap fit_fault (ap₂ fit (ea ∙ ap (λ (n : ℕ). get_or rows n 0) ev) eb)

      rest : Fault
      rest = slots_fault fit rows (drop (suc k) vs) (drop (suc k) bs)

      opened : (f : Fault) → fit_fault (fit a b) ≡ f → first_of f rest ≡ slots_fault fit rows (drop k vs) (drop k bs)
      unfolding rest
      opened f e = ap (λ (g : Fault). first_of g rest) (sym e ∙ first) ∙ sym (one_more l)

      pub slot_next : {r : ℕ} → x ≡ Ok r → slots_fault fit rows (drop (k + 1) vs) (drop (k + 1) bs) ≡ slots_fault fit rows vs bs
      unfolding rest
      slot_next {r} e =
          ap (λ (i : ℕ). slots_fault fit rows (drop i vs) (drop i bs)) (add-one k)
          ∙ opened _ (good_none (fit_fault (fit a b)) row r (sym ex ∙ e)) ∙ same

      pub slot_stop : (form_row : ℕ) {q : Reason} → x ≡ Err q → x ≡ judged_of (new_fault fit rows vs bs) form_row
      slot_stop form_row {q} e = e ∙ ap (λ (f : Fault). judged_of f form_row) (opened (some q) (refused_some (fit_fault (fit a b)) row q (sym ex ∙ e)) ∙ counted)
