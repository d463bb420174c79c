-- The lines of a body: a law for each turn of their loop. Assumes nothing.
use Prim.Native.Nat.{ℕ, suc, ◌+◌, ◌≤◌, ◌<◌}
use native.Mathlib.Omega.{arith}
use native.Mathlib.Numerals.{add-one}
use mathlib.Core.Path.{◌≡◌, refl, sym, ap, ap₂, ◌∙◌, subst}
use mathlib.Core.Bool.{Bool, true, false, cond}
use mathlib.Core.List.{List, [], ◌∷◌, ◌++◌}
use mathlib.Core.Option.{Option, none, some}
use lib.Dec.{eqb}
use lib.ListN.{length, set, drop, drop_of_length-le}
use lib.Seq.{drop-cons, get_or-set_same, get_or-set_other}
use borrow.Author.Tests.{eqb-true, eqb-false}
use Rattle.lists.proofs.TabLaws.{tab-suc, tab_ext, length-tab, get_or-tab}
use Rattle.lists.proofs.Tests.{clash}
use Rattle.sheet_rules.specs.declared.FitAnswer.{FitAnswer}
use Rattle.sheet_rules.specs.declared.FitAnswer.TheVariants.{Yes}
use Rattle.sheet_rules.specs.declared.Reason.{Reason}
use Rattle.sheet_rules.specs.Sheet.{Instr, copy, Sheet, row_at}
use Rattle.sheet_rules.specs.WellFormed.{WellFormed}
use Rattle.type_rules.specs.Fit.{row_answer}
use Rattle.type_rules.specs.SlotRows.{Own, slot_row, slot_rows}
use Rattle.type_rules.specs.Typing.{Fault, first_of, instr_fault, result_fault, code_faults}
use Rattle.type_rules.proofs.TypingLaws.{result_row}
use Rattle.table.specs.Layout.{fit_address, slot_row_address, work_size}
use Rattle.table.specs.View.{cell, instr_in, instrs_in, sheet_in}
use Rattle.table.specs.Told.{slot_rows_in}
use Rattle.table.specs.Whole.{Whole}
use Rattle.table.proofs.ViewLaws.{SameTable, only→same, Only-refl, Only-set, Only-trans, instr_in_same, sheet_in_same}
use Rattle.fit.specs.Told.{first_bit, tells}
use Rattle.fit_answer.specs.Told.{answers}
use Rattle.instr_typing.specs.Told.{judged_of}
use Rattle.instr_typing.proofs.InstrLaws.{good_none, good_row, refused_some}
use Rattle.std.specs.declared.result.Result.{Result}
use Rattle.std.specs.declared.result.Result.TheVariants.{Ok, Err}
use Rattle.sheet_rules.specs.declared.Refusal.{Refusal}
use Rattle.sheet_rules.specs.Answers.{turned_away}
use Rattle.code_typing.specs.Walk.{walk}
use Rattle.code_typing.specs.Told.{last_fault, line_judged, OnlySlots, CodeJudged, instr_judge_in, code_faults_in, code_slot_rows}
use Rattle.code_typing.proofs.WalkLaws.{walk_none, walk_good, walk_bad}

-- what a change of slots' rows leaves as it was

module _ {w w' : List ℕ} (o : OnlySlots w w') where
  table_same : SameTable w w'
  table_same = only→same (slot_row_address 0) (slot_row_address 63 + 1) w w' (omega arith) o

  pub slots_sheet : sheet_in w' ≡ sheet_in w
  slots_sheet = sheet_in_same w w' table_same

  pub slots_instr : (p : ℕ) → instr_in w' p ≡ instr_in w p
  slots_instr p = instr_in_same w w' table_same p

  pub slots_answers : answers w' ≡ answers w
  unfolding answers
  slots_answers =
      λ x a b.
      (cond (told x a b) Yes (row_answer (told x) (row_at (slots_sheet x).rows a) (row_at (slots_sheet x).rows b)))
    where
      told : tells w' ≡ tells w
      told = λ x a b. first_bit (o.below (fit_address a b) (omega arith) x)

  pub slots_whole : Whole w → Whole w'
  slots_whole h = record { size = omega (arith, o.size, h.size); sheet = subst WellFormed (sym slots_sheet) h.sheet }

-- one slot more
slots_more : (w w' : List ℕ) (n r : ℕ) → n < 64 → work_size ≤ length w → w' ≡ set w (slot_row_address n) r → slot_rows_in w' (n + 1) ≡ slot_rows_in w n ++ (r ∷ [])
slots_more w w' n r h size e =
    ap (slot_rows_in w') (add-one n) ∙ tab-suc (λ v. cell w' (slot_row_address v)) n
    ∙ ap₂ (λ (xs : List ℕ) (x : ℕ). xs ++ (x ∷ []))
    (tab_ext (λ v. cell w' (slot_row_address v)) (λ v. cell w (slot_row_address v)) n
    (λ v l. ap (λ (x : List ℕ). cell x (slot_row_address v)) e ∙ get_or-set_other w (slot_row_address n) (slot_row_address v) r 0 (λ c. omega arith)))
    (ap (λ (x : List ℕ). cell x (slot_row_address n)) e ∙ get_or-set_same w (slot_row_address n) r 0 (omega arith))

-- the declared result is asked on the last line
result_last : (fit : ℕ → ℕ → FitAnswer) (wanted : Option ℕ) (a : ℕ) (is : List Instr) (last : Bool) → (last ≡ true → is ≡ []) → (last ≡ false → is ≡ [] → ⊥)
    → last_fault fit wanted a last ≡ result_fault fit wanted a is
result_last fit none a is true h n = refl
result_last fit none a is false h n = refl
result_last fit (some r) a is true h n = ap (result_fault fit (some r) a) (sym (h refl))
result_last fit (some r) a [] false h n = absurd (n refl refl)
result_last fit (some r) a (i ∷ is) false h n = refl

-- where the loop stands
pub record CodeGoing (own : Own) (wanted : Option ℕ) (filled start count first : ℕ) (w₀ w : List ℕ) (j : ℕ) : Type 0 where
  pub within : j ≤ count
  pub only : OnlySlots w₀ w
  pub same : walk (first + j) (code_faults (instr_judge_in w₀ own wanted) (sheet_in w₀) own (slot_rows_in w (filled + j)) (drop j (instrs_in w₀ start count)))
      ≡ walk first (code_faults_in w₀ own wanted filled start count)
  pub slots : slot_rows (sheet_in w₀) own (slot_rows_in w (filled + j)) (drop j (instrs_in w₀ start count)) ≡ code_slot_rows w₀ own filled start count

pub code_start : {own : Own} {wanted : Option ℕ} {filled start count first : ℕ} {w₀ : List ℕ} → CodeGoing own wanted filled start count first w₀ w₀ 0
code_start {own} {wanted} {filled} {start} {count} {first} {w₀} =
    record {
      within = omega arith;
      only = Only-refl (slot_row_address 0) (slot_row_address 63 + 1) w₀;
      same = ap₂ (λ (n k : ℕ). walk n (code_faults_in w₀ own wanted k start count)) (omega arith) none_more;
      slots = ap (λ (k : ℕ). code_slot_rows w₀ own k start count) none_more;
    }
  where
    none_more : filled + 0 ≡ filled
    none_more = omega arith

module _ {own : Own} {wanted : Option ℕ} {filled start count first : ℕ} {w₀ w : List ℕ} {j : ℕ} (g : CodeGoing own wanted filled start count first w₀ w j) where
  abbrev line : ℕ
  line = first + j

  abbrev code : List Instr
  code = instrs_in w₀ start count

  code-length : length code ≡ count
  code-length = length-tab (λ k. instr_in w₀ (start + k)) count

  abbrev faults : List ℕ → List Instr → List Fault
  faults rows is = code_faults (instr_judge_in w₀ own wanted) (sheet_in w₀) own rows is

  abbrev slots_from : List ℕ → List Instr → List ℕ
  slots_from rows is = slot_rows (sheet_in w₀) own rows is

  abbrev Judged : Result ℕ Refusal → Type 0
  Judged r = CodeJudged (code_faults_in w₀ own wanted filled start count) (code_slot_rows w₀ own filled start count) first w₀ w r

  none_left : count ≤ j → drop j code ≡ []
  none_left l = let past : length code ≤ j = omega (arith, code-length) in drop_of_length-le code past

  slots_all : count ≤ j → slot_rows_in w (filled + j) ≡ code_slot_rows w₀ own filled start count
  unfolding slot_rows
  slots_all l = sym (ap (slots_from (slot_rows_in w (filled + j))) (none_left l)) ∙ g.slots

  pub code_end : count ≤ j → Judged (Ok (first + count))
  unfolding code_faults
  code_end l =
      record {
        lines = record {
          told =
              ap Ok at_end ∙ sym (walk_none line)
              ∙ sym (ap (λ (is : List Instr). walk line (faults (slot_rows_in w (filled + j)) is)) (none_left l)) ∙ g.same;
          only = g.only;
        };
        slots = λ n e. ap (slot_rows_in w) (sym (ap length (slots_all l)) ∙ length-tab (λ v. cell w (slot_row_address v)) (filled + j)) ∙ slots_all l;
      }
    where
      at_end : first + count ≡ line
      at_end = omega (arith, g.within)

  -- the next line; the code has the place of the first instruction as a number of its own
  module _ (l : j < count) {place : ℕ} (place_is : place ≡ start) {v : List ℕ} (sheet : v ≡ w) {judged : Result ℕ Reason}
      (told : judged ≡ line_judged v own wanted (filled + j) (instr_in v (place + j)) (eqb (j + 1) count)) where
    rows : List ℕ
    rows = slot_rows_in w (filled + j)

    instr : Instr
    instr = instr_in w₀ (start + j)

    row : ℕ
    row = slot_row (sheet_in w₀) own rows instr

    rest : List Instr
    rest = drop (suc j) code

    fault : Fault
    fault = first_of (instr_fault (answers w₀) (sheet_in w₀) own rows instr) (result_fault (answers w₀) wanted row rest)

    next_here : drop j code ≡ instr ∷ rest
    unfolding instr rest
    next_here =
        drop-cons code j (copy 0) (omega (arith, code-length))
        ∙ ap (λ (i : Instr). i ∷ drop (suc j) code) (get_or-tab (λ k. instr_in w₀ (start + k)) count j (copy 0) l)

    abbrev last : Bool
    last = eqb (j + 1) count

    ends : last ≡ true → rest ≡ []
    unfolding rest
    ends e =
        let k : j + 1 ≡ count = eqb-true (j + 1) count e in
        let p : length code ≤ suc j = omega (arith, code-length) in
        drop_of_length-le code p

    goes_on : last ≡ false → rest ≡ [] → ⊥
    unfolding rest
    goes_on e n =
        let k : j + 1 ≡ count → ⊥ = eqb-false (j + 1) count e in
        let h : suc j < length code = omega (arith, code-length) in
        clash (cc-empty (sym n ∙ drop-cons code (suc j) (copy 0) h))
      where
        cc-empty : {x : Instr} {xs : List Instr} → [] ≡ x ∷ xs → ◌≡◌ {A = ℕ} 0 1
        cc-empty e = cc

    -- the rule's judgement of the line, over the buffer at the start
    judged_with : (ℕ → ℕ → FitAnswer) → Sheet → Instr → Result ℕ Reason
    judged_with fit s i = judged_of (first_of (instr_fault fit s own rows i) (last_fault fit wanted (slot_row s own rows i) last)) (slot_row s own rows i)

    judged_rule : judged ≡ judged_of fault row
    unfolding rows instr row fault judged_with
    judged_rule =
        told
        ∙ ap (λ (x : List ℕ). line_judged x own wanted (filled + j) (instr_in x (place + j)) last) sheet
        ∙ ap (λ (p : ℕ). line_judged w own wanted (filled + j) (instr_in w (p + j)) last) place_is
        ∙ (λ x. judged_with (slots_answers g.only x) (slots_sheet g.only x) (slots_instr g.only (start + j) x))
        ∙ ap (λ (f : Fault). judged_of (first_of (instr_fault (answers w₀) (sheet_in w₀) own rows instr) f) row) (result_last (answers w₀) wanted row rest last ends goes_on)

    walk_here : walk line (fault ∷ faults (rows ++ (row ∷ [])) rest) ≡ walk first (code_faults_in w₀ own wanted filled start count)
    unfolding rows instr row fault rest code_faults
    walk_here =
        ap (λ (f : Fault). walk line (first_of (instr_fault (answers w₀) (sheet_in w₀) own rows instr) f ∷ faults (rows ++ (row ∷ [])) rest))
        (sym (result_row (answers w₀) (sheet_in w₀) own wanted rows instr rest))
        ∙ sym (ap (λ (is : List Instr). walk line (faults (slot_rows_in w (filled + j)) is)) next_here) ∙ g.same

    slots_here : slots_from (rows ++ (row ∷ [])) rest ≡ code_slot_rows w₀ own filled start count
    unfolding rows instr row rest slot_rows
    slots_here = sym (ap (slots_from (slot_rows_in w (filled + j))) next_here) ∙ g.slots

    pub code_stop : {q : Reason} → judged ≡ Err q → Judged (turned_away q line)
    code_stop {q} e =
        record {
          lines = record {
            told =
                walk_bad line q (faults (rows ++ (row ∷ [])) rest)
                ∙ ap (λ (f : Fault). walk line (f ∷ faults (rows ++ (row ∷ [])) rest)) (sym (refused_some fault row q (sym judged_rule ∙ e))) ∙ walk_here;
            only = g.only;
          };
          slots = λ n on. no_way n on;
        }
      where
        no_way : (n : ℕ) {A : Type 0} → turned_away q line ≡ Ok n → A
        no_way n c = clash (cc)

    pub code_next : filled + count ≤ 64 → work_size ≤ length w₀ → {r : ℕ} → judged ≡ Ok r → {w' : List ℕ} → w' ≡ set w (slot_row_address (filled + j)) r
        → CodeGoing own wanted filled start count first w₀ w' (j + 1)
    unfolding rest rows
    code_next few size {r} e {w'} s =
        record {
          within = omega arith;
          only =
              Only-trans g.only
              (subst (OnlySlots w) (sym s) (Only-set (slot_row_address 0) (slot_row_address 63 + 1) w (slot_row_address (filled + j)) r (omega arith) (omega arith)));
          same =
              ap (λ (n : ℕ). walk n (faults (slot_rows_in w' (filled + (j + 1))) (drop (j + 1) code))) (omega arith)
              ∙ ap₂ (λ (xs : List ℕ) (k : ℕ). walk (line + 1) (faults xs (drop k code))) rows_then (add-one j)
              ∙ walk_good line (faults (rows ++ (row ∷ [])) rest)
              ∙ ap (λ (f : Fault). walk line (f ∷ faults (rows ++ (row ∷ [])) rest)) (sym (good_none fault row r (sym judged_rule ∙ e))) ∙ walk_here;
          slots = ap₂ (λ (xs : List ℕ) (k : ℕ). slots_from xs (drop k code)) rows_then (add-one j) ∙ slots_here;
        }
      where
        rows_then : slot_rows_in w' (filled + (j + 1)) ≡ rows ++ (row ∷ [])
        rows_then =
            (let m : filled + (j + 1) ≡ filled + j + 1 = omega arith in ap (slot_rows_in w') m)
            ∙ slots_more w w' (filled + j) r (omega arith) (omega (arith, g.only.size)) s
            ∙ ap (λ (x : ℕ). slot_rows_in w (filled + j) ++ (x ∷ [])) (good_row fault row r (sym judged_rule ∙ e))
