-- The lines that are looked at for circular calls, item by item: of a body its instructions, of a form its parts, of the sheet its
-- forms; and the verdict on the sheet. Assumes nothing.
use Prim.Native.Nat.{ℕ, suc, ◌+◌, ◌≤◌, ◌<◌}
use native.Mathlib.Omega.{arith}
use mathlib.Core.Path.{◌≡◌, refl, sym, ap, ap₂, ◌∙◌}
use mathlib.Core.Bool.{Bool}
use mathlib.Core.List.{List, [], ◌∷◌, ◌++◌, map}
use mathlib.Core.Option.{none, some}
use lib.ListN.{length, get_or, drop, drop_of_length-le, length-map, length-append}
use lib.Seq.{drop-cons}
use Rattle.lists.proofs.TabLaws.{length-tab, get_or-tab}
use Rattle.sheet_rules.specs.declared.Member.{Member}
use Rattle.sheet_rules.specs.declared.Member.TheVariants.{Method, Field}
use Rattle.sheet_rules.specs.declared.Reason.TheVariants.{CircularCall}
use Rattle.sheet_rules.specs.declared.Verdict.{Verdict}
use Rattle.sheet_rules.specs.Sheet.{Instr, copy, called_name, Part, init, body, Form, Sheet, no_member, no_form, form_at}
use Rattle.type_rules.specs.SlotRows.{Own, members_at, body_rows, rows_after}
use Rattle.type_rules.specs.Typing.{Fault, unless, code_faults, part_faults, parts_faults, keep_faults, form_faults, forms_faults, line_faults, first_form_line}
use Rattle.type_rules.proofs.TypedLaws.{first_fault_accepts}
use Rattle.table.specs.View.{instr_in, instrs_in, part_in, sheet_in}
use Rattle.table.specs.declared.forms.PartPlace.{PartPlace}
use Rattle.table.specs.Told.{part_told}
use Rattle.table.specs.Whole.{Whole}
use Rattle.table.proofs.SheetLaws.{parts-Pairwise, form_well}
use Rattle.std.specs.declared.result.Result.{Result}
use Rattle.std.specs.declared.result.Result.TheVariants.{Ok, Err}
use Rattle.sheet_rules.specs.declared.Refusal.{Refusal}
use Rattle.sheet_rules.specs.Answers.{verdict_from}
use Rattle.code_typing.specs.Walk.{walk, walk_on}
use Rattle.code_typing.proofs.WalkLaws.{walk_none, walk_good, walk-append, walk_verdict_lem}
use Rattle.form_typing.specs.Told.{PlaceSmall, an_init, a_body}
use Rattle.form_typing.proofs.PartsLaws.{parts_lines}
use Rattle.bound_rules.specs.Strict.{calls_below, strict_lines, strictness}
use Rattle.bound_rules.proofs.StrictLaws.{after_lines, after_none}
use Rattle.bound.specs.Told.{code_calls, part_calls, parts_calls, forms_calls}
use Rattle.bound.proofs.MembersLaws.{members_in, parts_in, all_members, in_members, in_parts, Member-is, part_is}

-- WITHOUT SLOTS

module _ (s : Sheet) (k : ℕ) (f : Form) where
  code_calls_lem : (own : Own) (rows : List ℕ) (n r : ℕ) (is : List Instr) → code_faults (strict_lines.of_body k f n r) s own rows is ≡ code_calls n is
  unfolding code_faults
  code_calls_lem own rows n r [] = refl
  code_calls_lem own rows n r (i ∷ is) =
      ap (λ (fs : List Fault). unless (calls_below n (called_name i)) CircularCall ∷ fs) (code_calls_lem own (rows_after s own rows i) n r is)

  part_calls_lem : (m : Member) (p : Part) → part_faults strict_lines s k f m p ≡ part_calls m p
  part_calls_lem (Method n a r) (body is) = ap (λ (fs : List Fault). none ∷ fs) (code_calls_lem (some f.row) (body_rows f a) n r is)
  part_calls_lem (Method n a r) (init x) = refl
  part_calls_lem (Field n r) (init x) = refl
  part_calls_lem (Field n r) (body is) = refl

-- THE INSTRUCTIONS OF A BODY

module _ (w : List ℕ) (name start count j : ℕ) where
  abbrev code : List Instr
  code = instrs_in w start count

  abbrev code_from : ℕ → List Fault
  code_from i = code_calls name (drop i code)

  count_is : length code ≡ count
  count_is = length-tab (λ i. instr_in w (start + i)) count

  pub code_end : count ≤ j → code_from j ≡ []
  code_end l = let e : length code ≤ j = omega (arith, count_is) in ap (code_calls name) (drop_of_length-le code e)

  pub code_next : j < count → {at : ℕ} → at ≡ start → {b : Bool} → b ≡ calls_below name (called_name (instr_in w (at + j)))
      → code_from j ≡ (unless b CircularCall ∷ []) ++ code_from (suc j)
  code_next l {at} e {b} asked =
      ap (code_calls name) (drop-cons code j (copy 0) (omega (arith, count_is)))
      ∙ ap (λ (x : Bool). unless x CircularCall ∷ code_from (suc j))
      (ap (λ (i : Instr). calls_below name (called_name i)) (get_or-tab (λ i. instr_in w (start + i)) count j (copy 0) l)
      ∙ ap (λ (p : ℕ). calls_below name (called_name (instr_in w (p + j)))) (sym e) ∙ sym asked)

-- A PART

module _ (w : List ℕ) (line : ℕ) {m m' : Member} {p p' : PartPlace} (em : m ≡ m') (ep : p ≡ p') where
  by_case : walk line (part_calls m' (part_told w p')) ≡ walk line (part_calls m (part_told w p))
  by_case = ap₂ (λ (x : Member) (y : PartPlace). walk line (part_calls x (part_told w y))) (sym em) (sym ep)

  -- a part of another kind than its member has no line
  pub part_none : part_calls m' (part_told w p') ≡ [] → Ok line ≡ walk line (part_calls m (part_told w p))
  part_none e = sym (walk_none line) ∙ ap (walk line) (sym e) ∙ by_case

  -- an `init` line is passed over
  pub part_init : part_calls m' (part_told w p') ≡ none ∷ [] → Ok (line + 1) ≡ walk line (part_calls m (part_told w p))
  part_init e = sym (walk_none (line + 1)) ∙ walk_good line [] ∙ ap (walk line) (sym e) ∙ by_case

-- and so is a `body` line, before its instructions
pub part_body : (w : List ℕ) (line : ℕ) {m : Member} {p : PartPlace} {n a r start count : ℕ} → m ≡ Method n a r → p ≡ PartPlace.Body start count → {k : ℕ} → k ≡ count → {x : Result ℕ Refusal}
    → x ≡ walk (line + 1) (code_calls n (instrs_in w start k)) → x ≡ walk line (part_calls m (part_told w p))
part_body w line {n = n} {start = start} em ep {k} e told =
    told ∙ walk_good line (code_calls n (instrs_in w start k)) ∙ ap (λ (c : ℕ). walk line (none ∷ code_calls n (instrs_in w start c))) e ∙ by_case w line em ep

-- THE PARTS OF A FORM

module _ {w : List ℕ} (h : Whole w) {f : ℕ} (l : f < length (sheet_in w).forms) {row : ℕ} (row_is : row ≡ (form_at (sheet_in w) f).row) {count : ℕ}
    (count_is : count ≡ length (members_at (sheet_in w) row)) (j : ℕ) where
  abbrev faults_of : List Member → List Part → List Fault
  faults_of ms ps = parts_faults strict_lines (sheet_in w) f (form_at (sheet_in w) f) ms ps

  abbrev parts_from : ℕ → List Fault
  parts_from i = faults_of (drop i (members_in w f)) (drop i (parts_in w f))

  pub parts_end : count ≤ j → parts_from j ≡ []
  unfolding parts_faults
  parts_end k =
      let past : length (members_in w f) ≤ j = omega (arith, all_members h l row_is count_is) in
      ap (λ (ms : List Member). faults_of ms (drop j (parts_in w f))) (drop_of_length-le (members_in w f) past)

  pub parts_next : j < count → {m : Member} → m ≡ get_or (members_at (sheet_in w) row) j no_member → (p : PartPlace) → part_told w p ≡ part_in w f j
      → parts_from j ≡ part_calls m (part_told w p) ++ parts_from (suc j)
  unfolding parts_faults
  parts_next more m-is p p-is =
      ap₂ faults_of (drop-cons (members_in w f) j no_member (in_members h l row_is count_is more)) (drop-cons (parts_in w f) j (init 0) (in_parts h l row_is count_is more))
      ∙ ap (λ (fs : List Fault). fs ++ parts_from (suc j))
      (part_calls_lem (sheet_in w) f (form_at (sheet_in w) f) (get_or (members_in w f) j no_member) (get_or (parts_in w f) j (init 0))
      ∙ sym (ap₂ part_calls (Member-is h l row_is count_is more m-is) (part_is h l row_is count_is more p p-is)))

-- a part has at most 33 lines
pub part_few : (w : List ℕ) (m : Member) {p : PartPlace} → PlaceSmall p → length (part_calls m (part_told w p)) ≤ 33
part_few w (Method n a r) (an_init {k = k}) = omega arith
part_few w (Method n a r) (a_body {start = start} {count = count} few) =
    omega (arith, length-map (instrs_in w start count) (λ i. unless (calls_below n (called_name i)) CircularCall), length-tab (λ i. instr_in w (start + i)) count)
part_few w (Field n r) (an_init {k = k}) = omega arith
part_few w (Field n r) (a_body few) = omega arith

-- THE FORMS

-- lines without a fault are passed over
pub walk_over : (n : ℕ) (xs : List ℕ) (fs : List Fault) → walk n (map (λ x. none) xs ++ fs) ≡ walk (n + length xs) fs
walk_over n [] fs = let e : n ≡ n + 0 = omega arith in ap (λ (k : ℕ). walk k fs) e
walk_over n (x ∷ xs) fs =
    let e : n + 1 + length xs ≡ n + suc (length xs) = omega arith in
    sym (walk_good n (map (λ x. none) xs ++ fs)) ∙ walk_over (n + 1) xs fs ∙ ap (λ (k : ℕ). walk k fs) e

module _ {w : List ℕ} (h : Whole w) where
  abbrev forms : List Form
  forms = (sheet_in w).forms

  abbrev forms_from : ℕ → List Fault
  forms_from i = forms_faults strict_lines (sheet_in w) i (drop i forms)

  abbrev form_lines : ℕ → List Fault
  form_lines f = form_faults strict_lines (sheet_in w) f (form_at (sheet_in w) f)

  pub forms_end : (f : ℕ) → length forms ≤ f → forms_from f ≡ []
  unfolding forms_faults
  forms_end f past = ap (forms_faults strict_lines (sheet_in w) f) (drop_of_length-le forms past)

  module _ {f : ℕ} (l : f < length forms) where
    pub forms_next : forms_from f ≡ form_lines f ++ forms_from (suc f)
    unfolding forms_faults
    forms_next = ap (forms_faults strict_lines (sheet_in w) f) (drop-cons forms f no_form l)

    -- a form has at most 273 lines
    pub form_few : length (form_lines f) ≤ 273
    form_few =
        let form : Form = form_at (sheet_in w) f in
        let a : length (keep_faults strict_lines f form ++ parts_calls (sheet_in w) f) ≡ length (keep_faults strict_lines f form) + length (parts_calls (sheet_in w) f) = length-append (keep_faults strict_lines f form) (parts_calls (sheet_in w) f) in
        let b = length-map form.keeps (strict_lines.of_keep f form) in
        let c = (form_well w h f l).few in
        let d = parts_lines strict_lines (sheet_in w) f form (parts-Pairwise w h f l) in
        let e = (h.sheet.rows form.row).few in
        omega arith

    -- its heading and its `keep` lines are passed over
    pub form_told : (line : ℕ) {keeps : ℕ} → keeps ≡ length (form_at (sheet_in w) f).keeps → {r : Result ℕ Refusal} → r ≡ walk (line + 1 + keeps) (parts_calls (sheet_in w) f) → r ≡ walk line (form_lines f)
    form_told line {keeps} e told =
        told
        ∙ ap (λ (k : ℕ). walk (line + 1 + k) (parts_calls (sheet_in w) f)) e
        ∙ sym (walk_over (line + 1) (form_at (sheet_in w) f).keeps (parts_calls (sheet_in w) f))
        ∙ walk_good line (keep_faults strict_lines f (form_at (sheet_in w) f) ++ parts_calls (sheet_in w) f)

-- THE SHEET

pub sheet_strict : (s : Sheet) {first : ℕ} → first ≡ first_form_line s → {forms : Result ℕ Refusal} → forms ≡ walk first (forms_calls s) → {v : Verdict} → v ≡ verdict_from forms → v ≡ strictness s
unfolding strictness line_faults
sheet_strict s {first} first-is {forms} told {v} e =
    e ∙ go forms
    ∙ ap (λ (x : Result ℕ Refusal). verdict_from (walk_on x (λ n. walk n (after_lines s)))) told
    ∙ ap verdict_from (sym (walk-append first (forms_calls s) (after_lines s)))
    ∙ ap (λ (n : ℕ). verdict_from (walk n (forms_calls s ++ after_lines s))) first-is
    ∙ sym (walk_verdict_lem (first_form_line s) (forms_calls s ++ after_lines s))
  where
    -- the lines after the forms' pass
    go : (x : Result ℕ Refusal) → verdict_from x ≡ verdict_from (walk_on x (λ n. walk n (after_lines s)))
    go (Ok n) = sym (sym (walk_verdict_lem n (after_lines s)) ∙ first_fault_accepts n (after_lines s) (after_none s))
    go (Err q) = refl
