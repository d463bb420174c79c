-- The parts of a form: a law for each turn of their loop. Assumes nothing.
use Prim.Native.Nat.{ℕ, suc, ◌+◌, ◌*◌, ◌≤◌, ◌<◌}
use native.Mathlib.Omega.{arith}
use native.Mathlib.Numerals.{add-one}
use mathlib.Core.Path.{◌≡◌, refl, sym, ap, ap₂, subst, ◌∙◌}
use mathlib.Core.List.{List, [], ◌∷◌, ◌++◌}
use mathlib.Core.Option.{some}
use lib.ListN.{length, get_or, drop, drop_of_length-le, length-append}
use lib.Seq.{drop-cons}
use Rattle.lists.specs.Pairwise.{Pairwise, none, pair}
use Rattle.lists.proofs.PairwiseLaws.{Pairwise-at}
use Rattle.lists.proofs.TabLaws.{length-tab}
use Rattle.sheet_rules.specs.declared.FitAnswer.{FitAnswer}
use Rattle.sheet_rules.specs.declared.Member.{Member}
use Rattle.sheet_rules.specs.declared.Member.TheVariants.{Method, Field}
use Rattle.sheet_rules.specs.Sheet.{Instr, Part, init, body, Form, Sheet, no_member, form_at}
use Rattle.sheet_rules.specs.WellFormed.{PartOf}
use Rattle.type_rules.specs.SlotRows.{Own, members_at, body_rows, rows_after}
use Rattle.type_rules.specs.Typing.{Fault, InstrJudge, LineJudge, code_faults, part_faults, parts_faults, typed_lines}
use Rattle.table.specs.Layout.{slot_row_address}
use Rattle.table.specs.View.{instr_in, instrs_in, part_in, sheet_in}
use Rattle.table.specs.declared.forms.PartPlace.{PartPlace}
use Rattle.table.specs.Told.{part_told}
use Rattle.table.specs.Whole.{Whole}
use Rattle.table.proofs.ViewLaws.{SameTable, only→same, Only-refl, Only-trans, part_in_same}
use Rattle.table.proofs.SheetLaws.{parts-Pairwise, parts-length, part_there}
use Rattle.std.specs.declared.result.Result.{Result}
use Rattle.std.specs.declared.result.Result.TheVariants.{Ok, Err}
use Rattle.sheet_rules.specs.declared.Refusal.{Refusal}
use Rattle.code_typing.specs.Walk.{walk, walk_on}
use Rattle.code_typing.specs.Told.{judge_in, instr_judge_in, OnlySlots, LinesJudged}
use Rattle.code_typing.proofs.WalkLaws.{walk_none, walk-append, walk-length}
use Rattle.code_typing.proofs.CodeLaws.{slots_sheet, slots_answers, slots_whole}
use Rattle.form_typing.specs.Told.{PlaceSmall, a_body, part_faults_in, parts_faults_in}
use Rattle.form_typing.proofs.PartLaws.{place_small}

-- a line for each instruction, whatever the judge
instr_lines : (judge : InstrJudge) (s : Sheet) (own : Own) (rows : List ℕ) (is : List Instr) → length (code_faults judge s own rows is) ≡ length is
unfolding code_faults
instr_lines judge s own rows [] = refl
instr_lines judge s own rows (i ∷ is) = ap suc (instr_lines judge s own (rows_after s own rows i) is)

-- a part has at most 33 lines
part_lines : (w : List ℕ) (f : ℕ) (m : Member) (p : PartPlace) → PlaceSmall p → length (part_faults_in w f m p) ≤ 33
part_lines w f (Method n a r) (PartPlace.Init k) s = omega arith
part_lines w f (Method n a r) (PartPlace.Body start count) (a_body h) =
    let form : Form = form_at (sheet_in w) f in
    omega (arith, instr_lines (instr_judge_in w (some form.row) (some r)) (sheet_in w) (some form.row) (body_rows form a) (instrs_in w start count), length-tab (λ i. instr_in w (start + i)) count)
part_lines w f (Field n r) (PartPlace.Init k) s = omega arith
part_lines w f (Field n r) (PartPlace.Body start count) s = omega arith

-- and so all parts have at most 33 for each member
pub parts_lines : (judge : LineJudge) (s : Sheet) (n : ℕ) (f : Form) {forms keeps : ℕ} {ms : List Member} {ps : List Part} → Pairwise (PartOf forms keeps) ms ps
    → length (parts_faults judge s n f ms ps) ≤ 33 * length ms
unfolding parts_faults
parts_lines judge s n f none = omega arith
parts_lines judge s n f (pair {x = m} {y = p} {xs = ms} {ys = ps} o rest) =
    let i = parts_lines judge s n f rest in
    let j = one m p o in
    let k : length (part_faults judge s n f m p ++ parts_faults judge s n f ms ps) ≡ length (part_faults judge s n f m p) + length (parts_faults judge s n f ms ps) = length-append (part_faults judge s n f m p) (parts_faults judge s n f ms ps) in
    omega arith
  where
    one : {forms keeps : ℕ} (x : Member) (y : Part) → PartOf forms keeps x y → length (part_faults judge s n f x y) ≤ 33
    one (Field m r) (init k) (PartOf.field h) = omega arith
    one (Method m a r) (body is) (PartOf.method h) = omega (arith, h.few, instr_lines (judge.of_body n f m r) s (some f.row) (body_rows f a) is)
    one (Method m a r) (init k) x4 = elim x4 [ ]
    one (Field m r) (body is) x5 = elim x5 [ ]

-- where the loop stands
pub record PartsGoing (f first : ℕ) (w₀ w : List ℕ) (j line : ℕ) : Type 0 where
  pub within : j ≤ length (members_at (sheet_in w₀) (form_at (sheet_in w₀) f).row)
  pub only : OnlySlots w₀ w
  pub lined : line ≤ first + 33 * j
  pub same : walk line (parts_faults (judge_in w₀) (sheet_in w₀) f (form_at (sheet_in w₀) f) (drop j (members_at (sheet_in w₀) (form_at (sheet_in w₀) f).row)) (drop j (form_at (sheet_in w₀) f).parts))
      ≡ walk first (parts_faults_in w₀ f)

pub parts_start : {f first : ℕ} {w₀ : List ℕ} → PartsGoing f first w₀ w₀ 0 first
parts_start {w₀ = w₀} = record { within = omega arith; only = Only-refl (slot_row_address 0) (slot_row_address 63 + 1) w₀; lined = omega arith; same = refl }

module _ {f first : ℕ} {w₀ w : List ℕ} {j line : ℕ} (g : PartsGoing f first w₀ w j line) (h : Whole w₀) where
  abbrev form : Form
  form = form_at (sheet_in w₀) f

  abbrev members : List Member
  members = members_at (sheet_in w₀) form.row

  abbrev faults : List Member → List Part → List Fault
  faults ms ps = parts_faults (judge_in w₀) (sheet_in w₀) f form ms ps

  table_same : SameTable w₀ w
  table_same = only→same (slot_row_address 0) (slot_row_address 63 + 1) w₀ w (omega arith) g.only

  pub parts_whole : Whole w
  parts_whole = slots_whole g.only h

  -- row and count are read in the sheet of the buffer at the start
  module _ {v₀ : List ℕ} (e₀ : v₀ ≡ w₀) {row : ℕ} (row_was : row ≡ (form_at (sheet_in v₀) f).row) {count : ℕ} (count_was : count ≡ length (members_at (sheet_in v₀) row)) where
    row_is : row ≡ form.row
    row_is = row_was ∙ ap (λ (x : List ℕ). (form_at (sheet_in x) f).row) e₀

    all_members : count ≡ length members
    all_members = count_was ∙ (λ i. length (members_at (sheet_in (e₀ i)) (row_is i)))

    -- member j may be read in the sheet of the buffer as it is
    pub parts_asks : j < count → {v : List ℕ} → v ≡ w → j < length (members_at (sheet_in v) row)
    parts_asks more e =
        let same : sheet_in w₀ ≡ sheet_in w = sym (slots_sheet g.only) in
        let all : count ≡ length (members_at (sheet_in w₀) row) = count_was ∙ ap (λ (x : List ℕ). length (members_at (sheet_in x) row)) e₀ in
        subst (λ (s : Sheet). j < length (members_at s row)) (same ∙ sym (ap sheet_in e)) (omega (arith, all))

    pub parts_end : count ≤ j → LinesJudged (parts_faults_in w₀ f) first w₀ w (Ok line)
    unfolding parts_faults
    parts_end k =
        let past : length members ≤ j = omega (arith, all_members) in
        record {
          told = sym (walk_none line) ∙ sym (ap (λ (ms : List Member). walk line (faults ms (drop j form.parts))) (drop_of_length-le members past)) ∙ g.same;
          only = g.only;
        }

    module _ (l : f < length (sheet_in w₀).forms) (more : j < count) {v : List ℕ} (e : v ≡ w) {m : Member} (m-is : m ≡ get_or (members_at (sheet_in v) row) j no_member) (p : PartPlace) (p-is : part_told v p ≡ part_in v f j) where
      in_members : j < length members
      in_members = omega (arith, all_members)

      member_is : m ≡ get_or members j no_member
      member_is =
          let same : sheet_in v ≡ sheet_in w₀ = ap sheet_in e ∙ slots_sheet g.only in
          m-is ∙ (λ i. get_or (members_at (same i) (row_is i)) j no_member)

      in_parts : j < length form.parts
      in_parts = omega (arith, in_members, parts-length w₀ h f l)

      part_is : part_told w p ≡ get_or form.parts j (init 0)
      part_is = subst (λ (x : List ℕ). part_told x p ≡ part_in x f j) e p-is ∙ part_in_same w₀ w table_same f j ∙ sym (part_there w₀ h f l j in_parts)

      pub parts_small : PlaceSmall p
      parts_small = place_small w p part_is (Pairwise-at members form.parts j no_member (init 0) (parts-Pairwise w₀ h f l) in_members)

      module _ {w' : List ℕ} {r : Result ℕ Refusal} (t : LinesJudged (part_faults_in w f m p) line w w' r) where
        faults_of : (ℕ → ℕ → FitAnswer) → Sheet → Member → Part → List Fault
        faults_of fit s x y = part_faults (typed_lines fit s) s f (form_at s f) x y

        here : part_faults_in w f m p ≡ part_faults (judge_in w₀) (sheet_in w₀) f form (get_or members j no_member) (get_or form.parts j (init 0))
        unfolding faults_of
        here = λ x. faults_of (slots_answers g.only x) (slots_sheet g.only x) (member_is x) (part_is x)

        abbrev rest : List Fault
        rest = faults (drop (suc j) members) (drop (suc j) form.parts)

        step : walk_on r (λ n. walk n rest) ≡ walk first (parts_faults_in w₀ f)
        unfolding parts_faults
        step =
            ap (λ (x : Result ℕ Refusal). walk_on x (λ n. walk n rest)) (t.told ∙ ap (walk line) here)
            ∙ sym (walk-append line (part_faults (judge_in w₀) (sheet_in w₀) f form (get_or members j no_member) (get_or form.parts j (init 0))) rest)
            ∙ sym (ap₂ (λ (ms : List Member) (ps : List Part). walk line (faults ms ps)) (drop-cons members j no_member in_members) (drop-cons form.parts j (init 0) in_parts))
            ∙ g.same

        only' : OnlySlots w₀ w'
        only' = Only-trans g.only t.only

        pub parts_stop : {q : Refusal} → r ≡ Err q → LinesJudged (parts_faults_in w₀ f) first w₀ w' (Err q)
        parts_stop e = record { told = ap (λ (x : Result ℕ Refusal). walk_on x (λ n. walk n rest)) (sym e) ∙ step; only = only' }

        pub parts_next : {n : ℕ} → r ≡ Ok n → PartsGoing f first w₀ w' (j + 1) n
        parts_next {n} e =
            record {
              within = omega (arith, in_members);
              only = only';
              lined =
                  (let a = walk-length line (part_faults_in w f m p) n (sym t.told ∙ e) in
                  let b = part_lines w f m p parts_small in
                  let c = g.lined in
                  omega arith);
              same =
                  ap (λ (i : ℕ). walk n (faults (drop i members) (drop i form.parts))) (add-one j)
                  ∙ ap (λ (x : Result ℕ Refusal). walk_on x (λ n. walk n rest)) (sym e) ∙ step;
            }
