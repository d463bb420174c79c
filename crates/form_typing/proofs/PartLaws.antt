-- A part of a form, judged: a law for each exit. Assumes nothing.
use Prim.Native.Nat.{ℕ, ◌+◌, ◌≤◌}
use native.Mathlib.Omega.{arith}
use mathlib.Core.Path.{◌≡◌, refl, sym, ap, ap₂, ◌∙◌, subst}
use mathlib.Core.List.{List, [], ◌∷◌}
use mathlib.Core.Option.{none, some}
use lib.ListN.{length}
use Rattle.lists.proofs.TabLaws.{tab_ext, length-tab}
use Rattle.sheet_rules.specs.declared.FitAnswer.{FitAnswer}
use Rattle.sheet_rules.specs.declared.Member.{Member}
use Rattle.sheet_rules.specs.declared.Member.TheVariants.{Method, Field}
use Rattle.sheet_rules.specs.Sheet.{Instr, Part, body, Sheet, form_at}
use Rattle.sheet_rules.specs.WellFormed.{PartOf}
use Rattle.type_rules.specs.SlotRows.{slot_rows}
use Rattle.type_rules.specs.Typing.{Fault, code_faults, typed_instr}
use Rattle.table.specs.Layout.{slot_row_address}
use Rattle.table.specs.View.{instr_in, instrs_in, sheet_in}
use Rattle.table.specs.declared.forms.PartPlace.{PartPlace}
use Rattle.table.specs.Told.{slot_rows_in, part_told}
use Rattle.table.proofs.ViewLaws.{Only-refl, Only-trans}
use Rattle.std.specs.declared.result.Result.{Result}
use Rattle.std.specs.declared.result.Result.TheVariants.{Ok}
use Rattle.sheet_rules.specs.declared.Refusal.{Refusal}
use Rattle.code_typing.specs.Walk.{walk}
use Rattle.code_typing.specs.Told.{LinesJudged, CodeJudged, code_faults_in, code_slot_rows}
use Rattle.code_typing.proofs.WalkLaws.{walk_none, walk_good}
use Rattle.code_typing.proofs.CodeLaws.{slots_sheet, slots_instr, slots_answers}
use Rattle.form_typing.specs.Told.{SlotsFilled, PlaceSmall, an_init, a_body, body_faults, body_slot_rows, part_faults_in}

-- a body's lines and slots, after its first slots were put in place
pub body_judged : (result start : ℕ) {f argument line : ℕ} {w : List ℕ} {row : ℕ} → row ≡ (form_at (sheet_in w) f).row → {w₁ : List ℕ} {filled : ℕ} → SlotsFilled f argument w w₁ filled
    → {count count' : ℕ} → count' ≡ count → {w' : List ℕ} {r : Result ℕ Refusal}
    → CodeJudged (code_faults_in w₁ (some row) (some result) filled start count') (code_slot_rows w₁ (some row) filled start count') (line + 1) w₁ w' r
    → CodeJudged (body_faults w f argument result start count) (body_slot_rows w f argument start count) line w w' r
body_judged result start {f} {argument} {line} {w} {row} row_is {w₁} {filled} s {count} {count'} ec {w'} k =
    record {
      lines = record { told = k.lines.told ∙ walk_good line _ ∙ ap (walk line) faults; only = Only-trans s.only k.lines.only };
      slots = λ n e. subst (λ (rows : List ℕ). slot_rows_in w' (length rows) ≡ rows) rows_are (k.slots n e);
    }
  where
    faults_of : (ℕ → ℕ → FitAnswer) → Sheet → ℕ → List ℕ → List Instr → List Fault
    faults_of fit x a rows is = code_faults (typed_instr fit x (some a) (some result)) x (some a) rows is

    instrs : instrs_in w₁ start count' ≡ instrs_in w start count
    instrs =
        ap (instrs_in w₁ start) ec
        ∙ tab_ext (λ i. instr_in w₁ (start + i)) (λ i. instr_in w (start + i)) count (λ i h. slots_instr s.only (start + i))

    faults : none ∷ code_faults_in w₁ (some row) (some result) filled start count' ≡ body_faults w f argument result start count
    faults = λ x. none ∷ faults_of (slots_answers s.only x) (slots_sheet s.only x) (row_is x) (s.rows x) (instrs x)

    slots_of : Sheet → ℕ → List ℕ → List Instr → List ℕ
    slots_of x a rows is = slot_rows x (some a) rows is

    rows_are : code_slot_rows w₁ (some row) filled start count' ≡ body_slot_rows w f argument start count
    rows_are = λ x. slots_of (slots_sheet s.only x) (row_is x) (s.rows x) (instrs x)

-- a part, by its member and its place
part_by : (w : List ℕ) (f : ℕ) {m m' : Member} {p p' : PartPlace} → m ≡ m' → p ≡ p' → part_faults_in w f m' p' ≡ part_faults_in w f m p
part_by w f em ep = ap₂ (part_faults_in w f) (sym em) (sym ep)

module _ (f : ℕ) {line : ℕ} {w : List ℕ} {m : Member} {p : PartPlace} where
  none_judged : {m' : Member} {p' : PartPlace} → m ≡ m' → p ≡ p' → part_faults_in w f m' p' ≡ [] → LinesJudged (part_faults_in w f m p) line w w (Ok line)
  none_judged em ep e =
      record {
        told = sym (walk_none line) ∙ ap (walk line) (sym e ∙ part_by w f em ep);
        only = Only-refl (slot_row_address 0) (slot_row_address 63 + 1) w;
      }

  pub part_none_init : {n a r k : ℕ} → m ≡ Method n a r → p ≡ PartPlace.Init k → LinesJudged (part_faults_in w f m p) line w w (Ok line)
  part_none_init em ep = none_judged em ep refl

  pub part_none_body : {n r start count : ℕ} → m ≡ Field n r → p ≡ PartPlace.Body start count → LinesJudged (part_faults_in w f m p) line w w (Ok line)
  part_none_body em ep = none_judged em ep refl

-- what a body's place has, where the place is small
pub small_count : {p : PartPlace} → PlaceSmall p → {start count : ℕ} → p ≡ PartPlace.Body start count → count ≤ 32
small_count s {start} {count} e = go start count (subst PlaceSmall e s)
  where
    go : (a c : ℕ) → PlaceSmall (PartPlace.Body a c) → c ≤ 32
    go a c (a_body h) = h

-- a part of a well-formed form has a small place
pub place_small : (w : List ℕ) (p : PartPlace) {forms keeps : ℕ} {m : Member} {x : Part} → part_told w p ≡ x → PartOf forms keeps m x → PlaceSmall p
place_small w (PartPlace.Init k) e o = an_init
place_small w (PartPlace.Body start count) {forms} {keeps} {m} e o = a_body (few m (subst (PartOf forms keeps m) (sym e) o))
  where
    few : (y : Member) → PartOf forms keeps y (body (instrs_in w start count)) → count ≤ 32
    few (Method n a r) (PartOf.method b) = omega (arith, b.few, length-tab (λ i. instr_in w (start + i)) count)
    few (Field _ _) x7 = elim x7 [ ]
