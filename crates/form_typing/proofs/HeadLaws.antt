-- The heading and the `keep` lines of a form, and all its lines: a law for each exit and turn. Assumes nothing.
use Prim.Native.Nat.{ℕ, suc, ◌+◌, ◌≤◌, ◌<◌}
use native.Mathlib.Omega.{arith}
use native.Mathlib.Numerals.{add-one}
use mathlib.Core.Path.{◌≡◌, refl, sym, ap, ap₂, subst, ◌∙◌}
use mathlib.Core.Bool.{Bool, true, false, not, ◌&&◌, ◌||◌}
use mathlib.Core.List.{List, [], ◌∷◌, ◌++◌, map}
use lib.ListN.{length, get_or, drop, drop_of_length-le, length-map}
use lib.Seq.{drop-cons}
use Rattle.lists.proofs.Tests.{clash}
use Rattle.sheet_rules.specs.declared.Member.{Member}
use Rattle.sheet_rules.specs.declared.Member.TheVariants.{Method, Field}
use Rattle.sheet_rules.specs.declared.Reason.TheVariants.{ImpureForm}
use Rattle.sheet_rules.specs.Sheet.{Row, Sheet, no_member, row_at, form_at}
use Rattle.type_rules.specs.Typing.{Fault, unless, is_pure, has_field, form_fault, keep_fault}
use Rattle.table.specs.Layout.{slot_row_address}
use Rattle.table.specs.View.{sheet_in}
use Rattle.table.proofs.ViewLaws.{Only-refl}
use Rattle.std.specs.declared.result.Result.{Result}
use Rattle.std.specs.declared.result.Result.TheVariants.{Ok, Err}
use Rattle.sheet_rules.specs.declared.Refusal.{Refusal}
use Rattle.sheet_rules.specs.Answers.{turned_away}
use Rattle.code_typing.specs.Walk.{walk, walk_on}
use Rattle.code_typing.specs.Told.{LinesJudged}
use Rattle.code_typing.proofs.WalkLaws.{walk_none, walk_good, walk_bad, walk-append, walk-length}
use Rattle.form_typing.specs.Told.{parts_faults_in, keep_faults_in, form_faults_in}

-- a row has a field

field_first : (m : Member) (ms : List Member) (b : Bool) → has_field (m ∷ []) ≡ b → has_field (m ∷ ms) ≡ (b || has_field ms)
unfolding has_field
field_first (Method n a r) ms true e = clash (cc)
field_first (Method n a r) ms false e = refl
field_first (Field n r) ms true e = refl
field_first (Field n r) ms false e = clash (cc)

module _ (ms : List Member) (j : ℕ) (same : has_field (drop j ms) ≡ has_field ms) where
  here : j < length ms → {m : Member} → m ≡ get_or ms j no_member → has_field (m ∷ drop (suc j) ms) ≡ has_field ms
  here l e = ap (λ (x : Member). has_field (x ∷ drop (suc j) ms)) e ∙ sym (ap has_field (drop-cons ms j no_member l)) ∙ same

  pub field_next : j < length ms → {m : Member} → m ≡ get_or ms j no_member → has_field (m ∷ []) ≡ false → has_field (drop (j + 1) ms) ≡ has_field ms
  field_next l {m} e n = ap (λ (k : ℕ). has_field (drop k ms)) (add-one j) ∙ sym (field_first m (drop (suc j) ms) false n) ∙ here l e

  pub field_hit : j < length ms → {m : Member} → m ≡ get_or ms j no_member → has_field (m ∷ []) ≡ true → true ≡ has_field ms
  field_hit l {m} e n = sym (field_first m (drop (suc j) ms) true n) ∙ here l e

  pub field_end : length ms ≤ j → false ≡ has_field ms
  unfolding has_field
  field_end l = sym (ap has_field (drop_of_length-le ms l)) ∙ same

-- tests joined

pub neither : {a : Bool} (b : Bool) → a ≡ false → not (a && b) ≡ true
neither b e = ap (λ (x : Bool). not (x && b)) e

pub not_both : {a b : Bool} → a ≡ true → b ≡ false → not (a && b) ≡ true
not_both e f = ap₂ (λ (x y : Bool). not (x && y)) e f

pub both : {a b : Bool} → a ≡ true → b ≡ true → not (a && b) ≡ false
both e f = ap₂ (λ (x y : Bool). not (x && y)) e f

pub not-not : (b : Bool) → not (not b) ≡ b
not-not true = refl
not-not false = refl

-- the `keep` lines

-- where the loop stands
pub record KeepsWalk (s : Sheet) (a : Row) (ks : List ℕ) (first j : ℕ) : Type 0 where
  pub same : walk (first + j) (map (keep_fault s a) (drop j ks)) ≡ walk first (map (keep_fault s a) ks)

pub keeps_start : {s : Sheet} {a : Row} {ks : List ℕ} {first : ℕ} → KeepsWalk s a ks first 0
keeps_start {s} {a} {ks} {first} = record { same = ap (λ (n : ℕ). walk n (map (keep_fault s a) ks)) (omega arith) }

module _ {s : Sheet} {a : Row} {ks : List ℕ} {first j : ℕ} (g : KeepsWalk s a ks first j) where
  abbrev line : ℕ
  line = first + j

  abbrev faults : List ℕ → List Fault
  faults xs = map (keep_fault s a) xs

  pub keeps_end : {count : ℕ} → count ≡ length ks → count ≤ j → j ≤ count → Ok (first + count) ≡ walk first (faults ks)
  keeps_end {count} e k m =
      let l : length ks ≤ j = omega arith in
      let at_end : first + count ≡ line = omega arith in
      ap Ok at_end ∙ sym (walk_none line) ∙ sym (ap (λ (xs : List ℕ). walk line (faults xs)) (drop_of_length-le ks l)) ∙ g.same

  module _ (l : j < length ks) {pure : Bool} (pure-is : pure ≡ is_pure a.kind) {k : ℕ} (k-is : k ≡ get_or ks j 0) {t : Bool}
      (asked : t ≡ not (pure && not (is_pure (row_at s.rows k).kind))) where
    fault_is : unless t ImpureForm ≡ keep_fault s a (get_or ks j 0)
    fault_is = ap (λ (b : Bool). unless b ImpureForm) (asked ∙ ap₂ (λ (p : Bool) (i : ℕ). not (p && not (is_pure (row_at s.rows i).kind))) pure-is k-is)

    at_line : walk line (unless t ImpureForm ∷ faults (drop (suc j) ks)) ≡ walk first (faults ks)
    at_line =
        ap (λ (f : Fault). walk line (f ∷ faults (drop (suc j) ks))) fault_is
        ∙ sym (ap (λ (xs : List ℕ). walk line (faults xs)) (drop-cons ks j 0 l)) ∙ g.same

    pub keeps_stop : t ≡ false → turned_away ImpureForm line ≡ walk first (faults ks)
    keeps_stop e =
        walk_bad line ImpureForm (faults (drop (suc j) ks))
        ∙ ap (λ (b : Bool). walk line (unless b ImpureForm ∷ faults (drop (suc j) ks))) (sym e) ∙ at_line

    pub keeps_next : t ≡ true → KeepsWalk s a ks first (j + 1)
    keeps_next e =
        record {
          same =
              ap (λ (n : ℕ). walk n (faults (drop (j + 1) ks))) (omega arith)
              ∙ ap (λ (i : ℕ). walk (line + 1) (faults (drop i ks))) (add-one j)
              ∙ walk_good line (faults (drop (suc j) ks))
              ∙ ap (λ (b : Bool). walk line (unless b ImpureForm ∷ faults (drop (suc j) ks))) (sym e) ∙ at_line;
        }

-- all lines of a form

module _ (w : List ℕ) (f line : ℕ) {row : ℕ} (row_is : row ≡ (form_at (sheet_in w) f).row) {head : Result ℕ Refusal} (told : head ≡ walk line (form_fault (row_at (sheet_in w).rows row) ∷ [])) where
  abbrev rest : List Fault
  rest = keep_faults_in w f ++ parts_faults_in w f

  after_head : walk_on head (λ n. walk n rest) ≡ walk line (form_faults_in w f)
  after_head =
      ap (λ (x : Result ℕ Refusal). walk_on x (λ n. walk n rest)) (told ∙ ap (λ (a : ℕ). walk line (form_fault (row_at (sheet_in w).rows a) ∷ [])) row_is)
      ∙ sym (walk-append line (form_fault (row_at (sheet_in w).rows (form_at (sheet_in w) f).row) ∷ []) rest)

  pub head-Stopped : {q : Refusal} → head ≡ Err q → LinesJudged (form_faults_in w f) line w w (Err q)
  head-Stopped e =
      record {
        told = ap (λ (x : Result ℕ Refusal). walk_on x (λ n. walk n rest)) (sym e) ∙ after_head;
        only = Only-refl (slot_row_address 0) (slot_row_address 63 + 1) w;
      }

  module _ {n : ℕ} (on : head ≡ Ok n) where
    pub head_next : n ≡ line + 1
    head_next = walk-length line (form_fault (row_at (sheet_in w).rows row) ∷ []) n (sym told ∙ on)

    module _ {keeps : Result ℕ Refusal} (told₂ : keeps ≡ walk n (keep_faults_in w f)) where
      after_keeps : walk_on keeps (λ m. walk m (parts_faults_in w f)) ≡ walk line (form_faults_in w f)
      after_keeps =
          ap (λ (x : Result ℕ Refusal). walk_on x (λ m. walk m (parts_faults_in w f))) told₂ ∙ sym (walk-append n (keep_faults_in w f) (parts_faults_in w f))
          ∙ ap (λ (x : Result ℕ Refusal). walk_on x (λ n. walk n rest)) (sym on) ∙ after_head

      pub keeps-Stopped : {q : Refusal} → keeps ≡ Err q → LinesJudged (form_faults_in w f) line w w (Err q)
      keeps-Stopped e =
          record {
            told = ap (λ (x : Result ℕ Refusal). walk_on x (λ m. walk m (parts_faults_in w f))) (sym e) ∙ after_keeps;
            only = Only-refl (slot_row_address 0) (slot_row_address 63 + 1) w;
          }

      module _ {m : ℕ} (on₂ : keeps ≡ Ok m) where
        pub keeps_after : m ≡ n + length (form_at (sheet_in w) f).keeps
        keeps_after =
            walk-length n (keep_faults_in w f) m (sym told₂ ∙ on₂)
            ∙ ap (λ (k : ℕ). n + k) (length-map (form_at (sheet_in w) f).keeps (keep_fault (sheet_in w) (row_at (sheet_in w).rows (form_at (sheet_in w) f).row)))

        pub form_judged : {w' : List ℕ} {r : Result ℕ Refusal} → LinesJudged (parts_faults_in w f) m w w' r → LinesJudged (form_faults_in w f) line w w' r
        form_judged k =
            record { told = k.told ∙ ap (λ (x : Result ℕ Refusal). walk_on x (λ m. walk m (parts_faults_in w f))) (sym on₂) ∙ after_keeps; only = k.only }

-- what is judged over the sheet of a buffer is judged over the buffer

pub judged_after : (f n : ℕ) {v w w' : List ℕ} {r : Result ℕ Refusal} → v ≡ w → LinesJudged (form_faults_in v f) n v w' r → LinesJudged (form_faults_in w f) n w w' r
judged_after f n {w' = w'} {r = r} e = subst (λ (x : List ℕ). LinesJudged (form_faults_in x f) n x w' r) e

pub judged_here : (f n : ℕ) {v w : List ℕ} {r : Result ℕ Refusal} → v ≡ w → LinesJudged (form_faults_in v f) n v v r → LinesJudged (form_faults_in w f) n w w r
judged_here f n {r = r} e = subst (λ (x : List ℕ). LinesJudged (form_faults_in x f) n x x r) e

pub parts_there : (f : ℕ) {n : ℕ} {v w w' : List ℕ} {r : Result ℕ Refusal} → v ≡ w → LinesJudged (parts_faults_in w f) n w w' r → LinesJudged (parts_faults_in v f) n v w' r
parts_there f {n} {w' = w'} {r = r} e = subst (λ (x : List ℕ). LinesJudged (parts_faults_in x f) n x w' r) (sym e)
