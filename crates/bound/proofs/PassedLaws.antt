-- The members of a form's row that have lower names than one: names ascend, so the member after these is the only one that can have the
-- name. Assumes nothing.
use Prim.Native.Nat.{ℕ, suc, ◌+◌, ◌≤◌, ◌<◌, min}
use native.Mathlib.Omega.{arith}
use native.Mathlib.Numerals.{add-one}
use mathlib.Core.Path.{◌≡◌, refl, sym, ap, ◌∙◌, subst}
use mathlib.Core.Bool.{Bool, true, false, cond}
use mathlib.Core.List.{List, [], ◌∷◌}
use mathlib.Core.Option.{Option, none, some}
use lib.Dec.{eqb, ltb}
use lib.ListN.{length, get_or, set}
use lib.Seq.{set-get_or}
use borrow.Author.Tests.{ltb-true, ltb-false, lt-ltb, le-ltb, eqb-true, eqb-false, eq-eqb}
use Rattle.lists.specs.Pairwise.{Pairwise, pair}
use Rattle.sheet_rules.specs.declared.Member.{Member}
use Rattle.sheet_rules.specs.declared.Member.TheVariants.{Method, Field}
use Rattle.sheet_rules.specs.RowLines.{name_of}
use Rattle.sheet_rules.specs.Sheet.{Instr, Part, init, body, no_member, form_at}
use Rattle.sheet_rules.specs.WellFormed.{NamesAscend, end, above, PartOf}
use Rattle.machine_rules.specs.Step.{body_in}
use Rattle.type_rules.specs.SlotRows.{members_at}
use Rattle.table.specs.View.{part_in, sheet_in}
use Rattle.table.specs.declared.forms.PartPlace.{PartPlace}
use Rattle.table.specs.Told.{part_told}
use Rattle.table.specs.Whole.{Whole}
use Rattle.table.proofs.SheetLaws.{parts-Pairwise}
use Rattle.bound_rules.specs.Strict.{body_of}
use Rattle.bound_rules.specs.Amount.{body_amount}
use Rattle.bound_rules.specs.BoundQuestion.{amount_limit}
use Rattle.bound_rules.proofs.StrictLaws.{other_name, none_under}
use Rattle.bound.specs.Told.{code_of, passed_below, members_below, FormTold}
use Rattle.bound.proofs.MembersLaws.{members_in, parts_in, all_members, Member-is, part_is}

module _ (n : ℕ) where
  -- the first member, by its name

  passed_more : (m : Member) (ms : List Member) → name_of m < n → passed_below (m ∷ ms) n ≡ suc (passed_below ms n)
  unfolding passed_below
  passed_more m ms l = ap (λ (t : Bool). cond t (suc (passed_below ms n)) 0) (lt-ltb (name_of m) n l)

  passed_end : (m : Member) (ms : List Member) → n ≤ name_of m → passed_below (m ∷ ms) n ≡ 0
  unfolding passed_below
  passed_end m ms l = ap (λ (t : Bool). cond t (suc (passed_below ms n)) 0) (le-ltb (name_of m) n l)

  -- none of the members of higher names is passed
  none_passed : {b : ℕ} {ms : List Member} → NamesAscend b ms → n ≤ b → passed_below ms n ≡ 0
  unfolding passed_below
  none_passed end l = refl
  none_passed (above {x = m} {xs = ms} h up) l = passed_end m ms (omega arith)

-- the member of a name has its body, if it is a method
this_name : (n : ℕ) (m : Member) (p : Part) {forms keeps b : ℕ} {ms : List Member} (ps : List Part) → PartOf forms keeps m p → NamesAscend b ms → n < b → name_of m ≡ n
    → body_in (m ∷ ms) (p ∷ ps) n ≡ code_of p
unfolding body_in
this_name n (Field m r) (init k) ps (PartOf.field h) up l e = none_under n ps up l
this_name n (Method m a r) (body is) {ms = ms} ps (PartOf.method h) up l e = ap (λ (t : Bool). cond t (some is) (body_in ms ps n)) (eq-eqb m n e)
this_name n (Method m a r) (init k) {forms = forms} {keeps = keeps} {b = b} {ms = ms} ps x8 up l e = elim x8 [ ]
this_name n (Field m r) (body is) {forms = forms} {keeps = keeps} {b = b} {ms = ms} ps x9 up l e = elim x9 [ ]

-- no name is below 0
pub passed_zero : (ms : List Member) → passed_below ms 0 ≡ 0
unfolding passed_below
passed_zero [] = refl
passed_zero (m ∷ ms) = passed_end 0 m ms (omega arith)

-- what stands at place k, after the members of lower names: none; the member of another name; or that of the name, which is passed next
pub data Stands (n : ℕ) (ms : List Member) (ps : List Part) (k : ℕ) : Type 0 where
  gone : length ms ≤ k → body_in ms ps n ≡ none → passed_below ms (suc n) ≡ k → Stands n ms ps k
  other : k < length ms → (name_of (get_or ms k no_member) ≡ n → ⊥) → body_in ms ps n ≡ none → passed_below ms (suc n) ≡ k → Stands n ms ps k
  this : k < length ms → name_of (get_or ms k no_member) ≡ n → body_in ms ps n ≡ code_of (get_or ps k (init 0)) → passed_below ms (suc n) ≡ suc k → Stands n ms ps k

pub stands : (n : ℕ) {forms keeps b : ℕ} {ms : List Member} {ps : List Part} → NamesAscend b ms → Pairwise (PartOf forms keeps) ms ps → Stands n ms ps (passed_below ms n)
unfolding passed_below body_in
stands n end Pairwise.none = gone (omega arith) refl refl
stands n {forms} {keeps} (above {x = m} {xs = ms} h up) (pair {y = p} {ys = ps} o rest) = go (ltb (name_of m) n) refl (stands n up rest)
  where
    here : (t : Bool) → eqb (name_of m) n ≡ t → n ≤ name_of m → Stands n (m ∷ ms) (p ∷ ps) 0
    here true q l =
        let e : name_of m ≡ n = eqb-true (name_of m) n q in
        this (omega arith) e (this_name n m p ps o up (omega arith) e)
        (passed_more (suc n) m ms (omega arith) ∙ ap suc (none_passed (suc n) up (omega arith)))
    here false q l =
        let d : name_of m ≡ n → ⊥ = eqb-false (name_of m) n q in
        let l' : suc n ≤ name_of m = omega arith in
        other (omega arith) d (other_name n m p ms ps d ∙ none_under n ps up (omega arith)) (passed_end (suc n) m ms l')

    later : {k : ℕ} → name_of m < n → Stands n ms ps k → Stands n (m ∷ ms) (p ∷ ps) (suc k)
    later l (gone g e q) = gone (omega arith) (other_name n m p ms ps (λ d. omega arith) ∙ e) (passed_more (suc n) m ms (omega arith) ∙ ap suc q)
    later l (other g d e q) = other (omega arith) d (other_name n m p ms ps (λ d. omega arith) ∙ e) (passed_more (suc n) m ms (omega arith) ∙ ap suc q)
    later l (this g d e q) = this (omega arith) d (other_name n m p ms ps (λ d. omega arith) ∙ e) (passed_more (suc n) m ms (omega arith) ∙ ap suc q)

    go : (t : Bool) → ltb (name_of m) n ≡ t → Stands n ms ps (passed_below ms n) → Stands n (m ∷ ms) (p ∷ ps) (cond t (suc (passed_below ms n)) 0)
    go true q s = later (ltb-true (name_of m) n q) s
    go false q s = here (eqb (name_of m) n) refl (ltb-false (name_of m) n q)

-- A FORM'S BODY OF A NAME, OVER THE TABLE

module _ {w : List ℕ} (h : Whole w) {f : ℕ} (l : f < length (sheet_in w).forms) {row : ℕ} (row_is : row ≡ (form_at (sheet_in w) f).row) {count : ℕ}
    (count-is : count ≡ length (members_at (sheet_in w) row)) (n : ℕ) (ys : List ℕ) {j : ℕ} (j-is : j ≡ get_or ys f 0) (below : get_or ys f 0 ≡ members_below (sheet_in w) f n) (xs : List ℕ) where
  at : Stands n (members_in w f) (parts_in w f) j
  at = subst (Stands n (members_in w f) (parts_in w f)) (sym (j-is ∙ below)) (stands n (h.sheet.rows (form_at (sheet_in w) f).row).names (parts-Pairwise w h f l))

  -- nothing is passed
  nothing : body_of (sheet_in w) (form_at (sheet_in w) f) n ≡ none → members_below (sheet_in w) f (suc n) ≡ j → FormTold (sheet_in w) xs f n ys ys 0
  nothing e q =
      record {
        amount = ap (λ (c : Option (List Instr)). min (body_amount xs c) amount_limit) (sym e);
        passed = sym (ap (set ys f) (q ∙ j-is) ∙ set-get_or ys f 0);
      }

  pub form_gone : count ≤ j → FormTold (sheet_in w) xs f n ys ys 0
  form_gone k = go at
    where
      go : Stands n (members_in w f) (parts_in w f) j → FormTold (sheet_in w) xs f n ys ys 0
      go (gone g e q) = nothing e q
      go (other g d e q) = nothing e q
      go (this g d e q) = absurd (omega (arith, all_members h l row_is count-is))

  module _ (more : j < count) {m : ℕ} (m-is : m ≡ name_of (get_or (members_at (sheet_in w) row) j no_member)) {k : ℕ} (k-is : k ≡ m) where
    name_is : k ≡ name_of (get_or (members_in w f) j no_member)
    name_is = k-is ∙ m-is ∙ ap name_of (Member-is h l row_is count-is more refl)

    pub form_other : (k ≡ n → ⊥) → FormTold (sheet_in w) xs f n ys ys 0
    form_other d = go at
      where
        go : Stands n (members_in w f) (parts_in w f) j → FormTold (sheet_in w) xs f n ys ys 0
        go (gone g e q) = nothing e q
        go (other g d e q) = nothing e q
        go (this g c e q) = absurd (d (name_is ∙ c))

    pub form_this : k ≡ n → {ys' : List ℕ} → ys' ≡ set ys f (get_or ys f 0 + 1) → (p : PartPlace) → part_told w p ≡ part_in w f j → {r : ℕ} → r ≡ min (body_amount xs (code_of (part_told w p))) amount_limit
        → FormTold (sheet_in w) xs f n ys ys' r
    form_this c {ys'} stored p p-is {r} told = go at
      where
        go : Stands n (members_in w f) (parts_in w f) j → FormTold (sheet_in w) xs f n ys ys' r
        go (gone g e q) = absurd (omega (arith, all_members h l row_is count-is))
        go (other g d e q) = absurd (d (sym name_is ∙ c))
        go (this g d e q) =
            record {
              amount = told ∙ ap (λ (x : Option (List Instr)). min (body_amount xs x) amount_limit) (ap code_of (part_is h l row_is count-is more p p-is) ∙ sym e);
              passed = stored ∙ ap (set ys f) (ap (λ (k : ℕ). k + 1) (sym j-is) ∙ add-one j ∙ sym q);
            }
