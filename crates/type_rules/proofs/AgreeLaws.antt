-- Two tests of fit that agree on the rows of a sheet find the same faults: typing asks about no row that is not there. So code may
-- stand on a table for these rows alone. Assumes nothing.
use Prim.Native.Nat.{ℕ, suc, ◌≤◌, ◌<◌}
use native.Mathlib.Omega.{arith}
use native.Mathlib.Decide.{dec_le}
use mathlib.Core.Path.{◌≡◌, refl, sym, ap, ap₂, ◌∙◌, subst}
use mathlib.Core.Bool.{Bool, true, false, cond, ◌&&◌}
use mathlib.Core.List.{List, [], ◌∷◌, ◌++◌, map}
use mathlib.Core.Option.{Option, none, some}
use mathlib.Core.Logic.{◌⊎◌, inl, inr}
use lib.Dec.{T, eqb, ltb, ltb→lt, lt→ltb}
use lib.ListN.{length, get_or, get_or-eq_default}
use Rattle.lists.specs.In.{In, here, there}
use Rattle.lists.proofs.InLaws.{In-nil, In-snoc, In-get_or}
use Rattle.lists.proofs.Tests.{and_left, and_right, and_intro}
use Rattle.sheet_rules.specs.declared.FitAnswer.{FitAnswer}
use Rattle.sheet_rules.specs.declared.Lack.{Lack}
use Rattle.sheet_rules.specs.declared.Member.{Member}
use Rattle.sheet_rules.specs.declared.Member.TheVariants.{Method, Field}
use Rattle.sheet_rules.specs.declared.Reason.TheVariants.{Misfit}
use Rattle.sheet_rules.specs.Sheet.{Row, Instr, new, call, get, put, copy, Part, init, body, Form, Sheet, no_row, no_form, form_at}
use Rattle.sheet_rules.specs.RowLines.{mentions_below}
use Rattle.sheet_rules.specs.WellFormed.{Mentions, WellFormed}
use Rattle.type_rules.specs.SlotRows.{Signature, method_in, field_in, members_at, Own, own_field, result_of, row_or0, slot_row, body_rows, main_rows}
use Rattle.type_rules.specs.Typing.{Fault, unless, first_of, fit_fault, slots_fault, call_fault, put_fault, instr_fault, result_fault, code_faults, part_faults, parts_faults, keep_faults, form_faults, forms_faults, devices_faults, line_faults, typed_instr, typed_lines}
use Rattle.type_rules.proofs.TypingLaws.{result_row}

-- what holds of a list's elements, and of what stands in where there is none, holds of all that is looked up
looked_up : {A : Type 0} (P : A → Type 0) (xs : List A) (d : A) → P d → ((k : ℕ) → k < length xs → P (get_or xs k d)) → (k : ℕ) → P (get_or xs k d)
looked_up P xs d p h k = go (dec_le (suc k) (length xs))
  where
    go : Dec (suc k ≤ length xs) → P (get_or xs k d)
    go (yes q) = h k q
    go (no q) = subst P (sym (get_or-eq_default xs d (omega arith))) p

both_below : (k a r : ℕ) → T (ltb a k && ltb r k) → (a < k) × (r < k)
both_below k a r t = (ltb→lt a k (and_left (ltb a k) (ltb r k) t), ltb→lt r k (and_right (ltb a k) (ltb r k) t))

pub mentions_more : (i k : ℕ) → i ≤ k → (x : Member) → T (mentions_below i x) → T (mentions_below k x)
mentions_more i k h (Method n a r) t =
    let p = both_below i a r t in
    and_intro (ltb a k) (ltb r k) (lt→ltb a k (omega arith)) (lt→ltb r k (omega arith))
mentions_more i k h (Field n r) t = let p : r < i = ltb→lt r i t in lt→ltb r k (omega arith)

-- the argument's row, with row 0 where no method was found, as for the result's (SlotRows.result_of)
abbrev argument_of : Option Signature → ℕ
argument_of none = 0
argument_of (some m) = m.argument

module _ {s : Sheet} (w : WellFormed s) where
  -- THE ROWS THAT TYPING MEETS

  -- a row of the sheet; row 0, which stands in where a look-up finds nothing, is one
  abbrev Here : ℕ → Type 0
  Here a = a < length s.rows

  abbrev AllHere : List ℕ → Type 0
  AllHere rows = (a : ℕ) → In a rows → Here a

  Here-cons : {a : ℕ} {rows : List ℕ} → Here a → AllHere rows → AllHere (a ∷ rows)
  Here-cons h all b (here e) = subst Here (sym e) h
  Here-cons h all b (there i) = all b i

  Here-snoc : {a : ℕ} (rows : List ℕ) → AllHere rows → Here a → AllHere (rows ++ (a ∷ []))
  Here-snoc {a} rows all h b i = go (In-snoc rows i)
    where
      go : In b rows ⊎ (b ≡ a) → Here b
      go (inl j) = all b j
      go (inr e) = subst Here (sym e) h

  Here-at : (rows : List ℕ) → AllHere rows → (v : ℕ) → Here (get_or rows v 0)
  Here-at rows all = looked_up Here rows 0 w.some_rows (λ v q. all (get_or rows v 0) (In-get_or rows v 0 q))

  -- no bound on a is asked: a number that is not there has no members
  members_here : (a : ℕ) → Mentions (length s.rows) (members_at s a)
  members_here =
      looked_up (λ (r : Row). Mentions (length s.rows) r.members) s.rows no_row (λ x i. absurd (In-nil i))
      (λ a q x i. mentions_more a (length s.rows) (omega arith) x ((w.rows a).lower x i))

  method_here : (xs : List Member) → Mentions (length s.rows) xs → (n : ℕ) → Here (argument_of (method_in xs n)) × Here (result_of (method_in xs n))
  unfolding method_in
  method_here [] h n = (w.some_rows, w.some_rows)
  method_here (Field m r ∷ xs) h n = method_here xs (λ x i. h x (there i)) n
  method_here (Method m a r ∷ xs) h n = go (eqb m n) (method_here xs (λ x i. h x (there i)) n)
    where
      found : Bool → Option Signature
      found b = cond b (some (record { argument = a; result = r })) (method_in xs n)

      go : (b : Bool) → Here (argument_of (method_in xs n)) × Here (result_of (method_in xs n)) → Here (argument_of (found b)) × Here (result_of (found b))
      go true more = both_below (length s.rows) a r (h (Method m a r) (here refl))
      go false more = more

  field_here : (xs : List Member) → Mentions (length s.rows) xs → (n : ℕ) → Here (row_or0 (field_in xs n))
  unfolding field_in
  field_here [] h n = w.some_rows
  field_here (Method m a r ∷ xs) h n = field_here xs (λ x i. h x (there i)) n
  field_here (Field m r ∷ xs) h n = go (eqb m n) (field_here xs (λ x i. h x (there i)) n)
    where
      go : (b : Bool) → Here (row_or0 (field_in xs n)) → Here (row_or0 (cond b (some r) (field_in xs n)))
      go true more = ltb→lt r (length s.rows) (h (Field m r) (here refl))
      go false more = more

  own_here : (own : Own) (n : ℕ) → Here (row_or0 (own_field s own n))
  own_here none n = w.some_rows
  own_here (some a) n = field_here (members_at s a) (members_here a) n

  form_here : (k : ℕ) → Here (form_at s k).row × AllHere (form_at s k).keeps
  form_here =
      looked_up (λ (x : Form). Here x.row × AllHere x.keeps) s.forms no_form (w.some_rows, λ a i. absurd (In-nil i))
      (λ k q. let x = w.forms (form_at s k) (In-get_or s.forms k no_form q) in (x.row, x.keeps))

  forms_here : (fs : List ℕ) → AllHere (map (λ f. (form_at s f).row) fs)
  forms_here [] = λ a i. absurd (In-nil i)
  forms_here (f ∷ fs) = Here-cons (form_here f).0 (forms_here fs)

  slot_here : (own : Own) (rows : List ℕ) → AllHere rows → (i : Instr) → Here (slot_row s own rows i)
  slot_here own rows all (new k ss) = (form_here k).0
  slot_here own rows all (call o n a) = (method_here (members_at s (get_or rows o 0)) (members_here (get_or rows o 0)) n).1
  slot_here own rows all (get n) = own_here own n
  slot_here own rows all (put n v) = own_here own n
  slot_here own rows all (copy v) = Here-at rows all v

  -- TESTS THAT AGREE

  module _ {f g : ℕ → ℕ → FitAnswer} (agree : (a b : ℕ) → a < length s.rows → b < length s.rows → f a b ≡ g a b) where
    fit_agree : (a b : ℕ) → Here a → Here b → fit_fault (f a b) ≡ fit_fault (g a b)
    fit_agree a b p q = ap fit_fault (agree a b p q)

    slots_agree : (rows : List ℕ) → AllHere rows → (vs bs : List ℕ) → AllHere bs → slots_fault f rows vs bs ≡ slots_fault g rows vs bs
    unfolding slots_fault
    slots_agree rows all [] bs h = refl
    slots_agree rows all (v ∷ vs) [] h = refl
    slots_agree rows all (v ∷ vs) (b ∷ bs) h =
        ap₂ first_of (fit_agree (get_or rows v 0) b (Here-at rows all v) (h b (here refl))) (slots_agree rows all vs bs (λ a i. h a (there i)))

    call_agree : (m : Option Signature) (a : ℕ) → Here (argument_of m) → Here a → call_fault f m a ≡ call_fault g m a
    call_agree none a p q = refl
    call_agree (some m) a p q = fit_agree a m.argument q p

    put_agree : (r : Option ℕ) (a : ℕ) → Here (row_or0 r) → Here a → put_fault f r a ≡ put_fault g r a
    put_agree none a p q = refl
    put_agree (some r) a p q = fit_agree a r q p

    instr_agree : (own : Own) (rows : List ℕ) → AllHere rows → (i : Instr) → instr_fault f s own rows i ≡ instr_fault g s own rows i
    instr_agree own rows all (new k ss) =
        let bs : List ℕ = (form_at s k).keeps in
        ap (first_of (unless (eqb (length ss) (length bs)) (Misfit Lack.Count))) (slots_agree rows all ss bs (form_here k).1)
    instr_agree own rows all (call o n a) =
        call_agree (method_in (members_at s (get_or rows o 0)) n) (get_or rows a 0) (method_here (members_at s (get_or rows o 0)) (members_here (get_or rows o 0)) n).0 (Here-at rows all a)
    instr_agree own rows all (get n) = refl
    instr_agree own rows all (put n v) = put_agree (own_field s own n) (get_or rows v 0) (own_here own n) (Here-at rows all v)
    instr_agree own rows all (copy v) = refl

    result_agree : (result : Option ℕ) (a : ℕ) (is : List Instr) → Here (row_or0 result) → Here a → result_fault f result a is ≡ result_fault g result a is
    result_agree none a is p q = refl
    result_agree (some r) a [] p q = fit_agree a r q p
    result_agree (some r) a (i ∷ is) p q = refl

    instrs_agree : (own : Own) (result : Option ℕ) → Here (row_or0 result) → (rows : List ℕ) → AllHere rows → (is : List Instr)
        → code_faults (typed_instr f s own result) s own rows is ≡ code_faults (typed_instr g s own result) s own rows is
    unfolding code_faults
    instrs_agree own result p rows all [] = refl
    instrs_agree own result p rows all (i ∷ is) =
        let q : Here (slot_row s own rows i) = slot_here own rows all i in
        ap₂ ◌∷◌
        (ap₂ first_of (instr_agree own rows all i)
        (result_row f s own result rows i is ∙ result_agree result (slot_row s own rows i) is p q ∙ sym (result_row g s own result rows i is)))
        (instrs_agree own result p (rows ++ (slot_row s own rows i ∷ [])) (Here-snoc rows all q) is)

    module _ (number : ℕ) (x : Form) (row : Here x.row) (keeps : AllHere x.keeps) where
      part_agree : (m : Member) → T (mentions_below (length s.rows) m) → (p : Part) → part_faults (typed_lines f s) s number x m p ≡ part_faults (typed_lines g s) s number x m p
      part_agree (Field n r) t (init k) =
          ap (λ (e : Fault). e ∷ []) (fit_agree (get_or x.keeps k 0) r (Here-at x.keeps keeps k) (ltb→lt r (length s.rows) t))
      part_agree (Method n a r) t (body is) =
          let p = both_below (length s.rows) a r t in
          ap (λ (es : List Fault). none ∷ es)
          (instrs_agree (some x.row) (some r) p.1 (body_rows x a) (Here-cons row (Here-cons p.0 keeps)) is)
      part_agree (Field n r) t (body is) = refl
      part_agree (Method n a r) t (init k) = refl

      parts_agree : (ms : List Member) → Mentions (length s.rows) ms → (ps : List Part) → parts_faults (typed_lines f s) s number x ms ps ≡ parts_faults (typed_lines g s) s number x ms ps
      unfolding parts_faults
      parts_agree [] h ps = refl
      parts_agree (m ∷ ms) h [] = refl
      parts_agree (m ∷ ms) h (p ∷ ps) = ap₂ ◌++◌ (part_agree m (h m (here refl)) p) (parts_agree ms (λ y i. h y (there i)) ps)

      form_agree : form_faults (typed_lines f s) s number x ≡ form_faults (typed_lines g s) s number x
      form_agree =
          ap (λ (es : List Fault). (typed_lines g s).of_form number x ∷ (keep_faults (typed_lines g s) number x ++ es))
          (parts_agree (members_at s x.row) (members_here x.row) x.parts)

    forms_agree : (n : ℕ) (xs : List Form) → ((x : Form) → In x xs → Here x.row × AllHere x.keeps)
        → forms_faults (typed_lines f s) s n xs ≡ forms_faults (typed_lines g s) s n xs
    unfolding forms_faults
    forms_agree n [] h = refl
    forms_agree n (x ∷ xs) h =
        let p = h x (here refl) in
        ap₂ ◌++◌ (form_agree n x p.0 p.1) (forms_agree (suc n) xs (λ y i. h y (there i)))

    devices_agree : (ds : List ℕ) → devices_faults (typed_lines f s) ds ≡ devices_faults (typed_lines g s) ds
    unfolding devices_faults
    devices_agree [] = refl
    devices_agree (d ∷ ds) = refl

    -- the faults of a sheet's lines depend on the test only at rows that the sheet has
    pub faults_agree : line_faults (typed_lines f s) s ≡ line_faults (typed_lines g s) s
    unfolding line_faults
    faults_agree =
        ap₂ ◌++◌ (forms_agree 0 s.forms (λ x i. ((w.forms x i).row, (w.forms x i).keeps)))
        (ap₂ (λ (es is : List Fault). es ++ (none ∷ is)) (devices_agree s.devices)
        (instrs_agree none none w.some_rows (main_rows s) (forms_here s.devices) s.main))
