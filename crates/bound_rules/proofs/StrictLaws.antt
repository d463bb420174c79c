-- Laws of the stricter kind of sheet: the machine's look-up finds every body of a readable sheet; no line is against the rule exactly
-- where each body of a method n calls names below n alone; and the line refused is that of such a call. Assumes nothing.
use Prim.Native.Nat.{ℕ, suc, pred, ◌≤◌, ◌<◌}
use native.Mathlib.Omega.{arith}
use mathlib.Core.Path.{◌≡◌, refl, sym, ap, ◌∙◌, subst}
use mathlib.Core.Bool.{Bool, true, false, cond}
use mathlib.Core.List.{List, [], ◌∷◌, ◌++◌, map}
use mathlib.Core.Option.{Option, none, some}
use mathlib.Core.Logic.{◌↔◌}
use lib.Dec.{T, eqb, ltb, ltb→lt, lt→ltb}
use lib.ListN.{get_or}
use borrow.Author.Tests.{eqb-true, eq-eqb, ne_eqb, ltb-false}
use Rattle.lists.specs.In.{In, here, there}
use Rattle.lists.proofs.InLaws.{In-nil, In-left, In-right}
use Rattle.lists.proofs.Tests.{clash}
use Rattle.sheet_rules.specs.declared.Member.{Member}
use Rattle.sheet_rules.specs.declared.Member.TheVariants.{Method, Field}
use Rattle.sheet_rules.specs.declared.Reason.{Reason}
use Rattle.sheet_rules.specs.declared.Reason.TheVariants.{CircularCall}
use Rattle.sheet_rules.specs.declared.Verdict.TheVariants.{Accepted, Refused}
use Rattle.sheet_rules.specs.Lines.{Line, torn, lines_of}
use Rattle.sheet_rules.specs.Sheet.{Instr, new, call, get, put, copy, called_name, Part, init, body, Form, Sheet}
use Rattle.sheet_rules.specs.Reading.{readable, meaning}
use Rattle.sheet_rules.specs.RowLines.{name_of}
use Rattle.sheet_rules.specs.WellFormed.{NamesAscend, end, above, WellFormed}
use Rattle.sheet_rules.specs.Print.{instr_written}
use Rattle.type_rules.specs.SlotRows.{members_at, main_rows, Own, rows_after, body_rows}
use Rattle.type_rules.specs.Typing.{Fault, unless, InstrJudge, code_faults, part_faults, parts_faults, keep_faults, form_faults, forms_faults, devices_faults, main_faults, line_faults, first_form_line}
use Rattle.type_rules.proofs.TypingLaws.{Faultless, first_fault-Faultless, unless_passed}
use Rattle.type_rules.proofs.TypedLaws.{Faultless-cons, Faultless-append, first_fault_accepts, passed}
use Rattle.type_rules.proofs.FaultLines.{FormIs, FaultOf, of_form, of_keep, of_init, of_body, of_instr, of_devices, of_device, of_main, of_main_instr, fault_line}
use Rattle.machine_rules.specs.Step.{body_in}
use Rattle.bound_rules.specs.Strict.{calls_below, strict_lines, strictness, body_of, CallsBelow, Strict}

-- THE MACHINE'S LOOK-UP

-- a part stands for a member, at the same place of both lists
pub data PartFor (m : Member) (p : Part) : List Member → List Part → Type 0 where
  first : {ms : List Member} {ps : List Part} → PartFor m p (m ∷ ms) (p ∷ ps)
  later : {x : Member} {y : Part} {ms : List Member} {ps : List Part} → PartFor m p ms ps → PartFor m p (x ∷ ms) (y ∷ ps)

-- a member of another name has no part in it
pub other_name : (n : ℕ) (m : Member) (p : Part) (ms : List Member) (ps : List Part) → (name_of m ≡ n → ⊥) → body_in (m ∷ ms) (p ∷ ps) n ≡ body_in ms ps n
unfolding body_in
other_name n (Field m r) p ms ps h = refl
other_name n (Method m a r) (init k) ms ps h = refl
other_name n (Method m a r) (body is) ms ps h = ap (λ (t : Bool). cond t (some is) (body_in ms ps n)) (ne_eqb m n h)

-- members of higher names have no body of this one
pub none_under : (n : ℕ) {b : ℕ} {ms : List Member} (ps : List Part) → NamesAscend b ms → n < b → body_in ms ps n ≡ none
unfolding body_in
none_under n ps end l = refl
none_under n [] (above h up) l = refl
none_under n (p ∷ ps) (above {x = m} {xs = ms} h up) l = other_name n m p ms ps (λ e. omega arith) ∙ none_under n ps up (omega arith)

-- what is found among later members is found among all
found_later : (x : Member) (y : Part) {ms : List Member} (ps : List Part) (n : ℕ) {is : List Instr} → NamesAscend (suc (name_of x)) ms → body_in ms ps n ≡ some is
    → body_in (x ∷ ms) (y ∷ ps) n ≡ some is
found_later x y {ms} ps n {is} up e = other_name n x y ms ps (λ q. not_found (none_under n ps up (omega arith))) ∙ e
  where
    not_found : body_in ms ps n ≡ none → ⊥
    not_found z = clash (cc)

-- every body is found by its method's name, as names ascend
pub body_found : {n a r b : ℕ} {is : List Instr} {ms : List Member} {ps : List Part} → NamesAscend b ms → PartFor (Method n a r) (body is) ms ps → body_in ms ps n ≡ some is
unfolding body_in
body_found {n} {is = is} (above l up) (first {ms = ms} {ps = ps}) = ap (λ (t : Bool). cond t (some is) (body_in ms ps n)) (eq-eqb n n refl)
body_found {n} (above l up) (later {x = x} {y = y} {ps = ps} j) = found_later x y ps n up (body_found up j)
body_found {n = n} {a = a} {r = r} {is = is} {ps = ps} (NamesAscend.end {i = i}) x4 = elim x4 [ ]

-- THE SHEETS WITHOUT A LINE AGAINST THE RULE

-- the judge of the instructions of a body of method n
abbrev below : ℕ → InstrJudge
below n rows i is = unless (calls_below n (called_name i)) CircularCall

calls_below_lem : (n : ℕ) (c : Option ℕ) → T (calls_below n c) → (m : ℕ) → c ≡ some m → m < n
calls_below_lem n none t m e = clash (cc)
calls_below_lem n (some k) t m e = let same : k ≡ m = cc in let h = ltb→lt k n t in omega arith

below_calls : (n : ℕ) (c : Option ℕ) → ((m : ℕ) → c ≡ some m → m < n) → T (calls_below n c)
below_calls n none h = tt
below_calls n (some k) h = lt→ltb k n (h k refl)

module _ (s : Sheet) (own : Own) (n : ℕ) where
  code_below : (rows : List ℕ) (is : List Instr) → Faultless (code_faults (below n) s own rows is) → CallsBelow n is
  unfolding code_faults
  code_below rows [] h i j m e = absurd (In-nil j)
  code_below rows (x ∷ is) h i (here q) m e =
      calls_below_lem n (called_name x) (unless_passed (calls_below n (called_name x)) CircularCall (h _ (here refl))) m (ap called_name (sym q) ∙ e)
  code_below rows (x ∷ is) h i (there j) m e = code_below (rows_after s own rows x) is (λ g k. h g (there k)) i j m e

  below_code : (rows : List ℕ) (is : List Instr) → CallsBelow n is → Faultless (code_faults (below n) s own rows is)
  unfolding code_faults
  below_code rows [] h = λ g j. absurd (In-nil j)
  below_code rows (x ∷ is) h =
      Faultless-cons (passed (calls_below n (called_name x)) CircularCall (below_calls n (called_name x) (h x (here refl))))
      (below_code (rows_after s own rows x) is (λ i j. h i (there j)))

module _ (s : Sheet) (k : ℕ) (f : Form) where
  parts_below : (ms : List Member) (ps : List Part) → Faultless (parts_faults strict_lines s k f ms ps) → (n : ℕ) (is : List Instr) → body_in ms ps n ≡ some is → CallsBelow n is
  unfolding parts_faults body_in
  parts_below [] ps h n is e = clash (cc)
  parts_below (m ∷ ms) [] h n is e = clash (cc)
  parts_below (Field m r ∷ ms) (p ∷ ps) h n is e =
      parts_below ms ps (λ g j. h g (In-right (part_faults strict_lines s k f (Field m r) p) (parts_faults strict_lines s k f ms ps) j)) n is e
  parts_below (Method m a r ∷ ms) (init x ∷ ps) h n is e = parts_below ms ps h n is e
  parts_below (Method m a r ∷ ms) (body js ∷ ps) h n is e =
      go (eqb m n) refl e (parts_below ms ps (λ g j. h g (In-right here-lines later-lines j)) n is)
    where
      here-lines : List Fault
      here-lines = part_faults strict_lines s k f (Method m a r) (body js)

      later-lines : List Fault
      later-lines = parts_faults strict_lines s k f ms ps

      this : CallsBelow m js
      this = code_below s (some f.row) m (body_rows f a) js (λ g j. h g (In-left here-lines later-lines (there j)))

      go : (t : Bool) → eqb m n ≡ t → cond t (some js) (body_in ms ps n) ≡ some is → (body_in ms ps n ≡ some is → CallsBelow n is) → CallsBelow n is
      go true q e more =
          let name : m ≡ n = eqb-true m n q in
          let code : js ≡ is = cc in
          subst (λ (c : List Instr). CallsBelow n c) code (subst (λ (x : ℕ). CallsBelow x js) name this)
      go false q e more = more e

  below_parts : (ms : List Member) (ps : List Part) → ((n a r : ℕ) (is : List Instr) → PartFor (Method n a r) (body is) ms ps → CallsBelow n is)
      → Faultless (parts_faults strict_lines s k f ms ps)
  unfolding parts_faults
  below_parts [] ps h = λ g j. absurd (In-nil j)
  below_parts (m ∷ ms) [] h = λ g j. absurd (In-nil j)
  below_parts (m ∷ ms) (p ∷ ps) h =
      Faultless-append (part_faults strict_lines s k f m p) (parts_faults strict_lines s k f ms ps) (part m p (λ n a r is e q. h n a r is (at e q)))
      (below_parts ms ps (λ n a r is j. h n a r is (later j)))
    where
      at : {x : Member} {y : Part} → m ≡ x → p ≡ y → PartFor x y (m ∷ ms) (p ∷ ps)
      at {x} {y} e q = subst (λ (z : Member). PartFor x y (z ∷ ms) (p ∷ ps)) (sym e) (subst (λ (z : Part). PartFor x y (x ∷ ms) (z ∷ ps)) (sym q) first)

      part : (x : Member) (y : Part) → ((n a r : ℕ) (is : List Instr) → x ≡ Method n a r → y ≡ body is → CallsBelow n is) → Faultless (part_faults strict_lines s k f x y)
      part (Field n r) (init c) t = Faultless-cons refl (λ g j. absurd (In-nil j))
      part (Field n r) (body is) t = λ g j. absurd (In-nil j)
      part (Method n a r) (init c) t = λ g j. absurd (In-nil j)
      part (Method n a r) (body is) t = Faultless-cons refl (below_code s (some f.row) n (body_rows f a) is (t n a r is refl refl))

  keeps_none : (ks : List ℕ) → Faultless (map (strict_lines.of_keep k f) ks)
  keeps_none [] = λ g j. absurd (In-nil j)
  keeps_none (x ∷ ks) = Faultless-cons refl (keeps_none ks)

module _ (s : Sheet) where
  form_below : (k : ℕ) (f : Form) → Faultless (form_faults strict_lines s k f) → (n : ℕ) (is : List Instr) → body_of s f n ≡ some is → CallsBelow n is
  form_below k f h =
      parts_below s k f (members_at s f.row) f.parts
      (λ g j. h g (there (In-right (keep_faults strict_lines k f) (parts_faults strict_lines s k f (members_at s f.row) f.parts) j)))

  forms_below : (k : ℕ) (fs : List Form) → Faultless (forms_faults strict_lines s k fs) → (f : Form) → In f fs → (n : ℕ) (is : List Instr) → body_of s f n ≡ some is → CallsBelow n is
  unfolding forms_faults
  forms_below k [] h f i = absurd (In-nil i)
  forms_below k (x ∷ fs) h f (here q) =
      subst (λ (g : Form). (n : ℕ) (is : List Instr) → body_of s g n ≡ some is → CallsBelow n is) (sym q)
      (form_below k x (λ g j. h g (In-left (form_faults strict_lines s k x) (forms_faults strict_lines s (suc k) fs) j)))
  forms_below k (x ∷ fs) h f (there i) =
      forms_below (suc k) fs (λ g j. h g (In-right (form_faults strict_lines s k x) (forms_faults strict_lines s (suc k) fs) j)) f i

  below_forms : (k : ℕ) (fs : List Form) → ((f : Form) → In f fs → (n a r : ℕ) (is : List Instr) → PartFor (Method n a r) (body is) (members_at s f.row) f.parts → CallsBelow n is)
      → Faultless (forms_faults strict_lines s k fs)
  unfolding forms_faults
  below_forms k [] h = λ g j. absurd (In-nil j)
  below_forms k (f ∷ fs) h =
      Faultless-append (form_faults strict_lines s k f) (forms_faults strict_lines s (suc k) fs)
      (Faultless-cons refl
      (Faultless-append (keep_faults strict_lines k f) (parts_faults strict_lines s k f (members_at s f.row) f.parts) (keeps_none s k f f.keeps)
      (below_parts s k f (members_at s f.row) f.parts (h f (here refl)))))
      (below_forms (suc k) fs (λ g i. h g (there i)))

  main_none : (rows : List ℕ) (is : List Instr) → Faultless (code_faults strict_lines.of_main s none rows is)
  unfolding code_faults
  main_none rows [] = λ g j. absurd (In-nil j)
  main_none rows (i ∷ is) = Faultless-cons refl (main_none (rows_after s none rows i) is)

  devices_none : (fs : List ℕ) → Faultless (devices_faults strict_lines fs)
  unfolding devices_faults
  devices_none [] = λ g j. absurd (In-nil j)
  devices_none (f ∷ fs) = Faultless-cons refl (each (f ∷ fs))
    where
      each : (fs : List ℕ) → Faultless (map strict_lines.of_device fs)
      each [] = λ g j. absurd (In-nil j)
      each (f ∷ fs) = Faultless-cons refl (each fs)

  -- no line after the forms' is against the rule
  abbrev pub after_lines : List Fault
  after_lines = devices_faults strict_lines s.devices ++ main_faults strict_lines s

  pub after_none : Faultless after_lines
  after_none = Faultless-append (devices_faults strict_lines s.devices) (main_faults strict_lines s) (devices_none s.devices) (Faultless-cons refl (main_none (main_rows s) s.main))

  -- of the sheets that reading gives, those without a line against the rule are exactly those of the stricter kind
  pub Strict-exactly : WellFormed s → (strictness s ≡ Accepted) ↔ Strict s
  unfolding strictness line_faults
  Strict-exactly w = (
    λ e. forms_below 0 s.forms (λ g j. first_fault-Faultless (first_form_line s) (line_faults strict_lines s) e g (In-left form_lines after_lines j)),
    λ h. first_fault_accepts (first_form_line s) (line_faults strict_lines s)
        (Faultless-append form_lines after_lines
        (below_forms 0 s.forms (λ f i n a r is j. h f i n is (body_found (w.rows f.row).names j))) after_none),
  )
    where
      form_lines : List Fault
      form_lines = forms_faults strict_lines s 0 s.forms

-- THE LINE OF A CIRCULAR CALL

-- a line is a `call` of a name that is not below n, in a body of a method n of the sheet
pub data CircularAt (s : Sheet) : Line → Type 0 where
  circular : {k n a r : ℕ} {f : Form} → FormIs s k f → In (Method n a r) (members_at s f.row) → (o m v : ℕ) → n ≤ m → CircularAt s (instr_written (call o m v))

instr_against : (s : Sheet) {k n a r : ℕ} {f : Form} → FormIs s k f → In (Method n a r) (members_at s f.row) → (i : Instr) {q : Reason}
    → unless (calls_below n (called_name i)) CircularCall ≡ some q → (q ≡ CircularCall) × CircularAt s (instr_written i)
instr_against s form member (new f ss) e = clash (cc)
instr_against s {n = n} form member (call o m v) {q} e = go (ltb m n) refl e
  where
    go : (t : Bool) → ltb m n ≡ t → unless t CircularCall ≡ some q → (q ≡ CircularCall) × CircularAt s (instr_written (call o m v))
    go true p e = clash (cc)
    go false p e = (cc, circular form member o m v (ltb-false m n p))
instr_against s form member (get n) e = clash (cc)
instr_against s form member (put n v) e = clash (cc)
instr_against s form member (copy v) e = clash (cc)

line_against : (s : Sheet) {g : Fault} {l : Line} {q : Reason} → FaultOf strict_lines s g l → g ≡ some q → (q ≡ CircularCall) × CircularAt s l
line_against s (of_form h) e = clash (cc)
line_against s (of_keep h i) e = clash (cc)
line_against s (of_init h i) e = clash (cc)
line_against s (of_body is) e = clash (cc)
line_against s (of_instr h i rows x is) e = instr_against s h i x e
line_against s of_devices e = clash (cc)
line_against s (of_device i) e = clash (cc)
line_against s of_main e = clash (cc)
line_against s (of_main_instr rows x is) e = clash (cc)

-- a readable text that is not of the stricter kind is refused with 12, on the line of such a call
pub circular_line : (text : List ℕ) {s : Sheet} → meaning text ≡ readable s → {q : Reason} {n : ℕ} → strictness s ≡ Refused q n
    → (q ≡ CircularCall) × CircularAt s (get_or (lines_of text) (pred n) torn)
unfolding strictness
circular_line text {s} e t = line_against s (fault_line text e t) refl
