-- Laws of the forms and bodies that reading gives: they name rows, forms, kept values and slots that are there. Assumes nothing.
use Prim.Native.Nat.{ℕ, suc, ◌+◌, ◌≤◌, ◌<◌}
use native.Mathlib.Omega.{arith}
use mathlib.Core.Path.{◌≡◌, refl, sym, ap, ◌∙◌, subst}
use mathlib.Core.List.{List, [], ◌∷◌, ◌++◌, append-nil}
use mathlib.Core.Logic.{◌⊎◌, inl, inr}
use lib.Dec.{T, leb, ltb, leb→le, ltb→lt}
use lib.ListN.{length, get_or, length-append, length-drop}
use lib.Seq.{get_or_at, append_snoc}
use Rattle.lists.specs.In.{In}
use Rattle.lists.specs.Pairwise.{Pairwise, none}
use Rattle.lists.proofs.InLaws.{In-nil, In-snoc}
use Rattle.lists.proofs.PairwiseLaws.{Pairwise-length, Pairwise-snoc}
use Rattle.lists.proofs.Tests.{and_left, and_right}
use Rattle.sheet_rules.specs.declared.Member.{Member}
use Rattle.sheet_rules.specs.declared.Member.TheVariants.{Method, Field}
use Rattle.sheet_rules.specs.declared.Operation.{Operation}
use Rattle.sheet_rules.specs.declared.Operation.TheVariants.{New, Call, Get, Put, Copy}
use Rattle.sheet_rules.specs.declared.Place.{Place}
use Rattle.sheet_rules.specs.Limits.{keep_limit, body_limit, instruction_limit}
use Rattle.sheet_rules.specs.Keys.{count_of, same_place, takes, stands, operation_of}
use Rattle.sheet_rules.specs.Lines.{Line}
use Rattle.sheet_rules.specs.Sheet.{Row, Instr, named_slots, Part, Form, no_member, row_at, size_of_parts, size_of_forms}
use Rattle.sheet_rules.specs.Reader.{Reader, nth, within, existing_line, one, many}
use Rattle.sheet_rules.specs.FormLines.{FormHeading, form_line, body_line, instr_of, all_below, instr_line, read_instrs, read_part, read_form}
use Rattle.sheet_rules.specs.WellFormed.{WellFormedInstr, Scoped, end, next, PartOf, field, method, WellFormedForm}
use Rattle.sheet_rules.proofs.KeysLaws.{most_nine}
use Rattle.sheet_rules.proofs.ReaderLaws.{Judges, its_good, Gives, its_got, Judges-demand, Gives-one, Gives-then, Gives-map, Gives-many, existing_line_below, ThereSoFar, Gives-there}

-- BODIES

-- how many instructions follow a `body` or `main` line, after `used` of the sheet
pub record Room (used i : ℕ) : Type 0 where
  pub some : 1 ≤ i
  pub few : i ≤ body_limit
  pub whole : used + i ≤ instruction_limit

pub body_line-Room : (wanted : Place) (used : ℕ) (k : Place) (ns : List ℕ) → Judges (Room used) (body_line wanted used k ns)
unfolding body_line
body_line-Room wanted used k ns =
    Judges-demand (Room used) _ _ _ (λ _. Judges-demand (Room used) _ _ _ (λ t.
    let w : T (within 1 body_limit (nth ns 0)) = and_left (within 1 body_limit (nth ns 0)) (leb (used + nth ns 0) instruction_limit) t in
    its_good (record {
      some = leb→le 1 (nth ns 0) (and_left (leb 1 (nth ns 0)) (leb (nth ns 0) body_limit) w);
      few = leb→le (nth ns 0) body_limit (and_right (leb 1 (nth ns 0)) (leb (nth ns 0) body_limit) w);
      whole = leb→le (used + nth ns 0) instruction_limit (and_right (within 1 body_limit (nth ns 0)) (leb (used + nth ns 0) instruction_limit) t);
    })))

Scoped-snoc : {forms filled : ℕ} (is : List Instr) (j : Instr) → Scoped forms filled is → WellFormedInstr forms (filled + length is) j
    → Scoped forms filled (is ++ (j ∷ []))
Scoped-snoc {forms} {filled} [] j r t =
    let e : filled + 0 ≡ filled = omega arith in
    next (subst (λ (m : ℕ). WellFormedInstr forms m j) e t) end
Scoped-snoc {forms} {filled} (i ∷ is) j (next u r) t =
    let e : filled + suc (length is) ≡ suc filled + length is = omega arith in
    next u (Scoped-snoc is j r (subst (λ (m : ℕ). WellFormedInstr forms m j) e t))

-- of numbers below a bound, the first and the others
pub first_below : {bound x : ℕ} (xs : List ℕ) → T (all_below bound (x ∷ xs)) → x < bound
unfolding all_below
first_below {bound} {x} xs t = ltb→lt x bound (and_left (ltb x bound) (all_below bound xs) t)

pub others_below : (bound x : ℕ) (xs : List ℕ) → T (all_below bound (x ∷ xs)) → T (all_below bound xs)
unfolding all_below
others_below bound x xs t = and_right (ltb x bound) (all_below bound xs) t

-- a line that stands where it may has at most the numbers of a `new` with 8 kept values
numbers_few : (wanted k : Place) (ns : List ℕ) → T (stands wanted k ns) → length ns ≤ suc keep_limit
numbers_few wanted k ns t =
    let m = leb→le (length ns) (count_of k).most
    (and_right (leb (count_of k).fewest (length ns)) (leb (length ns) (count_of k).most) (and_right (same_place k wanted) (takes k (length ns)) t)) in
    let n = most_nine k in
    omega arith

instr_of_few : (operation : Operation) (ns : List ℕ) → length ns ≤ suc keep_limit → length (named_slots (instr_of operation ns)) ≤ keep_limit
instr_of_few New ns h = rw length-drop (omega arith)
instr_of_few Call ns h = omega arith
instr_of_few Get ns h = omega arith
instr_of_few Put ns h = omega arith
instr_of_few Copy ns h = omega arith

instr_line_well_formed : (forms filled : ℕ) (k : Place) (ns : List ℕ) → Judges (WellFormedInstr forms filled) (instr_line forms filled k ns)
unfolding instr_line
instr_line_well_formed forms filled k ns =
    Judges-demand P _ _ _ (λ here. Judges-demand P _ _ _ (λ name. Judges-demand P _ _ _ (λ t.
    its_good (record { exist = t; name = name; few = instr_of_few (operation_of k) ns (numbers_few (Place.Instruction New) k ns here) }))))
  where
    P : Instr → Type 0
    P = WellFormedInstr forms filled

-- reading i instructions gives i, each of which names what is there
pub read_instrs-Scoped : (forms filled i : ℕ) (ls : List Line) (n : ℕ)
    → Gives (λ is. Scoped forms filled is × (length is ≡ i)) (read_instrs forms filled i ls n)
unfolding read_instrs
read_instrs-Scoped forms filled i ls n =
    Gives-map (λ is p. (p.0, omega (arith, p.1))) (many i item [] ls n)
    (Gives-many P item
    (λ k before p ls n. Gives-map
    (λ j t. (Scoped-snoc before j p.0 t, rw length-append (omega (arith, p.1)))) (item before ls n)
    (Gives-one (WellFormedInstr forms (filled + length before)) (instr_line forms (filled + length before))
    (instr_line_well_formed forms (filled + length before)) ls n))
    i [] (end, omega arith) ls n)
  where
    item : List Instr → Reader Instr
    item before = one (instr_line forms (filled + length before))

    P : ℕ → List Instr → Type 0
    P k is = Scoped forms filled is × (length is + k ≡ i)

-- PARTS

read_part_of : (forms keeps used : ℕ) (m : Member) (ls : List Line) (n : ℕ) → Gives (PartOf forms keeps m) (read_part forms keeps used m ls n)
unfolding read_part
read_part_of forms keeps used (Field m r) ls n =
    Gives-then (λ k. k < keeps) (PartOf forms keeps (Field m r)) _ _
    (Gives-one (λ k. k < keeps) (existing_line Place.Init keeps) (existing_line_below Place.Init keeps) ls n)
    (λ k h ls n. its_got (field h))
read_part_of forms keeps used (Method m a r) ls n =
    Gives-then (Room used) (PartOf forms keeps (Method m a r)) _ _
    (Gives-one (Room used) (body_line Place.Body used) (body_line-Room Place.Body used) ls n) (λ i room ls n.
    Gives-then (λ is. Scoped forms (suc (suc keeps)) is × (length is ≡ i)) (PartOf forms keeps (Method m a r)) _ _
    (read_instrs-Scoped forms (suc (suc keeps)) i ls n) (λ is p ls n.
    its_got (method (record { scoped = p.0; some = omega (arith, p.1); few = omega (arith, p.1) }))))

-- the parts so far of a form, with k to come
record PartsSoFar (forms keeps : ℕ) (members : List Member) (k : ℕ) (ps : List Part) : Type 0 where
  done : List Member
  rest : List Member
  split : done ++ rest ≡ members
  left : length rest ≡ k
  parts : Pairwise (PartOf forms keeps) done ps

parts_keep : (forms keeps : ℕ) (members : List Member) (k : ℕ) (before : List Part) → PartsSoFar forms keeps members (suc k) before
    → (p : Part) → PartOf forms keeps (get_or members (length before) no_member) p → PartsSoFar forms keeps members k (before ++ (p ∷ []))
parts_keep forms keeps members k before c p o = go c.rest c.split c.left
  where
    go : (rest : List Member) → c.done ++ rest ≡ members → length rest ≡ suc k → PartsSoFar forms keeps members k (before ++ (p ∷ []))
    go [] e l = absurd (omega arith)
    go (m ∷ rest) e l =
        let at : get_or members (length before) no_member ≡ m =
        ap (λ ms. get_or ms (length before) no_member) (sym e)
        ∙ get_or_at c.done m rest no_member (length before) (Pairwise-length c.parts) in
        record {
          done = c.done ++ (m ∷ []);
          rest = rest;
          split = append_snoc c.done m rest ∙ e;
          left = omega arith;
          parts = Pairwise-snoc c.parts (subst (λ (x : Member). PartOf forms keeps x p) at o);
        }

parts_all : (forms keeps : ℕ) (members : List Member) (ps : List Part) → PartsSoFar forms keeps members 0 ps → Pairwise (PartOf forms keeps) members ps
parts_all forms keeps members ps c = go c.rest c.split c.left
  where
    go : (rest : List Member) → c.done ++ rest ≡ members → length rest ≡ 0 → Pairwise (PartOf forms keeps) members ps
    go [] e l = subst (λ ms. Pairwise (PartOf forms keeps) ms ps) (sym (append-nil c.done) ∙ e) c.parts
    go (m ∷ rest) e l = absurd (omega arith)

read_parts_of : (forms keeps : ℕ) (used : List Part → ℕ) (members : List Member) (ls : List Line) (n : ℕ)
    → Gives (Pairwise (PartOf forms keeps) members)
    (many (length members) (λ before. read_part forms keeps (used before) (get_or members (length before) no_member)) [] ls n)
read_parts_of forms keeps used members ls n =
    Gives-map (parts_all forms keeps members) _
    (Gives-many (PartsSoFar forms keeps members) (λ before. read_part forms keeps (used before) (get_or members (length before) no_member))
    (λ k before c ls n. Gives-map (parts_keep forms keeps members k before c) _
    (read_part_of forms keeps (used before) (get_or members (length before) no_member) ls n))
    (length members) [] (record { done = []; rest = members; split = refl; left = refl; parts = none }) ls n)

-- FORMS

-- a form's heading: its row is there, and it keeps few values
pub record HeadingOk (rows : ℕ) (h : FormHeading) : Type 0 where
  pub row : h.row < rows
  pub few : h.count ≤ keep_limit

pub form_line_ok : (rows : ℕ) (k : Place) (ns : List ℕ) → Judges (HeadingOk rows) (form_line rows k ns)
unfolding form_line
form_line_ok rows k ns =
    Judges-demand (HeadingOk rows) _ _ _ (λ _. Judges-demand (HeadingOk rows) _ _ _ (λ few. Judges-demand (HeadingOk rows) _ _ _ (λ t.
    its_good (record { row = ltb→lt (nth ns 0) rows t; few = leb→le (nth ns 1) keep_limit few }))))

pub read_form_well_formed : (rows : List Row) (forms : ℕ) (earlier : List Form) (ls : List Line) (n : ℕ)
    → Gives (WellFormedForm rows forms) (read_form rows forms earlier ls n)
unfolding read_form
read_form_well_formed rows forms earlier ls n =
    Gives-then (HeadingOk (length rows)) P _ _
    (Gives-one (HeadingOk (length rows)) (form_line (length rows)) (form_line_ok (length rows)) ls n) (λ h ok ls n.
    Gives-then (ThereSoFar (length rows) h.count 0) P _ _
    (Gives-there Place.Keep (length rows) h.count ls n) (λ keeps c ls n.
    Gives-then (Pairwise (PartOf forms (length keeps)) (row_at rows h.row).members) P _ _
    (read_parts_of forms (length keeps) (λ before. size_of_forms earlier + size_of_parts before) (row_at rows h.row).members ls n)
    (λ parts p ls n. its_got (record { row = ok.row; keeps = c.there; few = omega (arith, ok.few, c.counted); parts = p }))))
  where
    P : Form → Type 0
    P = WellFormedForm rows forms

-- reading f forms gives f, all well formed
pub read_forms_well_formed : (rows : List Row) (f : ℕ) (ls : List Line) (n : ℕ)
    → Gives (λ forms. ((g : Form) → In g forms → WellFormedForm rows f g) × (length forms ≡ f)) (many f (read_form rows f) [] ls n)
read_forms_well_formed rows f ls n =
    Gives-map (λ forms p. (p.0, omega (arith, p.1))) (many f (read_form rows f) [] ls n)
    (Gives-many P (read_form rows f)
    (λ k before p ls n. Gives-map
    (λ g w. (forms-snoc before p.0 g w, rw length-append (omega (arith, p.1)))) (read_form rows f before ls n) (read_form_well_formed rows f before ls n))
    f [] ((λ g i. absurd (In-nil i)), omega arith) ls n)
  where
    All : List Form → Type 0
    All forms = (g : Form) → In g forms → WellFormedForm rows f g

    P : ℕ → List Form → Type 0
    P k forms = All forms × (length forms + k ≡ f)

    forms-snoc : (forms : List Form) → All forms → (h : Form) → WellFormedForm rows f h → All (forms ++ (h ∷ []))
    forms-snoc forms all h w g i = go (In-snoc forms i)
      where
        go : In g forms ⊎ (g ≡ h) → WellFormedForm rows f g
        go (inl j) = all g j
        go (inr e) = subst (WellFormedForm rows f) (sym e) w
