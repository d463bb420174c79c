-- The rows of a sheet that was read are distinct. Assumes nothing.
use Prim.Native.Nat.{ℕ, suc, ◌+◌, ◌≤◌}
use native.Mathlib.Omega.{arith}
use native.Mathlib.Decide.{dec_le}
use mathlib.Core.Path.{◌≡◌, refl, ◌∙◌}
use mathlib.Core.Bool.{Bool, true, false, not, ◌&&◌}
use mathlib.Core.List.{List, [], ◌∷◌, ◌++◌}
use lib.Dec.{T, eqb}
use lib.ListN.{length, take, length-append, get_or-append}
use lib.Seq.{get_or_at, take-append-le, take_at}
use borrow.Author.Tests.{eq-eqb}
use Rattle.sheet_rules.specs.declared.Kind.{Kind}
use Rattle.sheet_rules.specs.declared.Member.{Member}
use Rattle.sheet_rules.specs.declared.Place.{Place}
use Rattle.sheet_rules.specs.Limits.{row_limit, form_limit}
use Rattle.sheet_rules.specs.Keys.{member_kind}
use Rattle.sheet_rules.specs.Lines.{Line}
use Rattle.sheet_rules.specs.Sheet.{Row, Sheet, no_row, row_at, size_of_forms}
use Rattle.sheet_rules.specs.Reader.{nth, one, many, count_line}
use Rattle.sheet_rules.specs.RowLines.{kind_of, Heading, twin, member_of, row_line, member_line, read_row}
use Rattle.sheet_rules.specs.FormLines.{body_line, read_instrs, read_form}
use Rattle.sheet_rules.specs.DeviceLines.{read_devices}
use Rattle.sheet_rules.specs.Reading.{read_end, read_sheet, readable, meaning}
use Rattle.sheet_rules.specs.WellFormed.{DistinctRows}
use Rattle.sheet_rules.proofs.ReaderLaws.{Judges, its_good, Gives, its_got, Gives-any, Judges-demand, Gives-one, Gives-then, Gives-map, Gives-many}
use Rattle.sheet_rules.proofs.ReadingLaws.{meaning_has}

-- a row of a kind and members is no twin of the earlier ones
abbrev NoTwin : List Row → Kind → List Member → Type 0
NoTwin earlier kind ms = twin earlier (record { kind = kind; members = ms }) ≡ false

-- a test that does not hold with another that does
not_both : (a b : Bool) → T (not (a && b)) → a ≡ true → b ≡ false
not_both true true t e = absurd t
not_both true false t e = refl
not_both false b t e = absurd (clashes e)
  where
    clashes : false ≡ true → ⊥
    clashes e = let z : ◌≡◌ {A = ℕ} 0 1 = cc in omega arith

heading_distinct : (earlier : List Row) (k : Place) (ns : List ℕ) → Judges (λ h. h.count ≡ 0 → NoTwin earlier h.kind []) (row_line earlier k ns)
unfolding row_line
heading_distinct earlier k ns =
    Judges-demand P _ _ _ (λ t. Judges-demand P _ _ _ (λ u. Judges-demand P _ _ _ (λ v.
    its_good (λ e. not_both (eqb (nth ns 1) 0) (twin earlier (record { kind = kind_of (nth ns 0); members = [] })) v (eq-eqb (nth ns 1) 0 e)))))
  where
    P : Heading → Type 0
    P h = h.count ≡ 0 → NoTwin earlier h.kind []

-- with k members to come; a row that is complete is no twin
record SoFar (earlier : List Row) (h : Heading) (k : ℕ) (xs : List Member) : Type 0 where
  counted : length xs + k ≡ h.count
  complete : k ≡ 0 → NoTwin earlier h.kind xs

Member-distinct : (bound : ℕ) (earlier : List Row) (h : Heading) (j : ℕ) (before : List Member) → SoFar earlier h (suc j) before
    → (k : Place) (ns : List ℕ) → Judges (λ x. SoFar earlier h j (before ++ (x ∷ []))) (member_line bound earlier h before k ns)
unfolding member_line
Member-distinct bound earlier h j before p k ns =
    Judges-demand P _ _ _ (λ t. Judges-demand P _ _ _ (λ u. Judges-demand P _ _ _ (λ v. Judges-demand P _ _ _ (λ w. Judges-demand P _ _ _ (λ x.
    its_good (record {
      counted = omega (arith, p.counted, length-append before (member_of (member_kind k) ns ∷ []));
      complete = λ e. not_both (eqb (suc (length before)) h.count) (twin earlier (record { kind = h.kind; members = before ++ (member_of (member_kind k) ns ∷ []) })) w
          (eq-eqb (suc (length before)) h.count (omega (arith, p.counted)));
    }))))))
  where
    P : Member → Type 0
    P x = SoFar earlier h j (before ++ (x ∷ []))

row_distinct : (earlier : List Row) (ls : List Line) (n : ℕ) → Gives (λ a. twin earlier a ≡ false) (read_row earlier ls n)
unfolding read_row
row_distinct earlier ls n =
    Gives-then (λ h. h.count ≡ 0 → NoTwin earlier h.kind []) (λ a. twin earlier a ≡ false) _ _
    (Gives-one (λ h. h.count ≡ 0 → NoTwin earlier h.kind []) (row_line earlier) (heading_distinct earlier) ls n) (λ h none ls n.
    Gives-then (SoFar earlier h 0) (λ a. twin earlier a ≡ false) _ _
    (Gives-many (SoFar earlier h) (λ before. one (member_line (length earlier) earlier h before))
    (λ k before p. Gives-one (λ x. SoFar earlier h k (before ++ (x ∷ []))) (member_line (length earlier) earlier h before) (Member-distinct (length earlier) earlier h k before p))
    h.count [] (record { counted = omega arith; complete = none }) ls n)
    (λ ms p ls n. its_got (p.complete refl)))

distinct_snoc : (rows : List Row) (r : Row) → DistinctRows rows → twin rows r ≡ false → DistinctRows (rows ++ (r ∷ []))
distinct_snoc rows r all new a l = go (dec_le (suc a) (length rows))
  where
    go : Dec (suc a ≤ length rows) → twin (take a (rows ++ (r ∷ []))) (row_at (rows ++ (r ∷ [])) a) ≡ false
    go (yes p) = (λ i. twin (take-append-le a rows (r ∷ []) (omega arith) i) (get_or-append rows (r ∷ []) no_row a p i)) ∙ all a p
    go (no p) =
        let e : length rows ≡ a = omega (arith, length-append rows (r ∷ [])) in
        (λ i. twin (take_at rows (r ∷ []) a e i) (get_or_at rows r [] no_row a e i)) ∙ new

rows_distinct : (t : ℕ) (ls : List Line) (n : ℕ) → Gives DistinctRows (many t read_row [] ls n)
rows_distinct t ls n =
    Gives-many (λ k rows. DistinctRows rows) read_row
    (λ k before p ls n. Gives-map (λ r q. distinct_snoc before r p q) (read_row before ls n) (row_distinct before ls n))
    t [] (λ a l. absurd (omega arith)) ls n

sheet_distinct : (ls : List Line) (n : ℕ) → Gives (λ s. DistinctRows s.rows) (read_sheet ls n)
unfolding read_sheet
sheet_distinct ls n =
    Gives-then (λ _. Unit {0}) P _ _ (Gives-any (one (count_line Place.Types 1 row_limit) ls n)) (λ t _ ls n.
    Gives-then DistinctRows P _ _ (rows_distinct t ls n) (λ rows d ls n.
    Gives-then (λ _. Unit {0}) P _ _ (Gives-any (one (count_line Place.Forms 0 form_limit) ls n)) (λ f _ ls n.
    Gives-then (λ _. Unit {0}) P _ _ (Gives-any (many f (read_form rows f) [] ls n)) (λ forms _ ls n.
    Gives-then (λ _. Unit {0}) P _ _ (Gives-any (read_devices f ls n)) (λ devices _ ls n.
    Gives-then (λ _. Unit {0}) P _ _ (Gives-any (one (body_line Place.Main (size_of_forms forms)) ls n)) (λ i _ ls n.
    Gives-then (λ _. Unit {0}) P _ _ (Gives-any (read_instrs f (length devices) i ls n)) (λ main _ ls n.
    Gives-then (λ _. Unit {0}) P _ _ (Gives-any (read_end ls n)) (λ _ _ ls n. its_got d))))))))
  where
    P : Sheet → Type 0
    P s = DistinctRows s.rows

pub readable_distinct : (text : List ℕ) (s : Sheet) → meaning text ≡ readable s → DistinctRows s.rows
readable_distinct text s e = meaning_has (λ x. DistinctRows x.rows) sheet_distinct text s e
