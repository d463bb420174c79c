-- Laws of the type rows that reading gives: each mentions lower ones, and its names ascend. Assumes nothing.
use Prim.Native.Nat.{ℕ, suc, ◌+◌, ◌≤◌}
use native.Mathlib.Omega.{arith}
use native.Mathlib.Decide.{dec_le}
use mathlib.Core.Path.{◌≡◌, refl, sym, subst}
use mathlib.Core.List.{List, [], ◌∷◌, ◌++◌}
use mathlib.Core.Logic.{◌⊎◌, inl, inr}
use lib.Dec.{T, leb, leb→le, ltb→lt}
use lib.ListN.{length, length-append, get_or-append, get_or-eq_default}
use lib.Seq.{get_or_at}
use Rattle.lists.specs.In.{In}
use Rattle.lists.proofs.InLaws.{In-nil, In-snoc}
use Rattle.lists.proofs.Tests.{and_right}
use Rattle.sheet_rules.specs.declared.Member.{Member}
use Rattle.sheet_rules.specs.declared.MemberKind.{MemberKind}
use Rattle.sheet_rules.specs.declared.Place.{Place}
use Rattle.sheet_rules.specs.Limits.{member_limit, name_limit}
use Rattle.sheet_rules.specs.Keys.{member_kind}
use Rattle.sheet_rules.specs.Lines.{Line}
use Rattle.sheet_rules.specs.Sheet.{Row, no_row, row_at}
use Rattle.sheet_rules.specs.Reader.{nth, one, many}
use Rattle.sheet_rules.specs.RowLines.{Heading, name_of, ascends, mentions_below, member_of, row_line, member_line, read_row}
use Rattle.sheet_rules.specs.WellFormed.{Mentions, NamesAscend, end, above, WellFormedRow}
use Rattle.sheet_rules.proofs.ReaderLaws.{Judges, its_good, Gives, its_got, Judges-demand, Gives-one, Gives-then, Gives-map, Gives-many}

Mentions-snoc : (i : ℕ) (xs : List Member) (y : Member) → Mentions i xs → T (mentions_below i y) → Mentions i (xs ++ (y ∷ []))
Mentions-snoc i xs y h t x k = go (In-snoc xs k)
  where
    go : In x xs ⊎ (x ≡ y) → T (mentions_below i x)
    go (inl j) = h x j
    go (inr e) = subst (λ (z : Member). T (mentions_below i z)) (sym e) t

names_snoc : (i : ℕ) (x : Member) (xs : List Member) (y : Member) → NamesAscend i (x ∷ xs) → T (ascends (x ∷ xs) (name_of y))
    → NamesAscend i (x ∷ xs ++ (y ∷ []))
unfolding ascends
names_snoc i x [] y (above p r) t = above p (above (ltb→lt (name_of x) (name_of y) t) end)
names_snoc i x (z ∷ xs) y (above p r) t = above p (names_snoc (suc (name_of x)) z xs y r t)

member_of_name : (kind : MemberKind) (ns : List ℕ) → name_of (member_of kind ns) ≡ nth ns 0
member_of_name MemberKind.Method ns = refl
member_of_name MemberKind.Field ns = refl

names_add : (xs : List Member) (y : Member) → NamesAscend 0 xs → T (ascends xs (name_of y)) → NamesAscend 0 (xs ++ (y ∷ []))
names_add [] y r t = above {i = 0} {x = y} (omega arith) end
names_add (x ∷ xs) y r t = names_snoc 0 x xs y r t

-- the members so far of the row of number i, with k to come of a count in all
record SoFar (i count k : ℕ) (xs : List Member) : Type 0 where
  lower : Mentions i xs
  names : NamesAscend 0 xs
  low : (x : Member) → In x xs → name_of x ≤ name_limit
  counted : length xs + k ≡ count

member_line_keeps : (bound : ℕ) (earlier : List Row) (h : Heading) (j : ℕ) (before : List Member) → SoFar bound h.count (suc j) before
    → (k : Place) (ns : List ℕ) → Judges (λ x. SoFar bound h.count j (before ++ (x ∷ []))) (member_line bound earlier h before k ns)
unfolding member_line
member_line_keeps bound earlier h j before p k ns =
    Judges-demand P _ _ _ (λ _. Judges-demand P _ _ _ (λ l. Judges-demand P _ _ _ (λ up. Judges-demand P _ _ _ (λ _.
    Judges-demand P _ _ _ (λ t. its_good (record {
      lower = Mentions-snoc bound before (member_of (member_kind k) ns) p.lower t;
      names = names_add before (member_of (member_kind k) ns) p.names (subst (λ (m : ℕ). T (ascends before m)) (sym (member_of_name (member_kind k) ns)) up);
      low = low-snoc (member_of (member_kind k) ns) (subst (λ (m : ℕ). m ≤ name_limit) (sym (member_of_name (member_kind k) ns)) (leb→le (nth ns 0) name_limit l));
      counted = one_more (member_of (member_kind k) ns);
    }))))))
  where
    P : Member → Type 0
    P x = SoFar bound h.count j (before ++ (x ∷ []))

    low-snoc : (y : Member) → name_of y ≤ name_limit → (x : Member) → In x (before ++ (y ∷ [])) → name_of x ≤ name_limit
    low-snoc y l x i = go (In-snoc before i)
      where
        go : In x before ⊎ (x ≡ y) → name_of x ≤ name_limit
        go (inl j) = p.low x j
        go (inr e) = subst (λ (z : Member). name_of z ≤ name_limit) (sym e) l

    one_more : (x : Member) → length (before ++ (x ∷ [])) + j ≡ h.count
    one_more x = rw length-append (omega arith)

row_line_few : (earlier : List Row) (k : Place) (ns : List ℕ) → Judges (λ h. h.count ≤ member_limit) (row_line earlier k ns)
unfolding row_line
row_line_few earlier k ns =
    Judges-demand P _ _ _ (λ _. Judges-demand P _ _ _ (λ few. Judges-demand P _ _ _ (λ _.
    its_good (leb→le (nth ns 1) member_limit (and_right (leb (nth ns 0) 1) (leb (nth ns 1) member_limit) few)))))
  where
    P : Heading → Type 0
    P h = h.count ≤ member_limit

read_row_well_formed : (earlier : List Row) (ls : List Line) (n : ℕ) → Gives (WellFormedRow (length earlier)) (read_row earlier ls n)
unfolding read_row
read_row_well_formed earlier ls n =
    Gives-then (λ h. h.count ≤ member_limit) P _ _
    (Gives-one (λ h. h.count ≤ member_limit) (row_line earlier) (row_line_few earlier) ls n) (λ h few ls n.
    Gives-then (SoFar (length earlier) h.count 0) P _ _
    (Gives-many (SoFar (length earlier) h.count) (λ before. one (member_line (length earlier) earlier h before))
    (λ k before p. Gives-one (λ x. SoFar (length earlier) h.count k (before ++ (x ∷ []))) (member_line (length earlier) earlier h before) (member_line_keeps (length earlier) earlier h k before p))
    h.count [] (record { lower = λ x i. absurd (In-nil i); names = end; low = λ x i. absurd (In-nil i); counted = omega arith }) ls n)
    (λ ms p ls n. its_got (record { lower = p.lower; names = p.names; low = p.low; few = omega arith })))
  where
    P : Row → Type 0
    P = WellFormedRow (length earlier)

-- the number that is not there counts as a row without members
no_row_well_formed : (a : ℕ) → WellFormedRow a no_row
no_row_well_formed a = record { lower = λ x i. absurd (In-nil i); names = end; low = λ x i. absurd (In-nil i); few = omega arith }

-- every row of a list is well formed
abbrev pub WellFormedRows : List Row → Type 0
WellFormedRows rows = (a : ℕ) → WellFormedRow a (row_at rows a)

rows_snoc : (rows : List Row) (r : Row) → WellFormedRows rows → WellFormedRow (length rows) r → WellFormedRows (rows ++ (r ∷ []))
rows_snoc rows r all m a = go (dec_le (suc a) (length rows)) (dec_le a (length rows))
  where
    go : Dec (suc a ≤ length rows) → Dec (a ≤ length rows) → WellFormedRow a (row_at (rows ++ (r ∷ [])) a)
    go (yes p) q = subst (WellFormedRow a) (sym (get_or-append rows (r ∷ []) no_row a p)) (all a)
    go (no p) (yes q) =
        let e : length rows ≡ a = omega arith in
        subst (WellFormedRow a) (sym (get_or_at rows r [] no_row a e)) (subst (λ (k : ℕ). WellFormedRow k r) e m)
    go (no p) (no q) =
        subst (WellFormedRow a) (sym (get_or-eq_default (rows ++ (r ∷ [])) no_row (rw length-append (omega arith)))) (no_row_well_formed a)

-- reading k rows gives k, all well formed
pub read_rows_well_formed : (t : ℕ) (ls : List Line) (n : ℕ) → Gives (λ rows. WellFormedRows rows × (length rows ≡ t)) (many t read_row [] ls n)
read_rows_well_formed t ls n =
    Gives-map (λ rows p. (p.0, omega (arith, p.1))) (many t read_row [] ls n)
    (Gives-many P read_row
    (λ k before p ls n. Gives-map
    (λ r m. (rows_snoc before r p.0 m, rw length-append (omega (arith, p.1)))) (read_row before ls n) (read_row_well_formed before ls n))
    t [] ((λ a. no_row_well_formed a), omega arith) ls n)
  where
    P : ℕ → List Row → Type 0
    P k rows = WellFormedRows rows × (length rows + k ≡ t)
