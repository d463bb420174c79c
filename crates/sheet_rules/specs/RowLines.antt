-- The lines of the type rows (document 01, The sheet, `types`; Turned away, 3 to 7). Stands on Limits, Keys, Sheet, Reader.
use Rattle.std.specs.Prelude.{ℕ, zero, suc, Bool, true, false, not, ◌&&◌, ◌||◌, List, [], ◌∷◌, ◌++◌, eqb, leb, ltb, length}
use Rattle.sheet_rules.specs.declared.Kind.{Kind}
use Rattle.sheet_rules.specs.declared.Kind.TheVariants.{Pure, Resource}
use Rattle.sheet_rules.specs.declared.Member.{Member}
use Rattle.sheet_rules.specs.declared.Member.TheVariants.{Method, Field}
use Rattle.sheet_rules.specs.declared.MemberKind.{MemberKind}
use Rattle.sheet_rules.specs.declared.Place.{Place}
use Rattle.sheet_rules.specs.declared.Reason.TheVariants.{Malformed, OutOfLimit, NotAscending, DuplicateRow, NotDefined}
use Rattle.sheet_rules.specs.Limits.{member_limit, name_limit}
use Rattle.sheet_rules.specs.Keys.{stands, member_kind}
use Rattle.sheet_rules.specs.Sheet.{Row}
use Rattle.sheet_rules.specs.Reader.{Judged, good, demand, Reader, ◌>>=◌, give, one, many, nth}

-- K 0 is pure, 1 a resource (The sheet, rows)
abbrev pub kind_of : ℕ → Kind
kind_of zero = Pure
kind_of (suc n) = Resource

-- two kinds are the same (The sheet, rows)
abbrev pub same_kind : Kind → Kind → Bool
same_kind Pure Pure = true
same_kind Pure Resource = false
same_kind Resource Pure = false
same_kind Resource Resource = true

-- the name of a member (The sheet, rows)
abbrev pub name_of : Member → ℕ
name_of (Method n a r) = n
name_of (Field n r) = n

-- two members are the same: kind, name and rows (The sheet, rows)
abbrev pub same_member : Member → Member → Bool
same_member (Method n a r) (Method n' a' r') = eqb n n' && eqb a a' && eqb r r'
same_member (Method n a r) (Field n' r') = false
same_member (Field n r) (Method n' a' r') = false
same_member (Field n r) (Field n' r') = eqb n n' && eqb r r'

-- two lists of members are the same (The sheet, rows)
unfoldable pub same_members : List Member → List Member → Bool
same_members [] [] = true
same_members [] (y ∷ ys) = false
same_members (x ∷ xs) [] = false
same_members (x ∷ xs) (y ∷ ys) = same_member x y && same_members xs ys

-- two rows have the same K and the same members (The sheet, rows)
abbrev pub same_row : Row → Row → Bool
same_row a b = same_kind a.kind b.kind && same_members a.members b.members

-- the row equals an earlier one (01's term: twin) (Turned away, 6)
unfoldable pub twin : List Row → Row → Bool
twin [] a = false
twin (b ∷ bs) a = same_row b a || twin bs a

-- what a `type` line says: the kind and how many members follow (The sheet, rows)
pub record Heading : Type 0 where
  pub kind : Kind
  pub count : ℕ

-- `type=K,M`; for a row without members this is its last line, where a twin is refused (The sheet, rows)
unfoldable pub row_line : List Row → Place → List ℕ → Judged Heading
row_line earlier k ns =
    demand (stands Place.Row k ns) Malformed
    (demand (leb (nth ns 0) 1 && leb (nth ns 1) member_limit) OutOfLimit
    (demand (not (eqb (nth ns 1) 0 && twin earlier (record { kind = kind_of (nth ns 0); members = [] }))) DuplicateRow
    (good (record { kind = kind_of (nth ns 0); count = nth ns 1 }))))

-- a name above that of the member before, if there is one (The sheet, rows)
unfoldable pub ascends : List Member → ℕ → Bool
ascends [] n = true
ascends (x ∷ []) n = ltb (name_of x) n
ascends (x ∷ y ∷ ys) n = ascends (y ∷ ys) n

-- `def=N,A,R` or `var=N,F` (The sheet, rows)
abbrev pub member_of : MemberKind → List ℕ → Member
member_of MemberKind.Method ns = Method (nth ns 0) (nth ns 1) (nth ns 2)
member_of MemberKind.Field ns = Field (nth ns 0) (nth ns 1)

-- the rows that a member mentions are below a number (The sheet, rows)
abbrev pub mentions_below : ℕ → Member → Bool
mentions_below i (Method n a r) = ltb a i && ltb r i
mentions_below i (Field n r) = ltb r i

-- a member line, after the row's heading and the members before it: it mentions rows below a bound, and the last one completes the
-- row (The sheet, rows)
unfoldable pub member_line : ℕ → List Row → Heading → List Member → Place → List ℕ → Judged Member
member_line bound earlier h before k ns =
    demand (stands (Place.Member MemberKind.Method) k ns) Malformed
    (demand (leb (nth ns 0) name_limit) OutOfLimit
    (demand (ascends before (nth ns 0)) NotAscending
    (demand
    (not
    (eqb (suc (length before)) h.count
    && twin earlier (record { kind = h.kind; members = before ++ (member_of (member_kind k) ns ∷ []) })))
    DuplicateRow
    (demand (mentions_below bound (member_of (member_kind k) ns)) NotDefined
    (good (member_of (member_kind k) ns))))))

-- a row, after the earlier ones, which are the rows that it may mention (The sheet, rows)
unfoldable pub read_row : List Row → Reader Row
read_row earlier = do
  h ← one (row_line earlier)
  members ← many h.count (λ before. one (member_line (length earlier) earlier h before)) []
  give (record { kind = h.kind; members = members })
