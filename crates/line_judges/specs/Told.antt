-- What the code's answers tell, in the rules' words. Stands on the rules' judgements.
use Rattle.std.specs.Prelude.{ℕ, suc, ◌≡◌, Bool, true, false, not, ◌&&◌, List, [], ◌∷◌, ◌++◌, eqb, leb, length}
use Rattle.std.specs.declared.result.Result.{Result}
use Rattle.std.specs.declared.result.Result.TheVariants.{Ok, Err}
use Rattle.sheet_rules.specs.declared.MemberKind.{MemberKind}
use Rattle.sheet_rules.specs.declared.Place.{Place}
use Rattle.sheet_rules.specs.declared.Member.{Member}
use Rattle.sheet_rules.specs.Keys.{same_place, member_kind}
use Rattle.lexer.specs.declared.numbers.Numbers.{Numbers}
use Rattle.lexer.specs.Told.{Fitting}
use Rattle.sheet_rules.specs.declared.Reason.{Reason}
use Rattle.sheet_rules.specs.declared.Reason.TheVariants.{DuplicateRow, NotDefined}
use Rattle.sheet_rules.specs.Sheet.{Row}
use Rattle.sheet_rules.specs.Reader.{Judged, good, bad, demand}
use Rattle.sheet_rules.specs.RowLines.{Heading, kind_of, twin, ascends, member_of, mentions_below}
use Rattle.sheet_rules.specs.FormLines.{FormHeading}

-- a line, judged: what is then made of its numbers, or the refusal
abbrev pub line_told : {A : Type 0} → Result Unit Reason → Judged A → Judged A
line_told (Ok _) x = x
line_told (Err r) x = bad r

-- a test that a line must pass, by itself
abbrev pub demanded : Bool → Reason → Result Unit Reason
demanded true r = Ok tt
demanded false r = Err r

-- what a `type` line's numbers make, but for its twin, which is asked of a row without members
abbrev pub row_told : List Row → ℕ → ℕ → Judged Heading
row_told earlier k m =
    demand (not (eqb m 0 && twin earlier (record { kind = kind_of k; members = [] }))) DuplicateRow
    (good (record { kind = kind_of k; count = m }))

-- what a `form` line's numbers make
abbrev pub form_told : ℕ → ℕ → Judged FormHeading
form_told a c = good (record { row = a; count = c })

-- a member's line, as the lexer gives it
pub record MemberShaped (k : Place) (ns : Numbers) : Type 0 where
  pub fitting : Fitting k ns
  pub member : same_place k (Place.Member MemberKind.Method) ≡ true

-- the least name that ascends after some members
abbrev pub Lowest : List Member → ℕ → Type 0
Lowest before lowest = (n : ℕ) → ascends before n ≡ leb lowest n

-- what is asked of a member line after its place, its name and their order: that the row that it completes has no twin, and that
-- the rows it mentions are below a bound
unfoldable pub member_rest : ℕ → List Row → Heading → List Member → Place → List ℕ → Judged Member
member_rest bound earlier h before k ns =
    demand
    (not
    (eqb (suc (length before)) h.count
    && twin earlier (record { kind = h.kind; members = before ++ (member_of (member_kind k) ns ∷ []) })))
    DuplicateRow
    (demand (mentions_below bound (member_of (member_kind k) ns)) NotDefined (good (member_of (member_kind k) ns)))
