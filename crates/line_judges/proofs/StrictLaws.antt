-- Every judge refuses the lines that no place takes, so that reading one line by the lexer is reading one line by the rules.
-- Assumes nothing.
use Prim.Native.Nat.{ℕ, ◌≤◌, ◌<◌}
use mathlib.Core.Path.{◌≡◌, refl, ap, subst}
use mathlib.Core.Bool.{false}
use mathlib.Core.List.{List, [], ◌∷◌}
use lib.ListN.{length, drop}
use Rattle.std.specs.declared.option.Option.TheVariants.{Some, None}
use Rattle.std.proofs.lemmas.Bool.{and_right}
use Rattle.sheet_rules.specs.declared.Member.{Member}
use Rattle.sheet_rules.specs.declared.MemberKind.{MemberKind}
use Rattle.sheet_rules.specs.declared.Operation.{Operation}
use Rattle.sheet_rules.specs.declared.Place.{Place}
use Rattle.sheet_rules.specs.declared.Reason.TheVariants.{Malformed}
use Rattle.sheet_rules.specs.Keys.{same_place, stands}
use Rattle.sheet_rules.specs.Lines.{Line, line, torn, lines_of}
use Rattle.sheet_rules.specs.Sheet.{Row}
use Rattle.sheet_rules.specs.Reader.{Judged, bad, refused, settle, one, count_line, existing_line}
use Rattle.sheet_rules.specs.RowLines.{Heading, row_line, member_line}
use Rattle.sheet_rules.specs.FormLines.{form_line, body_line, instr_line}
use Rattle.lexer.specs.declared.numbers.Numbers.{Numbers}
use Rattle.lexer.specs.Scan.{found_line, line_at}
use Rattle.lexer.specs.Told.{list_of, Fitting}
use Rattle.lexer.proofs.KeyScan.{Hopeless, unfit}
use Rattle.lexer.proofs.LineLaws.{Refusing, nothing, hopeless, Found, a_line, no_line}
use Rattle.lexer.proofs.LineFound.{line_found}
use Rattle.line_judges.proofs.JudgeLaws.{demand_no}

-- a judge that refuses what no place takes
abbrev pub Strict : {A : Type 0} → (Place → List ℕ → Judged A) → Type 0
Strict judge = (k : Place) (ns : List ℕ) → Hopeless (line k ns) → judge k ns ≡ bad Malformed

stands_unfit : (w k : Place) (ns : List ℕ) → Hopeless (line k ns) → stands w k ns ≡ false
stands_unfit w k ns (unfit e) = and_right (same_place k w) _ e

pub Strict-count : (w : Place) (low high : ℕ) → Strict (count_line w low high)
unfolding count_line
Strict-count w low high k ns h = demand_no _ _ _ (stands_unfit w k ns h)

pub Strict-existing : (w : Place) (there : ℕ) → Strict (existing_line w there)
unfolding existing_line
Strict-existing w there k ns h = demand_no _ _ _ (stands_unfit w k ns h)

pub Strict-body : (w : Place) (used : ℕ) → Strict (body_line w used)
unfolding body_line
Strict-body w used k ns h = demand_no _ _ _ (stands_unfit w k ns h)

pub Strict-row : (earlier : List Row) → Strict (row_line earlier)
unfolding row_line
Strict-row earlier k ns h = demand_no _ _ _ (stands_unfit Place.Row k ns h)

pub Strict-form : (rows : ℕ) → Strict (form_line rows)
unfolding form_line
Strict-form rows k ns h = demand_no _ _ _ (stands_unfit Place.Form k ns h)

pub Strict-Member : (bound : ℕ) (earlier : List Row) (h : Heading) (before : List Member) → Strict (member_line bound earlier h before)
unfolding member_line
Strict-Member bound earlier h before k ns p = demand_no _ _ _ (stands_unfit (Place.Member MemberKind.Method) k ns p)

pub Strict-instr : (forms filled : ℕ) → Strict (instr_line forms filled)
unfolding instr_line
Strict-instr forms filled k ns p = demand_no _ _ _ (stands_unfit (Place.Instruction Operation.New) k ns p)

-- reading one line, by what the lexer found

pub one-Refusing : {A : Type 0} (judge : Place → List ℕ → Judged A) → Strict judge → (ls : List Line) (n : ℕ) → Refusing ls → one judge ls n ≡ refused Malformed n
unfolding one settle
one-Refusing judge st [] n nothing = refl
one-Refusing judge st (torn ∷ ls) n (hopeless h) = refl
one-Refusing judge st (line k ns ∷ ls) n (hopeless h) = ap (λ j. settle j ls n) (st k ns h)

module _ (text : List ℕ) (i : ℕ) where
  pub one_torn : {A : Type 0} (judge : Place → List ℕ → Judged A) → Strict judge → (n : ℕ) → line_at text i ≡ None
      → one judge (lines_of (drop i text)) n ≡ refused Malformed n
  one_torn {A} judge st n e = go (subst (Found text i) e (line_found text i))
    where
      go : Found text i None → one judge (lines_of (drop i text)) n ≡ refused Malformed n
      go (no_line r) = one-Refusing judge st (lines_of (drop i text)) n r

  -- what the lexer says of a line
  pub record Taken (k : Place) (ns : Numbers) (j : ℕ) : Type 0 where
    pub lines : lines_of (drop i text) ≡ line k (list_of ns) ∷ lines_of (drop j text)
    pub later : i < j
    pub inside : j ≤ length text
    pub fitting : Fitting k ns

  pub line_taken : (k : Place) (ns : Numbers) (j : ℕ) → line_at text i ≡ Some (found_line k (list_of ns) j) → Taken k ns j
  line_taken k ns j e = go (subst (Found text i) e (line_found text i))
    where
      go : Found text i (Some (found_line k (list_of ns) j)) → Taken k ns j
      go (a_line l p q c) = record { lines = l; later = p; inside = q; fitting = record { fit = c } }

  pub one_line : {A : Type 0} (judge : Place → List ℕ → Judged A) (n : ℕ) (k : Place) (ns : Numbers) (j : ℕ) → line_at text i ≡ Some (found_line k (list_of ns) j)
      → one judge (lines_of (drop i text)) n ≡ settle (judge k (list_of ns)) (lines_of (drop j text)) n
  unfolding one
  one_line judge n k ns j e = ap (λ (ls : List Line). one judge ls n) (line_taken k ns j e).lines
