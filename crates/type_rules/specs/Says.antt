-- What each answer of fit says of two rows, and what a misfit says of the sheet (document 02, order 3). AnswerLaws proves that fit's
-- answer is the one that says the truth, and that there is no other; MisfitLaws that every misfit says it. Stands on Fit and on the
-- sheet's lines.
use Rattle.std.specs.Prelude.{ℕ, ◌<◌, ◌≡◌, Bool, List, T, length}
use Rattle.std.proofs.Math.Option.{some}
use Rattle.lists.specs.In.{In}
use Rattle.sheet_rules.specs.declared.FitAnswer.{FitAnswer}
use Rattle.sheet_rules.specs.declared.FitAnswer.TheVariants.{Yes, WrongKind, Unmet}
use Rattle.sheet_rules.specs.declared.Lack.{Lack}
use Rattle.sheet_rules.specs.declared.Member.{Member}
use Rattle.sheet_rules.specs.Answers.{answer_lack}
use Rattle.sheet_rules.specs.Lines.{Line}
use Rattle.sheet_rules.specs.Sheet.{Row, new, Sheet, row_at, form_at}
use Rattle.sheet_rules.specs.RowLines.{name_of}
use Rattle.sheet_rules.specs.Print.{instr_written}
use Rattle.type_rules.specs.Fit.{kind_fits, has_match, fits}

-- a member of row b has its match in row a, given which rows fit (Fit and typing)
abbrev pub Met : (ℕ → ℕ → Bool) → Row → Member → Type 0
Met fit a y = T (has_match fit a.members y)

-- yes: the kinds fit, and each member of b is met; kind: they do not; a name: the kinds fit, the member of b of that name is not met,
-- and each of b's of a lower name is (document 02, order 3)
pub data Says (fit : ℕ → ℕ → Bool) (a b : Row) : FitAnswer → Type 0 where
  says_yes : T (kind_fits a.kind b.kind) → ((y : Member) → In y b.members → Met fit a y) → Says fit a b Yes
  says_kind : (T (kind_fits a.kind b.kind) → ⊥) → Says fit a b WrongKind
  says_unmet : {y : Member} {n : ℕ} → T (kind_fits a.kind b.kind) → In y b.members → name_of y ≡ n → (Met fit a y → ⊥)
      → ((z : Member) → In z b.members → name_of z < n → Met fit a z) → Says fit a b (Unmet n)

-- something is lacking in a sheet, and a line is refused for it: count, and the line is a `new` that has not one slot for each kept
-- value; or kind or a member, and it is what fit's answer on two rows lacks (document 02, order 3)
pub data Lacking (s : Sheet) : Line → Lack → Type 0 where
  lacks_slots : (f : ℕ) (vs : List ℕ) → (length vs ≡ length (form_at s f).keeps → ⊥) → Lacking s (instr_written (new f vs)) Lack.Count
  lacks_fit : {on : Line} {l : Lack} (a b : ℕ) {x : FitAnswer} → Says (fits s.rows) (row_at s.rows a) (row_at s.rows b) x → answer_lack x ≡ some l → Lacking s on l
