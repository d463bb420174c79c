-- What the typing verdict promises for every text and every work buffer. Stands on the rule's verdict.
use Rattle.std.specs.Prelude.{ℕ, ◌≡◌, List}
use Rattle.sheet_rules.specs.declared.Reason.TheVariants.{BufferTooShort}
use Rattle.sheet_rules.specs.declared.Verdict.{Verdict}
use Rattle.sheet_rules.specs.Reading.{readable, meaning}
use Rattle.type_rules.specs.Typing.{verdict}
use Rattle.table.specs.View.{sheet_in}
use Rattle.accepted.specs.Accepted.{AcceptedIn}
use Rattle.question.specs.Asked.{ToldAlone, AskedAlone}

-- a text judged in a buffer that is long enough: the rule's verdict, and where it accepts, the table holds the text's sheet, as an
-- accepted one
pub record TextJudged (text w w' : List ℕ) (v : Verdict) : Type 0 where
  pub answered : ToldAlone (verdict text) w w' v
  pub sheet : v ≡ Verdict.Accepted → meaning text ≡ readable (sheet_in w')
  pub accepted : v ≡ Verdict.Accepted → AcceptedIn w'

-- the promise: the rule's verdict, and the work buffer left as the paper says (document 01, Turned away)
abbrev pub VerdictAsked : (text w w' : List ℕ) → Verdict → Type 0
VerdictAsked text w w' v = AskedAlone (verdict text) (Verdict.Refused BufferTooShort 0) w w' v
