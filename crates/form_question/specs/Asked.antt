-- What the question for one form's lines promises for every text, every form number and every work buffer (document 02, order 2).
-- Stands on the rule's answer.
use Rattle.std.specs.Prelude.{ℕ, ◌+◌, ◌≡◌, cond, List, [], take, drop}
use Rattle.std.specs.Borrow.{Bor}
use Rattle.sheet_rules.specs.Answers.{turned_away}
use Rattle.sheet_rules.specs.declared.FormLines.{FormLines}
use Rattle.sheet_rules.specs.declared.Refusal.{Refusal}
use Rattle.std.specs.declared.result.Result.{Result}
use Rattle.sheet_rules.specs.declared.Reason.TheVariants.{BufferTooShort}
use Rattle.sheet_rules.specs.Stretch.{form_reply, reply_number, reply_line, stretch_start, stretch_length}
use Rattle.question.specs.Asked.{enough, AskedAlone}
use Rattle.question.specs.Cleared.{cleared}

-- the promise of the place: the rule's answer, and the work buffer left as the paper says (document 01, Turned away)
abbrev pub PlaceAsked : List ℕ → ℕ → (w w' : List ℕ) → Result FormLines Refusal → Type 0
PlaceAsked text f w w' r = AskedAlone (form_reply text f) (turned_away BufferTooShort 0) w w' r

-- what is answered about a text in a work buffer: the rule's answer, or in one that is too short the refusal before all others
abbrev pub reply_in : List ℕ → ℕ → List ℕ → Result FormLines Refusal
reply_in text f w = cond (enough {B = ℕ} 0 w []) (form_reply text f) (turned_away BufferTooShort 0)

-- a part of the caller's own text, not a copy: it stands in the same block of memory, `start` bytes after the text's first
pub record StretchOf (text : Bor (List ℕ)) (start size : ℕ) (part : Bor (List ℕ)) : Type 0 where
  pub block : part.ref_ptr.0 ≡ text.ref_ptr.0
  pub place : part.ref_ptr.1 ≡ text.ref_ptr.1 + start
  pub bytes : part.now ≡ take size (drop start text.now)

-- the promise of the lines: the part of the text, the two lent numbers, and the work buffer left as the paper says
pub record FormAsked (text : Bor (List ℕ)) (f : ℕ) (w w' : List ℕ) (number line : ℕ) (part : Bor (List ℕ)) : Type 0 where
  pub given : StretchOf text (stretch_start (reply_in text.now f w)) (stretch_length (reply_in text.now f w)) part
  pub numbered : number ≡ reply_number (reply_in text.now f w)
  pub lined : line ≡ reply_line (reply_in text.now f w)
  pub left : w' ≡ cond (enough {B = ℕ} 0 w []) (cleared w) w
