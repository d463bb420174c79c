-- One form's stretch of a text: its lines as they stand there, and what the question for them answers (document 02, order 2).
-- `StretchLaws.form_shown` says that what is given shows that form of the sheet. Stands on Lines, Reading and Print.
use Rattle.std.specs.Prelude.{ℕ, suc, ◌+◌, ◌<◌, ◌≡◌, Bool, true, false, cond, ◌&&◌, ◌||◌, eqb, ltb, length, take, drop}
use mathlib.Core.List.{List, [], ◌∷◌, ◌++◌, flatten}
use Rattle.std.proofs.Math.Option.{Option, none}
use Rattle.lists.specs.BeforeNth.{before_nth}
use Rattle.sheet_rules.specs.declared.FormLines.{FormLines}
use Rattle.sheet_rules.specs.declared.Refusal.{Refusal}
use Rattle.std.specs.declared.result.Result.{Result}
use Rattle.std.specs.declared.result.Result.TheVariants.{Ok, Err}
use Rattle.sheet_rules.specs.declared.Lack.{Lack}
use Rattle.sheet_rules.specs.declared.Place.{Place}
use Rattle.sheet_rules.specs.declared.Reason.TheVariants.{NotDefined}
use Rattle.sheet_rules.specs.Lines.{newline, in_front, Line}
use Rattle.sheet_rules.specs.Sheet.{Sheet, form_at}
use Rattle.sheet_rules.specs.Reading.{Meaning, readable, unreadable, meaning}
use Rattle.sheet_rules.specs.Answers.{number_of, reason_lack, turned_away}
use Rattle.sheet_rules.specs.Print.{form_written, forms_written, before_forms, after_forms, key_text, lines_bytes}

-- the lines of a text as they stand in it, each with the byte 10 that ends it (order 2)
unfoldable pub text_lines : List ℕ → List (List ℕ)
text_lines [] = []
text_lines (b ∷ bs) = cond (eqb b newline) ((b ∷ []) ∷ text_lines bs) (in_front b (text_lines bs))

-- some bytes begin with a word (order 2)
unfoldable pub begins : List ℕ → List ℕ → Bool
begins [] bs = true
begins (c ∷ cs) [] = false
begins (c ∷ cs) (b ∷ bs) = eqb c b && begins cs bs

-- a line before which the forms end: `devices` or, in a sheet without it, `main` (order 2; order 7)
abbrev pub ends_forms : List ℕ → Bool
ends_forms l = begins (key_text Place.Devices) l || begins (key_text Place.Main) l

-- a line at which a form's lines begin, or before which the forms end; a readable sheet's borders are its `form` lines, in the forms'
-- order, and then those lines (order 2)
abbrev pub form_border : List ℕ → Bool
form_border l = begins (key_text Place.Form) l || ends_forms l

-- the lines of form f, forms counted from 0: from border f to the last line before the next one (order 2)
abbrev pub form_lines : ℕ → List (List ℕ) → List (List ℕ)
form_lines f ls = drop (length (before_nth form_border f ls)) (before_nth form_border (suc f) ls)

-- a part of a text: where it begins, and how many bytes it has
abbrev pub stretch : ℕ → ℕ → FormLines
stretch start size = record { start = start; length = size }

-- their stretch: the bytes before them, and their own, counted (order 2)
abbrev pub form_stretch : ℕ → List (List ℕ) → Result FormLines Refusal
form_stretch f ls = Ok (stretch (length (flatten (before_nth form_border f ls))) (length (flatten (form_lines f ls))))

-- the form is there: its stretch of the text; a form number that is not there is refused at line 0 (order 2)
abbrev pub form_in : List ℕ → Sheet → ℕ → Result FormLines Refusal
form_in text s f = cond (ltb f (length s.forms)) (form_stretch f (text_lines text)) (turned_away NotDefined 0)

-- the sheet only has to be readable (order 2)
abbrev pub form_on : List ℕ → Meaning → ℕ → Result FormLines Refusal
form_on text (readable s) f = form_in text s f
form_on text (unreadable r n) f = turned_away r n

-- what the question for one form's lines answers (order 2)
unfoldable pub form_reply : List ℕ → ℕ → Result FormLines Refusal
form_reply text f = form_on text (meaning text) f

-- the number and the line of a refusal: 0 and 0 when a part of the text is given (order 2)
abbrev pub reply_number : Result FormLines Refusal → ℕ
reply_number (Ok p) = 0
reply_number (Err e) = number_of e.reason

abbrev pub reply_line : Result FormLines Refusal → ℕ
reply_line (Ok p) = 0
reply_line (Err e) = e.line

-- what is lacking by a reply; the question stops after reading, so it never is a misfit (document 02, order 3)
abbrev pub reply_lack : Result FormLines Refusal → Option Lack
reply_lack (Ok p) = none
reply_lack (Err e) = reason_lack e.reason

-- where the part that is given begins in the text; after a refusal it is the empty part at the text's start (order 2)
abbrev pub stretch_start : Result FormLines Refusal → ℕ
stretch_start (Ok p) = p.start
stretch_start (Err e) = 0

-- how many bytes it has: none after a refusal (order 2)
abbrev pub stretch_length : Result FormLines Refusal → ℕ
stretch_length (Ok p) = p.length
stretch_length (Err e) = 0

-- THE FORM THAT IT SHOWS

-- the lines of a sheet before those of form f, and after them (order 2)
abbrev pub lines_before : Sheet → ℕ → List Line
lines_before s f = before_forms s ++ forms_written (take f s.forms)

abbrev pub lines_after : Sheet → ℕ → List Line
lines_after s f = forms_written (drop (suc f) s.forms) ++ after_forms s

-- a part of a text shows form f of the sheet that the text means: it is the print of that form, and stands between the print of the
-- lines before the form's and the print of those after them (order 2)
pub record Shows (text : List ℕ) (f start size : ℕ) : Type 0 where
  pub sheet : Sheet
  pub means : meaning text ≡ readable sheet
  pub there : f < length sheet.forms
  pub before : take start text ≡ lines_bytes (lines_before sheet f)
  pub own : take size (drop start text) ≡ lines_bytes (form_written (form_at sheet f))
  pub after : drop (start + size) text ≡ lines_bytes (lines_after sheet f)
