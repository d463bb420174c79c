-- What a caller of `ask_form` has: by the first lent number the part shows the form, or is empty. Assumes nothing.
use Prim.Native.Nat.{ℕ, ◌<◌}
use native.Mathlib.Omega.{arith}
use mathlib.Core.Path.{◌≡◌, refl, sym, ap, ◌∙◌}
use mathlib.Core.Bool.{Bool, true, false, cond}
use mathlib.Core.List.{List, []}
use lib.ListN.{length, take, drop}
use denote.Ref.{Bor}
use Rattle.sheet_rules.specs.Answers.{turned_away}
use Rattle.sheet_rules.specs.declared.FormLines.{FormLines}
use Rattle.sheet_rules.specs.declared.Refusal.{Refusal}
use Rattle.std.specs.declared.result.Result.TheVariants.{Ok, Err}
use Rattle.std.specs.declared.result.Result.{Result}
use Rattle.sheet_rules.specs.declared.Reason.TheVariants.{BufferTooShort}
use Rattle.sheet_rules.specs.Sheet.{Sheet, form_at}
use Rattle.sheet_rules.specs.Reading.{readable, meaning}
use Rattle.sheet_rules.specs.Print.{form_written, lines_bytes}
use Rattle.sheet_rules.specs.Stretch.{form_reply, reply_number, stretch_start, stretch_length}
use Rattle.sheet_rules.proofs.StretchLaws.{number_some, form_shown}
use Rattle.question.specs.Asked.{enough}
use Rattle.form_question.specs.Asked.{reply_in, FormAsked}

-- a place is answered in a buffer that is long enough alone
lines_asked : (text : List ℕ) (f : ℕ) (w : List ℕ) {p : FormLines} → reply_in text f w ≡ Ok p → form_reply text f ≡ Ok p
lines_asked text f w {p} = go (enough {B = ℕ} 0 w [])
  where
    go : (b : Bool) → cond b (form_reply text f) (turned_away BufferTooShort 0) ≡ Ok p → form_reply text f ≡ Ok p
    go true e = e
    go false e = absurd (omega (arith, ap reply_number e))

module _ {text part : Bor (List ℕ)} {f : ℕ} {w w' : List ℕ} {number line : ℕ} (k : FormAsked text f w w' number line part) where
  -- the lines of form f of the sheet that the text means, and no other
  pub shown_lines : number ≡ 0 → (s : Sheet) × (meaning text.now ≡ readable s) × (f < length s.forms) × (part.now ≡ lines_bytes (form_written (form_at s f)))
  shown_lines z = go (reply_in text.now f w) refl
    where
      go : (r : Result FormLines Refusal) → reply_in text.now f w ≡ r
          → (s : Sheet) × (meaning text.now ≡ readable s) × (f < length s.forms) × (part.now ≡ lines_bytes (form_written (form_at s f)))
      go (Err x) e = absurd (omega (arith, number_some x.reason, sym z ∙ k.numbered ∙ ap reply_number e))
      go (Ok p) e =
          let x = form_shown text.now f (lines_asked text.now f w e) in (
            x.sheet,
            x.means,
            x.there,
            k.given.bytes ∙ ap (λ (r : Result FormLines Refusal). take (stretch_length r) (drop (stretch_start r) text.now)) e ∙ x.own,
          )

  pub empty_part : (number ≡ 0 → ⊥) → part.now ≡ []
  empty_part ne = go (reply_in text.now f w) refl
    where
      go : (r : Result FormLines Refusal) → reply_in text.now f w ≡ r → part.now ≡ []
      go (Err x) e = k.given.bytes ∙ ap (λ (r : Result FormLines Refusal). take (stretch_length r) (drop (stretch_start r) text.now)) e
      go (Ok p) e = absurd (ne (k.numbered ∙ ap reply_number e))
