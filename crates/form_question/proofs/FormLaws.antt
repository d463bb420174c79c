-- One form's lines: a law for each exit. Assumes nothing.
use Prim.Native.Nat.{ℕ, ◌+◌, ◌-◌, ◌≤◌, ◌<◌}
use native.Mathlib.Omega.{arith}
use mathlib.Core.Path.{◌≡◌, sym, ap, ◌∙◌}
use mathlib.Core.Bool.{Bool, true, false, cond}
use mathlib.Core.List.{List, []}
use lib.ListN.{length, take, drop}
use denote.Ref.{Bor}
use Rattle.sheet_rules.specs.Answers.{turned_away}
use Rattle.sheet_rules.specs.declared.FormLines.{FormLines}
use Rattle.sheet_rules.specs.declared.Refusal.{Refusal}
use Rattle.std.specs.declared.result.Result.TheVariants.{Ok}
use Rattle.std.specs.declared.result.Result.{Result}
use Rattle.sheet_rules.specs.declared.Reason.TheVariants.{BufferTooShort, NotDefined}
use Rattle.sheet_rules.specs.Sheet.{Sheet}
use Rattle.sheet_rules.specs.Stretch.{form_in, form_reply, stretch_start, stretch_length, stretch}
use Rattle.sheet_rules.proofs.StretchLaws.{there_in, missing_in, given_within}
use Rattle.question.specs.Asked.{enough}
use Rattle.form_scan.specs.Borders.{border_place}
use Rattle.form_scan.proofs.StretchFound.{stretch_found}
use Rattle.results.specs.declared.FormResult.{FormResult}
use Rattle.results.specs.Results.{form_result}
use Rattle.form_question.specs.Asked.{PlaceAsked, reply_in, FormAsked}

-- over the table

module _ (text : List ℕ) (s : Sheet) (f : ℕ) {forms : ℕ} (counted : forms ≡ length s.forms) where
  pub form_missing : forms ≤ f → turned_away NotDefined 0 ≡ form_in text s f
  form_missing h = sym (missing_in text s f (omega arith))

  pub form_found : f < forms → {start : ℕ} → start ≡ border_place text 0 f → {end : ℕ} → end ≡ border_place text start 1
      → Ok (stretch start (end - start)) ≡ form_in text s f
  form_found h a e = stretch_found text f a e ∙ sym (there_in text s f (omega arith))

-- what is answered is a part of the text, in whatever buffer

asked_within : (text : List ℕ) (f : ℕ) (w : List ℕ) → stretch_start (reply_in text f w) + stretch_length (reply_in text f w) ≤ length text
asked_within text f w = go (enough {B = ℕ} 0 w [])
  where
    go : (b : Bool) → let r = cond b (form_reply text f) (turned_away BufferTooShort 0) in stretch_start r + stretch_length r ≤ length text
    go true = given_within text f
    go false = omega arith

-- and it is given

module _ (text : Bor (List ℕ)) (f : ℕ) {w w' : List ℕ} {reply : Result FormLines Refusal} (k : PlaceAsked text.now f w w' reply) {x : FormResult} (e : x ≡ form_result reply) where
  told : x ≡ form_result (reply_in text.now f w)
  told = e ∙ ap form_result k.told

  pub end_within : x.start + x.length ≤ length text.now
  end_within =
      omega (arith, ap (λ (r : FormResult). r.start) told, ap (λ (r : FormResult). r.length) told, asked_within text.now f w)

  pub form_asked : (part : Bor (List ℕ)) → part.ref_ptr.0 ≡ text.ref_ptr.0 → part.ref_ptr.1 ≡ text.ref_ptr.1 + x.start
      → part.now ≡ take (x.start + x.length - x.start) (drop x.start text.now) → FormAsked text f w w' x.refusal x.line part
  form_asked part b p t =
      record {
        given =
            record {
              block = b;
              place = p ∙ ap (λ (r : FormResult). text.ref_ptr.1 + r.start) told;
              bytes =
                  t
                  ∙ ap (λ (n : ℕ). take n (drop x.start text.now)) (let z : x.start + x.length - x.start ≡ x.length = omega arith in z)
                  ∙ ap (λ (r : FormResult). take r.length (drop r.start text.now)) told;
            };
        numbered = ap (λ (r : FormResult). r.refusal) told;
        lined = ap (λ (r : FormResult). r.line) told;
        left = k.left;
      }
