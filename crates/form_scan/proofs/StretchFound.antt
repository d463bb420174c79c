-- Two borders found one after the other are the stretch of a form (sheet_rules, Stretch). Assumes nothing.
use Prim.Native.Nat.{ℕ, zero, suc, ◌+◌, ◌-◌, ◌≤◌}
use native.Mathlib.Omega.{arith}
use mathlib.Core.Path.{◌≡◌, refl, sym, ap, ◌∙◌}
use mathlib.Core.List.{List, [], ◌∷◌, flatten}
use lib.ListN.{length, take, drop, length-append, length-drop}
use lib.Seq.{drop-drop}
use Rattle.lists.specs.BeforeNth.{before_nth}
use Rattle.lists.proofs.BeforeNthLaws.{nth_front, nth_from}
use Rattle.std.specs.declared.result.Result.TheVariants.{Ok}
use Rattle.sheet_rules.specs.Stretch.{text_lines, form_border, form_lines, form_stretch, stretch}
use Rattle.form_scan.specs.Borders.{first_line, line_length, border_place}
use Rattle.form_scan.proofs.BorderLaws.{lines_on, first_within}

-- the bytes of the first k lines
abbrev bytes_of : ℕ → List ℕ → ℕ
bytes_of k bs = length (flatten (take k (text_lines bs)))

bytes_first : (k b : ℕ) (bs : List ℕ) → bytes_of (suc k) (b ∷ bs) ≡ line_length (b ∷ bs) + bytes_of k (drop (line_length (b ∷ bs)) (b ∷ bs))
unfolding flatten
bytes_first k b bs =
    ap (λ (ls : List (List ℕ)). length (flatten (take (suc k) ls))) (lines_on b bs)
    ∙ length-append (first_line (b ∷ bs)) (flatten (take k (text_lines (drop (line_length (b ∷ bs)) (b ∷ bs)))))

-- they are within the text
bytes_within : (k : ℕ) (bs : List ℕ) → bytes_of k bs ≤ length bs
unfolding text_lines flatten
bytes_within zero bs = omega arith
bytes_within (suc k) [] = omega arith
bytes_within (suc k) (b ∷ bs) =
    let rest : List ℕ = drop (line_length (b ∷ bs)) (b ∷ bs) in
    omega (arith, bytes_first k b bs, bytes_within k rest, length-drop (line_length (b ∷ bs)) (b ∷ bs), first_within (b ∷ bs))

-- and after them stand the other lines
lines_after : (k : ℕ) (bs : List ℕ) → text_lines (drop (bytes_of k bs) bs) ≡ drop k (text_lines bs)
unfolding text_lines flatten
lines_after zero bs = refl
lines_after (suc k) [] = refl
lines_after (suc k) (b ∷ bs) =
    let n : ℕ = line_length (b ∷ bs) in
    ap (λ (m : ℕ). text_lines (drop m (b ∷ bs))) (bytes_first k b bs)
    ∙ ap text_lines (sym (drop-drop (bytes_of k (drop n (b ∷ bs))) n (b ∷ bs)))
    ∙ lines_after k (drop n (b ∷ bs))
    ∙ ap (drop (suc k)) (sym (lines_on b bs))

-- the place of a border is within the text
pub place_within : (text : List ℕ) (from n : ℕ) → from ≤ length text → border_place text from n ≤ length text
unfolding border_place
place_within text from n h =
    let ls : List (List ℕ) = text_lines (drop from text) in
    omega (
      arith,
      ap (λ (ms : List (List ℕ)). length (flatten ms)) (nth_front form_border n ls),
      bytes_within (length (before_nth form_border n ls)) (drop from text),
      length-drop from text,
    )

-- and not before the place from which it is sought
pub place_after : (text : List ℕ) (from n : ℕ) → from ≤ border_place text from n
unfolding border_place
place_after text from n = omega arith

-- border f of a text, and the next one from there on
module _ (text : List ℕ) (f : ℕ) where
  abbrev earlier : List (List ℕ)
  earlier = before_nth form_border f (text_lines text)

  first_place : border_place text 0 f ≡ length (flatten earlier)
  unfolding border_place
  first_place = omega arith

  rest_lines : text_lines (drop (length (flatten earlier)) text) ≡ drop (length earlier) (text_lines text)
  rest_lines =
      ap (λ (ls : List (List ℕ)). text_lines (drop (length (flatten ls)) text)) (nth_front form_border f (text_lines text))
      ∙ lines_after (length earlier) text

  next_place : border_place text (length (flatten earlier)) 1 ≡ length (flatten earlier) + length (flatten (form_lines f (text_lines text)))
  unfolding border_place
  next_place =
      ap (λ (ls : List (List ℕ)). length (flatten earlier) + length (flatten ls))
      (ap (before_nth form_border 1) rest_lines ∙ sym (nth_from form_border f (text_lines text)))

  pub stretch_found : {start : ℕ} → start ≡ border_place text 0 f → {end : ℕ} → end ≡ border_place text start 1
      → Ok (stretch start (end - start)) ≡ form_stretch f (text_lines text)
  stretch_found {start} s {end} e =
      let at : start ≡ length (flatten earlier) = s ∙ first_place in
      let past : end ≡ length (flatten earlier) + length (flatten (form_lines f (text_lines text))) = e ∙ ap (λ (n : ℕ). border_place text n 1) at ∙ next_place in
      let long : end - start ≡ length (flatten (form_lines f (text_lines text))) = omega (arith, at, past) in
      λ i. Ok (stretch (at i) (long i))
