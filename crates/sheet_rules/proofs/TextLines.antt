-- The lines of a text as they stand in it: those of a text that reads as a sheet are the sheet's own, as they are written.
-- Assumes nothing.
use Prim.Native.Nat.{ℕ}
use mathlib.Core.Path.{◌≡◌, refl, sym, ap, ◌∙◌, subst}
use mathlib.Core.Bool.{Bool, true, false, cond}
use mathlib.Core.List.{List, [], ◌∷◌, ◌++◌, map}
use lib.Dec.{T, eqb, eqb→eq}
use Rattle.lists.specs.Each.{Each, each}
use Rattle.sheet_rules.specs.Lines.{newline, in_front, split_step, split_on, finished, lines_of}
use Rattle.sheet_rules.specs.Sheet.{Sheet}
use Rattle.sheet_rules.specs.Reading.{readable, meaning}
use Rattle.sheet_rules.specs.Print.{line_bytes, sheet_written}
use Rattle.sheet_rules.specs.Stretch.{text_lines}
use Rattle.sheet_rules.proofs.PrintBytes.{pieces}
use Rattle.sheet_rules.proofs.PrintLines.{Proper, line_back}
use Rattle.sheet_rules.proofs.RoundTrip.{sheet_proper, readable_lines}

-- the pieces that a byte 10 ends, each with it, and what follows the last
unfoldable ended : List (List ℕ) → List (List ℕ)
ended [] = []
ended ([] ∷ []) = []
ended ((b ∷ bs) ∷ []) = (b ∷ bs) ∷ []
ended (p ∷ q ∷ ps) = (p ++ (newline ∷ [])) ∷ ended (q ∷ ps)

front_ended : (b : ℕ) (p : List ℕ) (ps : List (List ℕ)) → ended ((b ∷ p) ∷ ps) ≡ in_front b (ended (p ∷ ps))
unfolding ended
front_ended b [] [] = refl
front_ended b (c ∷ cs) [] = refl
front_ended b p (q ∷ qs) = refl

text_ended : (bs : List ℕ) → text_lines bs ≡ ended (split_on newline bs)
unfolding text_lines split_on ended
text_ended [] = refl
text_ended (b ∷ bs) = go (pieces newline bs).first (pieces newline bs).more (pieces newline bs).is (eqb b newline) refl (text_ended bs)
  where
    go : (p : List ℕ) (ps : List (List ℕ)) → split_on newline bs ≡ p ∷ ps → (t : Bool) → eqb b newline ≡ t → text_lines bs ≡ ended (split_on newline bs)
        → cond (eqb b newline) ((b ∷ []) ∷ text_lines bs) (in_front b (text_lines bs)) ≡ ended (split_step newline b (split_on newline bs))
    go p ps e true q h =
        (λ i. cond (q i) ((eqb→eq b newline (subst T (sym q) tt) i ∷ []) ∷ (h ∙ ap ended e) i) (in_front b (text_lines bs)))
        ∙ sym (λ i. ended (cond (q i) ([] ∷ e i) (in_front b (e i))))
    go p ps e false q h =
        (λ i. cond (q i) ((b ∷ []) ∷ text_lines bs) (in_front b ((h ∙ ap ended e) i)))
        ∙ sym (front_ended b p ps)
        ∙ sym (λ i. ended (cond (q i) ([] ∷ e i) (in_front b (e i))))

-- where every line is in the sheet's shape
ended_back : (ps : List (List ℕ)) → Each Proper (finished ps) → ended ps ≡ map line_bytes (finished ps)
unfolding finished ended
ended_back [] a = refl
ended_back ([] ∷ []) a = refl
ended_back ((b ∷ bs) ∷ []) (each p a) = elim p [ ]
ended_back (p ∷ q ∷ ps) (each h a) = λ i. line_back p h i ∷ ended_back (q ∷ ps) a i

-- the lines of a readable text are those of its sheet, each as it is written
pub text_lines_lem : (text : List ℕ) (s : Sheet) → meaning text ≡ readable s → text_lines text ≡ map line_bytes (sheet_written s)
unfolding lines_of
text_lines_lem text s e =
    let l = readable_lines text s e in
    text_ended text
    ∙ ended_back (split_on newline text) (subst (Each Proper) (sym l) (sheet_proper s))
    ∙ ap (map line_bytes) l
