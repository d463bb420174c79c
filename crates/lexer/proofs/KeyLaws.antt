-- A word of letters and its number in base 27: the number tells the word, so that the key of a code is the key of its word; and
-- a word that no key has. Assumes nothing.
use Prim.Native.Nat.{ℕ, ◌+◌, ◌*◌, ◌-◌, ◌≤◌, ◌<◌}
use native.Mathlib.Omega.{arith}
use mathlib.Core.Path.{◌≡◌, refl, sym, ap, ◌∙◌, subst}
use mathlib.Core.Bool.{Bool, true, false, cond, ◌&&◌}
use mathlib.Core.List.{List, [], ◌∷◌, reverse, reverse_aux, reverse-reverse}
use lib.Dec.{T, eqb, leb, eqb→eq, eqb_refl, leb→le}
use lib.ListN.{length}
use Rattle.lists.proofs.Tests.{and_left, and_right, and_intro, T-ext}
use Rattle.sheet_rules.specs.declared.Place.{Place}
use Rattle.sheet_rules.specs.declared.Place.TheVariants.{Types, Row, Member, Forms, Form, Keep, Init, Body, Devices, Device, Main, Instruction, Nowhere}
use Rattle.sheet_rules.specs.declared.MemberKind.TheVariants.{Method, Field}
use Rattle.sheet_rules.specs.declared.Operation.TheVariants.{New, Call, Get, Put, Copy}
use Rattle.sheet_rules.specs.Keys.{bytes, spelling, all_places, same_bytes, place_among, place_of}
use Rattle.lexer.specs.Scan.{word_code, code_among, place_of_code}

-- small letters

abbrev pub is_letter : ℕ → Bool
is_letter b = leb 97 b && leb b 122

unfoldable pub all_letters : List ℕ → Bool
all_letters [] = true
all_letters (b ∷ bs) = is_letter b && all_letters bs

pub letter_low : (b : ℕ) → T (is_letter b) → 97 ≤ b
letter_low b t = leb→le 97 b (and_left (leb 97 b) (leb b 122) t)

pub letter_high : (b : ℕ) → T (is_letter b) → b ≤ 122
letter_high b t = leb→le b 122 (and_right (leb 97 b) (leb b 122) t)

-- every key is spelled by at most seven letters
spelled : (k : Place) → T (all_letters (spelling k) && leb (length (spelling k)) 7)
unfolding bytes all_letters
spelled Types = tt
spelled Row = tt
spelled (Member Method) = tt
spelled (Member Field) = tt
spelled Forms = tt
spelled Form = tt
spelled Keep = tt
spelled Init = tt
spelled Body = tt
spelled Devices = tt
spelled Device = tt
spelled Main = tt
spelled (Instruction New) = tt
spelled (Instruction Call) = tt
spelled (Instruction Get) = tt
spelled (Instruction Put) = tt
spelled (Instruction Copy) = tt
spelled Nowhere = tt

pub spelling_letters : (k : Place) → T (all_letters (spelling k))
spelling_letters k = and_left (all_letters (spelling k)) (leb (length (spelling k)) 7) (spelled k)

pub spelling_short : (k : Place) → length (spelling k) ≤ 7
spelling_short k = leb→le (length (spelling k)) 7 (and_right (all_letters (spelling k)) (leb (length (spelling k)) 7) (spelled k))

-- the same bytes are the same word

same_bytes_eq : (u w : List ℕ) → T (same_bytes u w) → u ≡ w
unfolding same_bytes
same_bytes_eq [] [] t = refl
same_bytes_eq [] (c ∷ w) t = absurd t
same_bytes_eq (b ∷ u) [] t = absurd t
same_bytes_eq (b ∷ u) (c ∷ w) t =
    let p : b ≡ c = eqb→eq b c (and_left (eqb b c) (same_bytes u w) t) in
    let q : u ≡ w = same_bytes_eq u w (and_right (eqb b c) (same_bytes u w) t) in
    λ i. p i ∷ q i

same_bytes_refl : (u : List ℕ) → T (same_bytes u u)
unfolding same_bytes
same_bytes_refl [] = tt
same_bytes_refl (b ∷ u) = and_intro (eqb b b) (same_bytes u u) (eqb_refl b) (same_bytes_refl u)

-- a word that no key has

place_among_nowhere : (ks : List Place) (w : List ℕ) → ((k : Place) → spelling k ≡ w → ⊥) → place_among ks w ≡ Nowhere
unfolding place_among
place_among_nowhere [] w h = refl
place_among_nowhere (k ∷ ks) w h = go (same_bytes (spelling k) w) refl (place_among_nowhere ks w h)
  where
    go : (b : Bool) → same_bytes (spelling k) w ≡ b → place_among ks w ≡ Nowhere → cond b k (place_among ks w) ≡ Nowhere
    go true e r = absurd (h k (same_bytes_eq (spelling k) w (subst T (sym e) tt)))
    go false e r = r

pub place_of_no_letters : (w : List ℕ) → (T (all_letters w) → ⊥) → place_of w ≡ Nowhere
place_of_no_letters w h = place_among_nowhere all_places w (λ k e. h (subst (λ (u : List ℕ). T (all_letters u)) e (spelling_letters k)))

pub place_of_long : (w : List ℕ) → 7 < length w → place_of w ≡ Nowhere
place_of_long w h =
    place_among_nowhere all_places w (λ k e. let s : length w ≤ 7 = subst (λ (u : List ℕ). length u ≤ 7) e (spelling_short k) in omega arith)

-- the number of a word, last letter first

rev_code : List ℕ → ℕ
rev_code [] = 0
rev_code (b ∷ bs) = rev_code bs * 27 + (b - 96)

word_code_rev : (w acc : List ℕ) → word_code (rev_code acc) w ≡ rev_code (reverse_aux w acc)
unfolding word_code rev_code
word_code_rev [] acc = refl
word_code_rev (b ∷ w) acc = word_code_rev w (b ∷ acc)

letters_reverse_aux : (w acc : List ℕ) → T (all_letters w) → T (all_letters acc) → T (all_letters (reverse_aux w acc))
unfolding all_letters
letters_reverse_aux [] acc s t = t
letters_reverse_aux (b ∷ w) acc s t =
    letters_reverse_aux w (b ∷ acc) (and_right (is_letter b) (all_letters w) s)
    (and_intro (is_letter b) (all_letters acc) (and_left (is_letter b) (all_letters w) s) t)

digit_unique : (x y d e : ℕ) → 1 ≤ d → d ≤ 26 → 1 ≤ e → e ≤ 26 → x * 27 + d ≡ y * 27 + e → (x ≡ y) × (d ≡ e)
digit_unique x y d e d1 d2 e1 e2 p = (omega arith, omega arith)

rev_code_unique : (u w : List ℕ) → T (all_letters u) → T (all_letters w) → rev_code u ≡ rev_code w → u ≡ w
unfolding rev_code all_letters
rev_code_unique [] [] s t p = refl
rev_code_unique [] (c ∷ w) s t p =
    absurd (let h : 97 ≤ c = letter_low c (and_left (is_letter c) (all_letters w) t) in omega arith)
rev_code_unique (b ∷ u) [] s t p =
    absurd (let h : 97 ≤ b = letter_low b (and_left (is_letter b) (all_letters u) s) in omega arith)
rev_code_unique (b ∷ u) (c ∷ w) s t p =
    let lb : 97 ≤ b = letter_low b (and_left (is_letter b) (all_letters u) s) in
    let hb : b ≤ 122 = letter_high b (and_left (is_letter b) (all_letters u) s) in
    let lc : 97 ≤ c = letter_low c (and_left (is_letter c) (all_letters w) t) in
    let hc : c ≤ 122 = letter_high c (and_left (is_letter c) (all_letters w) t) in
    let r : (rev_code u ≡ rev_code w) × (b - 96 ≡ c - 96) =
    digit_unique (rev_code u) (rev_code w) (b - 96) (c - 96) (omega arith) (omega arith) (omega arith) (omega arith) p in
    let q : u ≡ w = rev_code_unique u w (and_right (is_letter b) (all_letters u) s) (and_right (is_letter c) (all_letters w) t) r.0 in
    let e : b ≡ c = omega (arith, r.1) in
    λ i. e i ∷ q i

-- two words of letters with the same number are the same
pub word_code_unique : (u w : List ℕ) → T (all_letters u) → T (all_letters w) → word_code 0 u ≡ word_code 0 w → u ≡ w
unfolding rev_code all_letters
word_code_unique u w s t p =
    sym (reverse-reverse u)
    ∙ ap reverse
    (rev_code_unique (reverse u) (reverse w) (letters_reverse_aux u [] s tt) (letters_reverse_aux w [] t tt)
    (sym (word_code_rev u []) ∙ p ∙ word_code_rev w []))
    ∙ reverse-reverse w

-- the key of a word's number is the key of the word

code_among_word : (ks : List Place) (w : List ℕ) → T (all_letters w) → code_among ks (word_code 0 w) ≡ place_among ks w
unfolding code_among place_among
code_among_word [] w t = refl
code_among_word (k ∷ ks) w t =
    ap (λ (b : Bool). cond b k (code_among ks (word_code 0 w))) same ∙ ap (cond (same_bytes (spelling k) w) k) (code_among_word ks w t)
  where
    same : eqb (word_code 0 w) (word_code 0 (spelling k)) ≡ same_bytes (spelling k) w
    same =
        T-ext (eqb (word_code 0 w) (word_code 0 (spelling k))) (same_bytes (spelling k) w)
        (λ p. subst (λ (u : List ℕ). T (same_bytes (spelling k) u))
        (sym (word_code_unique w (spelling k) t (spelling_letters k) (eqb→eq (word_code 0 w) (word_code 0 (spelling k)) p))) (same_bytes_refl (spelling k)))
        (λ p. subst (λ (u : List ℕ). T (eqb (word_code 0 u) (word_code 0 (spelling k)))) (same_bytes_eq (spelling k) w p)
        (eqb_refl (word_code 0 (spelling k))))

pub place_of_code_word : (w : List ℕ) → T (all_letters w) → place_of_code (word_code 0 w) ≡ place_of w
unfolding place_of_code
place_of_code_word w t = code_among_word all_places w t
