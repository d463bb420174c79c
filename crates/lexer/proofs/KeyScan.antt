-- Scanning a line's key, byte by byte: it finds the letters before the equal sign, or loses a line that no place takes.
-- Assumes nothing.
use Prim.Native.Nat.{ℕ, zero, suc, ◌+◌, ◌*◌, ◌-◌, ◌≤◌, ◌<◌}
use native.Mathlib.Omega.{arith}
use native.Mathlib.Decide.{dec_le}
use mathlib.Core.Path.{◌≡◌, refl, sym, ap, ◌∙◌, subst}
use mathlib.Core.Bool.{Bool, true, false, cond, ◌&&◌}
use mathlib.Core.List.{List, [], ◌∷◌, ◌++◌}
use lib.Dec.{T, eqb, leb, ltb}
use lib.ListN.{length, length-append}
use lib.Seq.{append_snoc}
use borrow.Author.Tests.{le-leb, lt-leb, ltb-true, ltb-false, eqb-true, eqb-false}
use Rattle.lists.proofs.Tests.{and_left, and_right, and_intro}
use Rattle.std.specs.declared.option.Option.{Option}
use Rattle.std.specs.declared.option.Option.TheVariants.{Some, None}
use Rattle.sheet_rules.specs.declared.Place.{Place}
use Rattle.sheet_rules.specs.Keys.{count_of, place_of, takes}
use Rattle.sheet_rules.specs.Lines.{newline, comma, equals, in_front, split_on, all_decimals, values, Line, line, torn, numbered, keyed, line_of}
use Rattle.sheet_rules.proofs.KeysLaws.{most_nine}
use Rattle.lexer.specs.Scan.{code_limit, key_scan, word_code}
use Rattle.lexer.proofs.DecimalLaws.{glue, glue_step, split_on_other, Lacks}
use Rattle.lexer.proofs.NumberScan.{split_form}
use Rattle.lexer.proofs.KeyLaws.{is_letter, all_letters, letter_low, letter_high, place_of_no_letters, place_of_long}

-- a line that no place takes: not in the sheet's shape, or with a number count that its key does not take
pub data Hopeless : Line → Type 0 where
  is_torn : Hopeless torn
  unfit : {k : Place} {ns : List ℕ} → takes k (length ns) ≡ false → Hopeless (line k ns)

fails_right : (a : Bool) {b : Bool} → b ≡ false → a && b ≡ false
fails_right true e = e
fails_right false e = refl

-- so no place takes a line of an unknown word
unknown : {k : Place} {ns : List ℕ} → k ≡ Place.Nowhere → Hopeless (line k ns)
unknown {ns = ns} e = unfit (ap (λ (k : Place). takes k (length ns)) e ∙ none (length ns))
  where
    none : (n : ℕ) → takes Place.Nowhere n ≡ false
    none zero = refl
    none (suc n) = fails_right (leb 1 (suc n)) (lt-leb (suc n) 0 (omega arith))

-- nor one with more numbers than any key has
pub too_many : {k : Place} {ns : List ℕ} → 9 < length ns → Hopeless (line k ns)
too_many {k} {ns} h =
    unfit (fails_right (leb (count_of k).fewest (length ns)) (lt-leb (length ns) (count_of k).most (omega (arith, most_nine k))))

-- a first piece that spells no key
keyed-Hopeless : (w : List ℕ) (ps : List (List ℕ)) → place_of w ≡ Place.Nowhere → Hopeless (keyed (w ∷ ps))
unfolding keyed numbered
keyed-Hopeless w [] e = is_torn
keyed-Hopeless w (v ∷ []) e = go (all_decimals (split_on comma v))
  where
    go : (b : Bool) → Hopeless (cond b (line (place_of w) (values (split_on comma v))) torn)
    go true = unknown e
    go false = is_torn
keyed-Hopeless w (v ∷ u ∷ ps) e = is_torn

-- letters

letters_front : (u w : List ℕ) → T (all_letters (u ++ w)) → T (all_letters u)
unfolding all_letters
letters_front [] w t = tt
letters_front (b ∷ u) w t =
    and_intro (is_letter b) (all_letters u) (and_left (is_letter b) (all_letters (u ++ w)) t)
    (letters_front u w (and_right (is_letter b) (all_letters (u ++ w)) t))

letters_last : (u : List ℕ) (b : ℕ) → T (all_letters (u ++ (b ∷ []))) → T (is_letter b)
unfolding all_letters
letters_last [] b t = and_left (is_letter b) true t
letters_last (c ∷ u) b t = letters_last u b (and_right (is_letter c) (all_letters (u ++ (b ∷ []))) t)

letters_snoc : (u : List ℕ) (b : ℕ) → T (all_letters u) → T (is_letter b) → T (all_letters (u ++ (b ∷ [])))
unfolding all_letters
letters_snoc [] b s t = and_intro (is_letter b) true t tt
letters_snoc (c ∷ u) b s t =
    and_intro (is_letter c) (all_letters (u ++ (b ∷ []))) (and_left (is_letter c) (all_letters u) s)
    (letters_snoc u b (and_right (is_letter c) (all_letters u) s) t)

-- the pieces of a line that begins with letters

glue_front : (b : ℕ) (w : List ℕ) (ps : List (List ℕ)) → glue (b ∷ w) ps ≡ in_front b (glue w ps)
unfolding glue
glue_front b w [] = refl
glue_front b w (p ∷ ps) = refl

pub split_letters : (w x : List ℕ) → T (all_letters w) → split_on equals (w ++ x) ≡ glue w (split_on equals x)
unfolding all_letters glue
split_letters [] x t = let r = split_form equals x in r.2 ∙ sym (ap (glue []) r.2)
split_letters (b ∷ w) x t =
    let l : 97 ≤ b = letter_low b (and_left (is_letter b) (all_letters w) t) in
    split_on_other equals b (w ++ x) (λ e. omega arith)
    ∙ ap (in_front b) (split_letters w x (and_right (is_letter b) (all_letters w) t))
    ∙ sym (glue_front b w (split_on equals x))

glue_form : (w : List ℕ) (c : ℕ) (x : List ℕ) → (p : List ℕ) × (ps : List (List ℕ)) × (glue w (split_on c x) ≡ (w ++ p) ∷ ps)
unfolding glue
glue_form w c x = let r = split_form c x in (r.0, r.1, ap (glue w) r.2)

-- a line whose key goes on after letters w with a byte b that is no equal sign, where no such word is a key
lost_word : (w : List ℕ) (b : ℕ) (q : List ℕ) → T (all_letters w) → (b ≡ equals → ⊥)
    → ((p : List ℕ) → place_of (w ++ (b ∷ []) ++ p) ≡ Place.Nowhere) → Hopeless (line_of (w ++ (b ∷ q)))
unfolding line_of
lost_word w b q t ne h =
    let r = glue_form (w ++ (b ∷ [])) equals q in
    subst (λ (ps : List (List ℕ)). Hopeless (keyed ps))
    (sym (split_letters w (b ∷ q) t ∙ ap (glue w) (split_on_other equals b q ne) ∙ glue_step w b (split_on equals q) ∙ r.2))
    (keyed-Hopeless (w ++ (b ∷ []) ++ r.0) r.1 (h r.0))

-- six letters leave room for a seventh, and seven leave none: letter by letter

-- 27 to the power n
power : ℕ → ℕ
power zero = 1
power (suc n) = power n * 27

-- a letter more of a number that is below a power, or at least one
letter_below : (c p b : ℕ) → c < p → b ≤ 122 → c * 27 + (b - 96) < p * 27
letter_below c p b h l = omega arith

letter_above : (c p b : ℕ) → p ≤ c → p * 27 ≤ c * 27 + (b - 96)
letter_above c p b h = omega arith

-- after a number below a power, the code of some letters is below that power times theirs
code_below : (w : List ℕ) (c n : ℕ) → T (all_letters w) → c < power n → word_code c w < power (n + length w)
unfolding word_code all_letters power
code_below [] c n t h = subst (λ (m : ℕ). c < power m) (let z : n ≡ n + 0 = omega arith in z) h
code_below (b ∷ w) c n t h =
    subst (λ (m : ℕ). word_code (c * 27 + (b - 96)) w < power m) (let z : suc n + length w ≡ n + suc (length w) = omega arith in z)
    (code_below w (c * 27 + (b - 96)) (suc n) (and_right (is_letter b) (all_letters w) t)
    (letter_below c (power n) b h (letter_high b (and_left (is_letter b) (all_letters w) t))))

-- and after one that reaches it, reaches it
code_above : (w : List ℕ) (c n : ℕ) → power n ≤ c → power (n + length w) ≤ word_code c w
unfolding word_code power
code_above [] c n h = subst (λ (m : ℕ). power m ≤ c) (let z : n ≡ n + 0 = omega arith in z) h
code_above (b ∷ w) c n h =
    subst (λ (m : ℕ). power m ≤ word_code (c * 27 + (b - 96)) w) (let z : suc n + length w ≡ n + suc (length w) = omega arith in z)
    (code_above w (c * 27 + (b - 96)) (suc n) (letter_above c (power n) b h))

power_some : (n : ℕ) → 1 ≤ power n
unfolding power
power_some zero = omega arith
power_some (suc n) = omega (arith, power_some n)

power_grows : (n k : ℕ) → power n ≤ power (n + k)
unfolding power
power_grows n zero = subst (λ (m : ℕ). power n ≤ power m) (let z : n ≡ n + 0 = omega arith in z) (omega arith)
power_grows n (suc k) =
    subst (λ (m : ℕ). power n ≤ power m) (let z : suc (n + k) ≡ n + suc k = omega arith in z) (omega (arith, power_grows n k, power_some (n + k)))

code_room : (w : List ℕ) → T (all_letters w) → length w ≤ 6 → word_code 0 w < code_limit
unfolding power
code_room w t h =
    let p : power (length w) ≤ power (length w + (6 - length w)) = power_grows (length w) (6 - length w) in
    let z : length w + (6 - length w) ≡ 6 = omega arith in
    let y : 0 + length w ≡ length w = omega arith in
    let q : word_code 0 w < power (length w) = subst (λ (m : ℕ). word_code 0 w < power m) y (code_below w 0 0 t (omega arith)) in
    omega (arith, q, subst (λ (m : ℕ). power (length w) ≤ power m) z p)

code_full : (w : List ℕ) → T (all_letters w) → 7 ≤ length w → code_limit ≤ word_code 0 w
unfolding word_code all_letters power
code_full [] t h = absurd (omega arith)
code_full (b ∷ w) t h =
    let l : 97 ≤ b = letter_low b (and_left (is_letter b) (all_letters w) t) in
    let p : power 6 ≤ power (6 + (length w - 6)) = power_grows 6 (length w - 6) in
    let z : 6 + (length w - 6) ≡ length w = omega arith in
    let y : 0 + length w ≡ length w = omega arith in
    let q : power (length w) ≤ word_code (0 * 27 + (b - 96)) w = subst (λ (m : ℕ). power m ≤ word_code (0 * 27 + (b - 96)) w) y (code_above w (0 * 27 + (b - 96)) 0 (omega arith)) in
    omega (arith, q, subst (λ (m : ℕ). power 6 ≤ power m) z p)

-- the result of scanning a key, after letters w, in a line that goes on with q
pub data KeyScanned (w q : List ℕ) (i : ℕ) : Option (ℕ × ℕ) → Type 0 where
  letters : (u v : List ℕ) {r : ℕ × ℕ} → w ++ q ≡ u ++ (equals ∷ v) → T (all_letters u) → r.0 ≡ word_code 0 u
      → r.1 + length w ≡ i + suc (length u) → KeyScanned w q i (Some r)
  no_key : Hopeless (line_of (w ++ q)) → KeyScanned w q i None

word_code_snoc : (c : ℕ) (w : List ℕ) (b : ℕ) → word_code c (w ++ (b ∷ [])) ≡ word_code c w * 27 + (b - 96)
unfolding word_code
word_code_snoc c [] b = refl
word_code_snoc c (a ∷ w) b = word_code_snoc (c * 27 + (a - 96)) w b

length_snoc : (w : List ℕ) (b : ℕ) → length (w ++ (b ∷ [])) ≡ suc (length w)
length_snoc w b = rw length-append (omega arith)

-- a letter more of the key in progress: what is known of the rest carries over
onward : (w q : List ℕ) (b i : ℕ) (r : Option (ℕ × ℕ)) → KeyScanned (w ++ (b ∷ [])) q (i + 1) r → KeyScanned w (b ∷ q) i r
onward w q b i (Some r) (letters u v e t p h) =
    let z : r.1 + length w ≡ i + suc (length u) = omega (arith, length_snoc w b) in
    letters u v (sym (append_snoc w b q) ∙ e) t p z
onward w q b i None (no_key h) = no_key (subst (λ (l : List ℕ). Hopeless (line_of l)) (append_snoc w b q) h)

-- a line without an equal sign
no_equals : (w : List ℕ) → T (all_letters w) → Hopeless (line_of (w ++ []))
unfolding line_of keyed split_on glue
no_equals w t = subst (λ (ps : List (List ℕ)). Hopeless (keyed ps)) (sym (split_letters w [] t)) is_torn

pub key_scanned : (q : List ℕ) → Lacks newline q → (rest w : List ℕ) → T (all_letters w) → length w ≤ 7 → (c i : ℕ) → c ≡ word_code 0 w
    → KeyScanned w q i (key_scan c i (q ++ (newline ∷ rest)))
unfolding key_scan
key_scanned [] l rest w t h c i e = no_key (no_equals w t)
key_scanned (b ∷ q) l rest w t h c i e =
    go (λ s k. key_scanned q l.1 rest (w ++ (b ∷ [])) (letters_snoc w b t s) k (c * 27 + (b - 96)) (i + 1) next) (eqb b equals) refl (ltb b 97) refl (ltb 122 b) refl (ltb c code_limit) refl
  where
    next : c * 27 + (b - 96) ≡ word_code 0 (w ++ (b ∷ []))
    next = ap (λ (n : ℕ). n * 27 + (b - 96)) e ∙ sym (word_code_snoc 0 w b)

    Rest : Option (ℕ × ℕ)
    Rest = key_scan (c * 27 + (b - 96)) (i + 1) (q ++ (newline ∷ rest))

    no-letter : (b ≡ equals → ⊥) → (T (is_letter b) → ⊥) → Hopeless (line_of (w ++ (b ∷ q)))
    no-letter ne nl =
        lost_word w b q t ne (λ p. place_of_no_letters (w ++ (b ∷ []) ++ p) (λ s. nl (letters_last w b (letters_front (w ++ (b ∷ [])) p s))))

    go : (T (is_letter b) → length (w ++ (b ∷ [])) ≤ 7 → KeyScanned (w ++ (b ∷ [])) q (i + 1) Rest)
        → (x1 : Bool) → eqb b equals ≡ x1 → (x2 : Bool) → ltb b 97 ≡ x2 → (x3 : Bool) → ltb 122 b ≡ x3 → (x4 : Bool) → ltb c code_limit ≡ x4
        → KeyScanned w (b ∷ q) i (cond x1 (Some (c, i + 1)) (cond x2 None (cond x3 None (cond x4 Rest None))))
    go more true e1 x2 e2 x3 e3 x4 e4 =
        let z : i + 1 + length w ≡ i + suc (length w) = omega arith in
        letters w q (ap (λ (a : ℕ). w ++ (a ∷ q)) (eqb-true b equals e1)) t e z
    go more false e1 true e2 x3 e3 x4 e4 =
        no_key (no-letter (eqb-false b equals e1) (λ s. let y = letter_low b s in let z = ltb-true b 97 e2 in omega arith))
    go more false e1 false e2 true e3 x4 e4 =
        no_key (no-letter (eqb-false b equals e1) (λ s. let y = letter_high b s in let z = ltb-true 122 b e3 in omega arith))
    go more false e1 false e2 false e3 true e4 = onward w q b i Rest (more is-letter (room (dec_le (length w) 6)))
      where
        is-letter : T (is_letter b)
        is-letter =
            and_intro (leb 97 b) (leb b 122) (subst T (sym (le-leb 97 b (ltb-false b 97 e2))) tt)
            (subst T (sym (le-leb b 122 (ltb-false 122 b e3))) tt)

        room : Dec (length w ≤ 6) → length (w ++ (b ∷ [])) ≤ 7
        room (yes p) = omega (arith, length_snoc w b)
        room (no p) =
            absurd (let y : code_limit ≤ word_code 0 w = code_full w t (omega arith) in let z = ltb-true c code_limit e4 in omega arith)
    go more false e1 false e2 false e3 false e4 =
        no_key (lost_word w b q t (eqb-false b equals e1) (λ p. place_of_long (w ++ (b ∷ []) ++ p) (long p (dec_le (length w) 6))))
      where
        long : (p : List ℕ) → Dec (length w ≤ 6) → 7 < length (w ++ (b ∷ []) ++ p)
        long p (yes k) =
            absurd (let y : word_code 0 w < code_limit = code_room w t k in let z = ltb-false c code_limit e4 in omega arith)
        long p (no k) = omega (arith, length-append (w ++ (b ∷ [])) p, length_snoc w b)
