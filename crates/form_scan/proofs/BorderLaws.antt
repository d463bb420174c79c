-- A text's lines one after another: where a line ends, whether it is a border, and the place of the next border. Assumes nothing.
use Prim.Native.Nat.{ℕ, zero, suc, ◌+◌, ◌-◌, ◌≤◌, ◌<◌, min}
use native.Mathlib.Omega.{arith}
use mathlib.Core.Path.{◌≡◌, refl, sym, ap, ◌∙◌, subst}
use mathlib.Core.Bool.{Bool, true, false, cond, ◌&&◌, ◌||◌}
use mathlib.Core.List.{List, [], ◌∷◌, flatten, ◌++◌}
use lib.Dec.{eqb}
use lib.ListN.{length, get_or, take, drop, length-append, length-drop, drop_of_length-le}
use lib.Seq.{drop-cons, drop-drop, take-append_seam, drop-append_seam}
use Rattle.std.specs.Borrow.{Bor}
use Rattle.std.specs.Fn.{Mut, Called, ComputesKey}
use Rattle.std.specs.List.{IsFirstMatchOrLen, starts_with}
use Rattle.std.proofs.lemmas.List.Sorted.{answers_always}
use Rattle.std.proofs.lemmas.List.{take_min}
use Rattle.lists.specs.BeforeNth.{before_nth}
use Rattle.lists.proofs.BeforeNthLaws.{nth_here, nth_later, nth_other}
use Rattle.sheet_rules.specs.Keys.{bytes}
use Rattle.sheet_rules.specs.Lines.{newline, in_front}
use Rattle.sheet_rules.specs.Stretch.{text_lines, begins, form_border}
use Rattle.form_scan.specs.Borders.{first_line, line_length, border_place}

-- THE FIRST LINE

pub first_ends : (b : ℕ) (bs : List ℕ) → eqb b newline ≡ true → first_line (b ∷ bs) ≡ b ∷ []
unfolding text_lines
first_ends b bs e = ap (λ (x : Bool). get_or (cond x ((b ∷ []) ∷ text_lines bs) (in_front b (text_lines bs))) 0 []) e

pub first_more : (b : ℕ) (bs : List ℕ) → eqb b newline ≡ false → first_line (b ∷ bs) ≡ b ∷ first_line bs
unfolding text_lines
first_more b bs e = ap (λ (x : Bool). get_or (cond x ((b ∷ []) ∷ text_lines bs) (in_front b (text_lines bs))) 0 []) e ∙ front (text_lines bs)
  where
    front : (ls : List (List ℕ)) → get_or (in_front b ls) 0 [] ≡ b ∷ get_or ls 0 []
    front [] = refl
    front (l ∷ ls) = refl

-- these are the lines of some bytes: the first, and then those of the bytes after it
abbrev Splits : List ℕ → List (List ℕ) → Type 0
Splits bs ls = ls ≡ get_or ls 0 [] ∷ text_lines (drop (length (get_or ls 0 [])) bs)

pub lines_on : (b : ℕ) (bs : List ℕ) → Splits (b ∷ bs) (text_lines (b ∷ bs))
unfolding text_lines
lines_on b [] = go (eqb b newline)
  where
    go : (x : Bool) → Splits (b ∷ []) (cond x ((b ∷ []) ∷ []) ((b ∷ []) ∷ []))
    go true = refl
    go false = refl
lines_on b (c ∷ cs) = go (eqb b newline) (lines_on c cs)
  where
    go : (x : Bool) → Splits (c ∷ cs) (text_lines (c ∷ cs)) → Splits (b ∷ c ∷ cs) (cond x ((b ∷ []) ∷ text_lines (c ∷ cs)) (in_front b (text_lines (c ∷ cs))))
    go true later = refl
    go false later = subst (λ (ls : List (List ℕ)). Splits (b ∷ c ∷ cs) (in_front b ls)) (sym later) refl

pub first_within : (bs : List ℕ) → line_length bs ≤ length bs
unfolding text_lines
first_within [] = omega arith
first_within (b ∷ bs) = go (eqb b newline) refl (first_within bs)
  where
    go : (x : Bool) → eqb b newline ≡ x → line_length bs ≤ length bs → line_length (b ∷ bs) ≤ length (b ∷ bs)
    go true e later = omega (arith, ap length (first_ends b bs e))
    go false e later = omega (arith, ap length (first_more b bs e), later)

-- a line is cut off after its first byte 10, or at the end
first_cut : (bs : List ℕ) (i : ℕ) → IsFirstMatchOrLen (λ b. eqb b newline) bs i → take (suc i) bs ≡ first_line bs
unfolding text_lines
first_cut [] i m = refl
first_cut (b ∷ bs) zero m = sym (first_ends b bs (m.1 (omega arith) 0))
first_cut (b ∷ bs) (suc i) m =
    ap (λ (l : List ℕ). b ∷ l) (first_cut bs i ((λ k d l h. m.0 (suc k) d (omega arith) (omega arith)), λ h d. m.1 (omega arith) d))
    ∙ sym (first_more b bs (m.0 0 0 (omega arith) (omega arith)))

pub line_cut : (bs x rest : List ℕ) (i : ℕ) → bs ≡ x ++ rest → length x ≡ min (i + 1) (length bs) → IsFirstMatchOrLen (λ b. eqb b newline) bs i → x ≡ first_line bs
line_cut bs x rest i e n m =
    sym (take-append_seam x rest) ∙ ap (take (length x)) (sym e) ∙ ap (λ (k : ℕ). take k bs) n ∙ take_min (i + 1) bs
    ∙ ap (λ (k : ℕ). take k bs) (let z : i + 1 ≡ suc i = omega arith in z) ∙ first_cut bs i m

-- A BORDER IS TOLD BY ITS FIRST WORD

pub begins_word : (w bs : List ℕ) → starts_with eqb bs w ≡ begins w bs
unfolding begins
begins_word [] bs = refl
begins_word (c ∷ cs) [] = refl
begins_word (c ∷ cs) (b ∷ bs) = ap (λ (x : Bool). eqb c b && x) (begins_word cs bs)

-- the bytes of the three words, `form=`, `devices=` and `main=`
abbrev form_word : List ℕ
form_word = 102 ∷ 111 ∷ 114 ∷ 109 ∷ 61 ∷ []

abbrev devices_word : List ℕ
devices_word = 100 ∷ 101 ∷ 118 ∷ 105 ∷ 99 ∷ 101 ∷ 115 ∷ 61 ∷ []

abbrev main_word : List ℕ
main_word = 109 ∷ 97 ∷ 105 ∷ 110 ∷ 61 ∷ []

-- what is answered of each
module _ (l : List ℕ) {a : Bool} (form : a ≡ starts_with eqb l form_word) where
  pub by_form : a ≡ true → true ≡ form_border l
  unfolding bytes
  by_form t = sym (ap (λ (x : Bool). x || (begins devices_word l || begins main_word l)) (sym (begins_word form_word l) ∙ sym form ∙ t))

  module _ (t : a ≡ false) {b : Bool} (devices : b ≡ starts_with eqb l devices_word) where
    others : (begins devices_word l || begins main_word l) ≡ form_border l
    unfolding bytes
    others = sym (ap (λ (x : Bool). x || (begins devices_word l || begins main_word l)) (sym (begins_word form_word l) ∙ sym form ∙ t))

    pub by_devices : b ≡ true → true ≡ form_border l
    by_devices u = sym (ap (λ (x : Bool). x || begins main_word l) (sym (begins_word devices_word l) ∙ sym devices ∙ u)) ∙ others

    pub by_main : b ≡ false → {c : Bool} → c ≡ starts_with eqb l main_word → c ≡ form_border l
    by_main u main = main ∙ begins_word main_word l ∙ sym (ap (λ (x : Bool). x || begins main_word l) (sym (begins_word devices_word l) ∙ sym devices ∙ u)) ∙ others

-- THE PLACE OF A BORDER, LINE BY LINE

module _ (text : List ℕ) (at : ℕ) where
  pub border_none : (n : ℕ) → length text ≤ at → border_place text at n ≡ at
  unfolding border_place text_lines before_nth flatten
  border_none n h =
      ap (λ (bs : List ℕ). at + length (flatten (before_nth form_border n (text_lines bs)))) (drop_of_length-le text h)
      ∙ (let z : at + 0 ≡ at = omega arith in z)

  module _ (h : at < length text) where
    abbrev next : ℕ
    next = at + line_length (drop at text)

    -- the line here, and those after it
    lines_at : text_lines (drop at text) ≡ first_line (drop at text) ∷ text_lines (drop next text)
    lines_at =
        ap text_lines (drop-cons text at 0 h)
        ∙ lines_on (get_or text at 0) (drop (suc at) text)
        ∙ ap (λ (bs : List ℕ). first_line bs ∷ text_lines (drop (line_length bs) bs)) (sym (drop-cons text at 0 h))
        ∙ ap (λ (bs : List ℕ). first_line (drop at text) ∷ text_lines bs) (drop-drop (line_length (drop at text)) at text)

    -- it stands before the border that is sought
    passed : (m n : ℕ)
        → before_nth form_border m (first_line (drop at text) ∷ text_lines (drop next text)) ≡ first_line (drop at text) ∷ before_nth form_border n (text_lines (drop next text))
        → border_place text at m ≡ border_place text next n
    unfolding border_place flatten
    passed m n e =
        let rest : List ℕ = flatten (before_nth form_border n (text_lines (drop next text))) in
        ap (λ (ls : List (List ℕ)). at + length (flatten ls)) (ap (before_nth form_border m) lines_at ∙ e)
        ∙ ap (λ (k : ℕ). at + k) (length-append (first_line (drop at text)) rest)
        ∙ (let z : at + (line_length (drop at text) + length rest) ≡ (at + line_length (drop at text)) + length rest = omega arith in z)

    pub border_other : form_border (first_line (drop at text)) ≡ false → (n : ℕ) → border_place text at n ≡ border_place text next n
    border_other e n = passed n n (nth_other form_border n (text_lines (drop next text)) e)

    module _ (e : form_border (first_line (drop at text)) ≡ true) where
      pub border_here : (n : ℕ) → n ≡ 0 → border_place text at n ≡ at
      unfolding border_place flatten
      border_here n z =
          ap (border_place text at) z
          ∙ ap (λ (ls : List (List ℕ)). at + length (flatten ls))
          (ap (before_nth form_border 0) lines_at ∙ nth_here form_border (text_lines (drop next text)) e)
          ∙ (let q : at + 0 ≡ at = omega arith in q)

      pub border_later : (n : ℕ) → (n ≡ 0 → ⊥) → border_place text at n ≡ border_place text next (n - 1)
      border_later zero ne = absurd (ne refl)
      border_later (suc n) ne =
          passed (suc n) n (nth_later form_border n (text_lines (drop next text)) e)
          ∙ ap (border_place text next) (let z : n ≡ suc n - 1 = omega arith in z)

-- A LINE CUT OFF WHAT IS LEFT OF THE TEXT

-- by a test for its last byte
module _ {F : Type 0} {g : Mut F (Bor ℕ × Unit {0}) Bool} (tests : (f : F) (a : Bor ℕ × Unit {0}) (r : Bool) (f' : F) → Called g f a r f' → r ≡ eqb a.0.now newline) (text : List ℕ) (at : ℕ) (line rest' : List ℕ) {rest : List ℕ} (left : rest ≡ drop at text) where
  module _ {f f' : F} (cut : (rest ≡ line ++ rest')
      × ((i : ℕ) × (length line ≡ min (i + 1) (length rest)) × ((p : ℕ → Bool) → ComputesKey g p f → ComputesKey g p f' × IsFirstMatchOrLen p rest i))
      × (0 < length rest)) where
    pub line_here : at < length text
    line_here = omega (arith, cut.2, ap length left, length-drop at text)

    first_here : line ≡ first_line (drop at text)
    first_here =
        line_cut rest line rest' cut.1.0 cut.0 cut.1.1 (cut.1.2 (λ b. eqb b newline) (answers_always g (λ a r. r ≡ eqb a.0.now newline) f tests)).1
        ∙ ap first_line left

    pub line_left : rest' ≡ drop (at + length line) text
    line_left =
        sym (drop-append_seam line rest') ∙ ap (drop (length line)) (sym cut.0 ∙ left) ∙ drop-drop (length line) at text

    pub line_inside : at + length line ≤ length text
    line_inside = omega (arith, ap length first_here, first_within (drop at text), length-drop at text, line_here)

    next_here : next text at line_here ≡ at + length line
    next_here = ap (λ (l : List ℕ). at + length l) (sym first_here)

    module _ {b : Bool} (told : b ≡ form_border line) where
      border_told : {x : Bool} → b ≡ x → form_border (first_line (drop at text)) ≡ x
      border_told e = ap form_border (sym first_here) ∙ sym told ∙ e

      pub found : b ≡ true → {n : ℕ} → n ≡ 0 → border_place text at n ≡ at
      found t {n} z = border_here text at line_here (border_told t) n z

      pub passed_border : b ≡ true → {n : ℕ} → (n ≡ 0 → ⊥) → border_place text at n ≡ border_place text (at + length line) (n - 1)
      passed_border t {n} z = border_later text at line_here (border_told t) n z ∙ ap (λ (k : ℕ). border_place text k (n - 1)) next_here

      pub passed_line : b ≡ false → (n : ℕ) → border_place text at n ≡ border_place text (at + length line) n
      passed_line t n = border_other text at line_here (border_told t) n ∙ ap (λ (k : ℕ). border_place text k n) next_here
