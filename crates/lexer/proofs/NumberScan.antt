-- Scanning a line's numbers, byte by byte, against the pieces between its commas: the induction of DecimalLaws' facts.
-- Assumes nothing.
use Prim.Native.Nat.{ℕ, suc, ◌+◌, ◌*◌, ◌-◌, ◌≤◌, ◌<◌}
use native.Mathlib.Omega.{arith}
use mathlib.Core.Path.{◌≡◌, refl, sym, ap, ◌∙◌, subst}
use mathlib.Core.Bool.{Bool, true, false, cond, ◌&&◌}
use mathlib.Core.List.{List, [], ◌∷◌, ◌++◌, append-nil}
use lib.Dec.{T, eqb, leb, ltb}
use lib.ListN.{length, length-append}
use borrow.Author.Tests.{le-ltb, ne_eqb, le-leb, ltb-true, ltb-false, leb-true, leb-false, eqb-true, eqb-false}
use Rattle.lists.proofs.Tests.{and_left, and_right, and_intro}
use Rattle.std.specs.declared.option.Option.{Option}
use Rattle.std.specs.declared.option.Option.TheVariants.{None}
use Rattle.sheet_rules.specs.Limits.{decimal_limit}
use Rattle.sheet_rules.specs.Lines.{newline, comma, digit0, digit9, in_front, split_on, all_digits, value_from, value_of, is_decimal, all_decimals, values}
use Rattle.lexer.specs.declared.Part.{Part}
use Rattle.lexer.specs.declared.Part.TheVariants.{Empty, Zero, Digits}
use Rattle.lexer.specs.declared.Turn.{Turn}
use Rattle.lexer.specs.declared.Turn.TheVariants.{More, Comma, Torn}
use Rattle.lexer.specs.Scan.{PartFits, end_turn, turn_of, comma_limit, on_turn, numbers_scan}
use Rattle.lexer.proofs.DecimalLaws.{all_digits_snoc, value_from-append, Written, none_yet, a_zero, some_digits, glue, glue_step, digits_decimal, not_a_digit, digit_after_zero, too_large, Scanned, found, lost, Lacks, split_on_other, after_comma}

-- what a byte is to the numbers of a line
pub data Class (b : ℕ) : Type 0 where
  is_comma : b ≡ comma → Class b
  is_digit : digit0 ≤ b → b ≤ digit9 → Class b
  is_other : (b ≡ comma → ⊥) → (T (leb digit0 b && leb b digit9) → ⊥) → Class b

pub classify : (b : ℕ) → Class b
classify b = go (eqb b comma) refl (leb digit0 b) refl (leb b digit9) refl
  where
    go : (x : Bool) → eqb b comma ≡ x → (y : Bool) → leb digit0 b ≡ y → (z : Bool) → leb b digit9 ≡ z → Class b
    go true p y q z r = is_comma (eqb-true b comma p)
    go false p true q true r = is_digit (leb-true digit0 b q) (leb-true b digit9 r)
    go false p true q false r = is_other (eqb-false b comma p) (λ t. subst T r (and_right (leb digit0 b) (leb b digit9) t))
    go false p false q z r = is_other (eqb-false b comma p) (λ t. subst T q (and_left (leb digit0 b) (leb b digit9) t))

is_a_digit : (b : ℕ) → digit0 ≤ b → b ≤ digit9 → T (leb digit0 b && leb b digit9)
is_a_digit b lo hi =
    and_intro (leb digit0 b) (leb b digit9) (subst T (sym (le-leb digit0 b lo)) tt) (subst T (sym (le-leb b digit9 hi)) tt)

-- a byte that is no digit, comma or byte 10 tears the line

end_other : (v b : ℕ) → (b ≡ comma → ⊥) → (b ≡ newline → ⊥) → end_turn v b ≡ Torn
end_other v b p q = simp (ne_eqb b comma p, ne_eqb b newline q)

Turn-other : (p : Part) (b : ℕ) → (b ≡ comma → ⊥) → (b ≡ newline → ⊥) → (T (leb digit0 b && leb b digit9) → ⊥) → turn_of p b ≡ Torn
Turn-other Zero b c n d = end_other 0 b c n
Turn-other Empty b c n d = go (ltb b digit0) refl (ltb digit9 b) refl
  where
    go : (x : Bool) → ltb b digit0 ≡ x → (y : Bool) → ltb digit9 b ≡ y
        → cond x Torn (cond y Torn (cond (eqb b digit0) (More Zero) (More (Digits (b - digit0))))) ≡ Torn
    go true e y f = refl
    go false e true f = refl
    go false e false f =
        absurd (d (is_a_digit b (ltb-false b digit0 e) (ltb-false digit9 b f)))
Turn-other (Digits v) b c n d = go (ltb b digit0) refl (ltb digit9 b) refl
  where
    grown : Turn
    grown = cond (leb (v * 10 + (b - digit0)) decimal_limit) (More (Digits (v * 10 + (b - digit0)))) Torn

    go : (x : Bool) → ltb b digit0 ≡ x → (y : Bool) → ltb digit9 b ≡ y → cond x (end_turn v b) (cond y (end_turn v b) grown) ≡ Torn
    go true e y f = end_other v b c n
    go false e true f = end_other v b c n
    go false e false f =
        absurd (d (is_a_digit b (ltb-false b digit0 e) (ltb-false digit9 b f)))

-- what a digit does

first_digit : (b : ℕ) → digit0 ≤ b → b ≤ digit9 → turn_of Empty b ≡ cond (eqb b digit0) (More Zero) (More (Digits (b - digit0)))
first_digit b lo hi = simp (le-ltb b digit0 lo, le-ltb digit9 b hi)

next_digit : (v b : ℕ) → digit0 ≤ b → b ≤ digit9
    → turn_of (Digits v) b ≡ cond (leb (v * 10 + (b - digit0)) decimal_limit) (More (Digits (v * 10 + (b - digit0)))) Torn
next_digit v b lo hi = simp (le-ltb b digit0 lo, le-ltb digit9 b hi)

-- the pieces of a list: there is always a first

pub split_form : (c : ℕ) (bs : List ℕ) → (p : List ℕ) × (ps : List (List ℕ)) × (split_on c bs ≡ p ∷ ps)
unfolding split_on
split_form c [] = ([], [], refl)
split_form c (b ∷ bs) = go (eqb b c) (split_on c bs)
  where
    go : (x : Bool) (qs : List (List ℕ)) → (p : List ℕ) × (ps : List (List ℕ)) × (cond x ([] ∷ qs) (in_front b qs) ≡ p ∷ ps)
    go true qs = ([], qs, refl)
    go false [] = (b ∷ [], [], refl)
    go false (q ∷ qs) = (b ∷ q, qs, refl)

pub glue_none : (c : ℕ) (bs : List ℕ) → glue [] (split_on c bs) ≡ split_on c bs
unfolding glue
glue_none c bs = let r = split_form c bs in ap (glue []) r.2 ∙ sym r.2

pub split_some : (c : ℕ) (bs : List ℕ) → 1 ≤ length (split_on c bs)
split_some c bs = let r = split_form c bs in subst (λ (ps : List (List ℕ)). 1 ≤ length ps) (sym r.2) (omega arith)

one_digit : (b : ℕ) → digit0 ≤ b → b ≤ digit9 → T (all_digits (b ∷ []))
unfolding all_digits
one_digit b lo hi = and_intro (leb digit0 b && leb b digit9) true (is_a_digit b lo hi) tt

last_value : (v b : ℕ) → value_from v (b ∷ []) ≡ v * 10 + (b - digit0)
unfolding value_from
last_value v b = refl

one_value : (b : ℕ) → value_of (b ∷ []) ≡ b - digit0
unfolding value_from
one_value b = omega arith

-- one number more
one_more : (ns : List ℕ) (v : ℕ) → length ns ≤ 8 → length (ns ++ (v ∷ [])) ≤ 9
one_more ns v m = omega (arith, m, length-append ns (v ∷ []))

-- a line's end
Scanned-end : (ns : List ℕ) (p : Part) (w : List ℕ) → Written p w → PartFits p → (i : ℕ) (rest : List ℕ)
    → Scanned ns (glue w ([] ∷ [])) (i + 1) (numbers_scan ns p i (newline ∷ rest))
unfolding numbers_scan glue all_decimals is_decimal all_digits value_from values
Scanned-end ns Empty [] none_yet f i rest = lost (λ t. absurd t)
Scanned-end ns Zero (_ ∷ []) a_zero f i rest = found tt refl refl (one_more ns 0)
Scanned-end ns (Digits v) (b ∷ bs) (some_digits d ne e) f i rest =
    found
    (and_intro (is_decimal (b ∷ (bs ++ []))) true
    (subst (λ (l : List ℕ). T (is_decimal l)) (sym (append-nil (b ∷ bs))) (digits_decimal v b bs d ne e f)) tt)
    (ap (λ (n : ℕ). ns ++ (n ∷ [])) (sym e ∙ ap value_of (sym (append-nil (b ∷ bs)))))
    refl (one_more ns v)
Scanned-end ns Empty (b ∷ bs) x4 f i rest = elim x4 [ ]
Scanned-end ns Zero [] x4 f i rest = elim x4 [ ]
Scanned-end ns Zero (b ∷ (_ ∷ _)) x9 f i rest = elim x9 [ ]
Scanned-end ns (Digits v) [] x5 f i rest = elim x5 [ ]

-- all that is known of the bytes of a line after a given one
abbrev Later : List ℕ → List ℕ → Type 0
Later q rest = (ns : List ℕ) (p : Part) (w : List ℕ) → Written p w → PartFits p → (i : ℕ)
    → Scanned ns (glue w (split_on comma q)) (i + suc (length q)) (numbers_scan ns p i (q ++ (newline ∷ rest)))

module _ (q rest : List ℕ) (later : Later q rest) (ns : List ℕ) (i : ℕ) where
  -- a comma after a number of value v, written w
  Scanned-comma : (v : ℕ) (w : List ℕ) → T (is_decimal w) → value_of w ≡ v
      → Scanned ns (w ∷ split_on comma q) (i + suc (suc (length q)))
      (on_turn (Comma v) ns i (λ ns' p'. numbers_scan ns' p' (i + 1) (q ++ (newline ∷ rest))))
  unfolding all_decimals
  Scanned-comma v w d e = go (ltb (length ns) comma_limit) refl
    where
      go : (x : Bool) → ltb (length ns) comma_limit ≡ x
          → Scanned ns (w ∷ split_on comma q) (i + suc (suc (length q)))
          (cond x (numbers_scan (ns ++ (v ∷ [])) Empty (i + 1) (q ++ (newline ∷ rest))) None)
      go true t =
          after_comma ns v w (split_on comma q) (i + suc (suc (length q))) _ (ltb-true (length ns) comma_limit t) d e
          (subst (λ (ps : List (List ℕ)). Scanned (ns ++ (v ∷ [])) ps (i + suc (suc (length q))) (numbers_scan (ns ++ (v ∷ [])) Empty (i + 1) (q ++ (newline ∷ rest))))
          (glue_none comma q)
          (subst (λ (j : ℕ). Scanned (ns ++ (v ∷ [])) (glue [] (split_on comma q)) j (numbers_scan (ns ++ (v ∷ [])) Empty (i + 1) (q ++ (newline ∷ rest))))
          (let z : i + 1 + suc (length q) ≡ i + suc (suc (length q)) = omega arith in z)
          (later (ns ++ (v ∷ [])) Empty [] none_yet tt (i + 1))))
      go false t = let n : comma_limit ≤ length ns = ltb-false (length ns) comma_limit t in lost (λ _. omega (arith, split_some comma q))

  -- one digit more of the number in progress
  Scanned-digit : (b : ℕ) → (b ≡ comma → ⊥) → (w : List ℕ) (p' : Part) → Written p' (w ++ (b ∷ [])) → PartFits p'
      → Scanned ns (glue w (split_on comma (b ∷ q))) (i + suc (suc (length q))) (numbers_scan ns p' (i + 1) (q ++ (newline ∷ rest)))
  Scanned-digit b nc w p' wr f =
      subst (λ (ps : List (List ℕ)). Scanned ns ps (i + suc (suc (length q))) (numbers_scan ns p' (i + 1) (q ++ (newline ∷ rest))))
      (sym (ap (glue w) (split_on_other comma b q nc) ∙ glue_step w b (split_on comma q)))
      (subst (λ (j : ℕ). Scanned ns (glue (w ++ (b ∷ [])) (split_on comma q)) j (numbers_scan ns p' (i + 1) (q ++ (newline ∷ rest))))
      (let z : i + 1 + suc (length q) ≡ i + suc (suc (length q)) = omega arith in z)
      (later ns p' (w ++ (b ∷ [])) wr f (i + 1)))

  -- a byte that makes the first piece no decimal
  Scanned-torn : (b : ℕ) → (b ≡ comma → ⊥) → (w : List ℕ) → (T (all_decimals (glue (w ++ (b ∷ [])) (split_on comma q))) → ⊥)
      → Scanned ns (glue w (split_on comma (b ∷ q))) (i + suc (suc (length q))) None
  Scanned-torn b nc w h =
      lost (λ t. absurd (h (subst (λ (ps : List (List ℕ)). T (all_decimals ps)) (ap (glue w) (split_on_other comma b q nc) ∙ glue_step w b (split_on comma q)) t)))

  more : List ℕ → Part → Option (List ℕ × ℕ)
  more ns' p' = numbers_scan ns' p' (i + 1) (q ++ (newline ∷ rest))

  Goal : Part → List ℕ → ℕ → Turn → Type 0
  Goal p w b t = Scanned ns (glue w (split_on comma (b ∷ q))) (i + suc (suc (length q))) (on_turn t ns i more)

  at_comma : (p : Part) (w : List ℕ) → Written p w → PartFits p → Goal p w comma (turn_of p comma)
  unfolding Goal more glue all_decimals is_decimal all_digits value_from split_on
  at_comma Empty [] none_yet f = lost (λ t. absurd t)
  at_comma Zero (_ ∷ []) a_zero f = Scanned-comma 0 (digit0 ∷ []) tt refl
  at_comma (Digits v) (b ∷ bs) (some_digits d ne e) f =
      Scanned-comma v (b ∷ (bs ++ []))
      (subst (λ (l : List ℕ). T (is_decimal l)) (sym (append-nil (b ∷ bs))) (digits_decimal v b bs d ne e f))
      (ap value_of (append-nil (b ∷ bs)) ∙ e)
  at_comma Empty (b ∷ bs) x4 f = elim x4 [ ]
  at_comma Zero [] x4 f = elim x4 [ ]
  at_comma Zero (b ∷ (_ ∷ _)) x9 f = elim x9 [ ]
  at_comma (Digits v) [] x5 f = elim x5 [ ]

  at_digit : (b : ℕ) → digit0 ≤ b → b ≤ digit9 → (p : Part) (w : List ℕ) → Written p w → PartFits p → Goal p w b (turn_of p b)
  unfolding Goal more
  at_digit b lo hi Empty [] none_yet f = subst (Goal Empty [] b) (sym (first_digit b lo hi)) (go (eqb b digit0) refl)
    where
      go : (x : Bool) → eqb b digit0 ≡ x → Goal Empty [] b (cond x (More Zero) (More (Digits (b - digit0))))
      go true t =
          Scanned-digit b (λ z. omega arith) [] Zero
          (subst (λ (c : ℕ). Written Zero (c ∷ [])) (sym (eqb-true b digit0 t)) a_zero) tt
      go false t =
          Scanned-digit b (λ z. omega arith) [] (Digits (b - digit0))
          (some_digits (one_digit b lo hi) (eqb-false b digit0 t) (one_value b)) (omega arith)
  at_digit b lo hi Zero (_ ∷ []) a_zero f =
      subst (Goal Zero (digit0 ∷ []) b) (sym (end_other 0 b (λ z. omega arith) (λ z. omega arith)))
      (Scanned-torn b (λ z. omega arith) (digit0 ∷ []) (digit_after_zero b (split_on comma q)))
  at_digit b lo hi (Digits v) (a ∷ cs) (some_digits d ne e) f =
      subst (Goal (Digits v) (a ∷ cs) b) (sym (next_digit v b lo hi)) (go (leb (v * 10 + (b - digit0)) decimal_limit) refl)
    where
      value : value_of (a ∷ (cs ++ (b ∷ []))) ≡ v * 10 + (b - digit0)
      value = value_from-append 0 (a ∷ cs) (b ∷ []) ∙ ap (λ (n : ℕ). value_from n (b ∷ [])) e ∙ last_value v b

      go : (x : Bool) → leb (v * 10 + (b - digit0)) decimal_limit ≡ x
          → Goal (Digits v) (a ∷ cs) b (cond x (More (Digits (v * 10 + (b - digit0)))) Torn)
      go true t =
          Scanned-digit b (λ z. omega arith) (a ∷ cs) (Digits (v * 10 + (b - digit0)))
          (some_digits (all_digits_snoc (a ∷ cs) b d (is_a_digit b lo hi)) ne value) (leb-true _ _ t)
      go false t =
          Scanned-torn b (λ z. omega arith) (a ∷ cs)
          (too_large (a ∷ (cs ++ (b ∷ []))) (split_on comma q)
          (subst (λ (n : ℕ). decimal_limit < n) (sym value) (leb-false _ _ t)))
  at_digit b lo hi Empty (a ∷ cs) x4 f = elim x4 [ ]
  at_digit b lo hi Zero [] x4 f = elim x4 [ ]
  at_digit b lo hi Zero (a ∷ (_ ∷ _)) x9 f = elim x9 [ ]
  at_digit b lo hi (Digits v) [] x5 f = elim x5 [ ]

  at_other : (b : ℕ) → (b ≡ comma → ⊥) → (b ≡ newline → ⊥) → (T (leb digit0 b && leb b digit9) → ⊥) → (p : Part) (w : List ℕ) → Goal p w b (turn_of p b)
  unfolding Goal more
  at_other b nc nn nd p w =
      subst (Goal p w b) (sym (Turn-other p b nc nn nd)) (Scanned-torn b nc w (λ t. nd (not_a_digit w b (split_on comma q) t)))

  at_byte : (b : ℕ) → Class b → (b ≡ newline → ⊥) → (p : Part) (w : List ℕ) → Written p w → PartFits p → Goal p w b (turn_of p b)
  at_byte b (is_comma e) nn p w wr f = subst (λ (c : ℕ). Goal p w c (turn_of p c)) (sym e) (at_comma p w wr f)
  at_byte b (is_digit lo hi) nn p w wr f = at_digit b lo hi p w wr f
  at_byte b (is_other nc nd) nn p w wr f = at_other b nc nn nd p w

-- scanning a line's numbers finds the decimals between its commas, or loses a line that no key takes
pub scanned : (q : List ℕ) → Lacks newline q → (rest : List ℕ) → Later q rest
unfolding split_on numbers_scan Goal more
scanned [] l rest ns p w wr f i = Scanned-end ns p w wr f i rest
scanned (b ∷ q) l rest ns p w wr f i = at_byte q rest (scanned q l.1 rest) ns i b (classify b) l.0 p w wr f
