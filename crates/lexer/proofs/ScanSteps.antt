-- One byte of a scan at a time, by place in the text: what the loops' proofs cite. Assumes nothing.
use Prim.Native.Nat.{ℕ, suc, ◌+◌, ◌*◌, ◌-◌, ◌≤◌, ◌<◌}
use native.Mathlib.Numerals.{add-one}
use native.Mathlib.Omega.{arith}
use mathlib.Core.Path.{◌≡◌, refl, sym, ap, ◌∙◌, subst}
use mathlib.Core.Bool.{Bool, true, false, cond, ◌&&◌}
use mathlib.Core.List.{List, [], ◌∷◌}
use lib.ListN.{length, get_or, drop, drop_of_length-le, length-drop}
use lib.Seq.{drop-cons}
use lib.Dec.{eqb, ltb, leb}
use borrow.Author.Tests.{ltb-false, leb-true}
use Rattle.std.specs.declared.option.Option.TheVariants.{Some, None}
use Rattle.sheet_rules.specs.Keys.{takes}
use Rattle.sheet_rules.specs.Limits.{decimal_limit}
use Rattle.sheet_rules.specs.Lines.{newline, comma, equals, digit0, digit9}
use Rattle.lexer.specs.declared.Part.{Part}
use Rattle.lexer.specs.declared.Part.TheVariants.{Empty, Zero, Digits}
use Rattle.lexer.specs.declared.Turn.{Turn}
use Rattle.lexer.specs.declared.Turn.TheVariants.{More, Comma, End, Torn}
use Rattle.lexer.specs.declared.keys.KeyFacts.{KeyFacts}
use Rattle.lexer.specs.Scan.{PartFits, end_turn, turn_of, on_turn, numbers_scan, code_limit, on_letter, key_scan, place_of_code, facts_of, found_line, with_key, after_key, line_at}

-- what is left of a text from a place on: its byte, and what is left from the next place on
drop_next : (text : List ℕ) (i : ℕ) → i < length text → drop i text ≡ get_or text i 0 ∷ drop (i + 1) text
drop_next text i h = drop-cons text i 0 h ∙ ap (λ (n : ℕ). get_or text i 0 ∷ drop n text) (sym (add-one i))

pub key_next : (text : List ℕ) (c i : ℕ) → i < length text
    → key_scan c i (drop i text) ≡ on_letter c i (get_or text i 0) (λ c'. key_scan c' (i + 1) (drop (i + 1) text))
unfolding key_scan
key_next text c i h = ap (key_scan c i) (drop_next text i h)

pub key_end : (text : List ℕ) (c i : ℕ) → length text ≤ i → key_scan c i (drop i text) ≡ None
unfolding key_scan
key_end text c i h = ap (key_scan c i) (drop_of_length-le text h)

pub numbers_next : (text : List ℕ) (ns : List ℕ) (p : Part) (i : ℕ) → i < length text
    → numbers_scan ns p i (drop i text)
    ≡ on_turn (turn_of p (get_or text i 0)) ns i (λ ns' p'. numbers_scan ns' p' (i + 1) (drop (i + 1) text))
unfolding numbers_scan
numbers_next text ns p i h = ap (numbers_scan ns p i) (drop_next text i h)

pub numbers_turn : (text : List ℕ) (ns : List ℕ) (p : Part) (i : ℕ) → i < length text → (t : Turn) → turn_of p (get_or text i 0) ≡ t
    → numbers_scan ns p i (drop i text) ≡ on_turn t ns i (λ ns' p'. numbers_scan ns' p' (i + 1) (drop (i + 1) text))
numbers_turn text ns p i h t e = numbers_next text ns p i h ∙ ap (λ (t' : Turn). on_turn t' ns i (λ ns' p'. numbers_scan ns' p' (i + 1) (drop (i + 1) text))) e

pub numbers_end : (text : List ℕ) (ns : List ℕ) (p : Part) (i : ℕ) → length text ≤ i → numbers_scan ns p i (drop i text) ≡ None
unfolding numbers_scan
numbers_end text ns p i h = ap (numbers_scan ns p i) (drop_of_length-le text h)

data TurnFits : Turn → Type 0 where
  more_fits : {p : Part} → PartFits p → TurnFits (More p)
  comma_fits : {v : ℕ} → TurnFits (Comma v)
  end_fits : {v : ℕ} → TurnFits (End v)
  torn_fits : TurnFits Torn

end_turn_fits : (v b : ℕ) → TurnFits (end_turn v b)
end_turn_fits v b = go (eqb b comma) (eqb b newline)
  where
    go : (x y : Bool) → TurnFits (cond x (Comma v) (cond y (End v) Torn))
    go true y = comma_fits
    go false true = end_fits
    go false false = torn_fits

turn_of_fits : (p : Part) (b : ℕ) → TurnFits (turn_of p b)
turn_of_fits Empty b = go (ltb b digit0) (ltb digit9 b) refl (eqb b digit0)
  where
    go : (x y : Bool) → ltb digit9 b ≡ y → (z : Bool)
        → TurnFits (cond x Torn (cond y Torn (cond z (More Zero) (More (Digits (b - digit0))))))
    go true y e z = torn_fits
    go false true e z = torn_fits
    go false false e true = more_fits tt
    go false false e false = let h : b ≤ 57 = ltb-false digit9 b e in more_fits {p = Digits (b - digit0)} (omega arith)
turn_of_fits Zero b = end_turn_fits 0 b
turn_of_fits (Digits v) b = go (ltb b digit0) (ltb digit9 b) (leb (v * 10 + (b - digit0)) decimal_limit) refl
  where
    go : (x y z : Bool) → leb (v * 10 + (b - digit0)) decimal_limit ≡ z
        → TurnFits (cond x (end_turn v b) (cond y (end_turn v b) (cond z (More (Digits (v * 10 + (b - digit0)))) Torn)))
    go true y z e = end_turn_fits v b
    go false true z e = end_turn_fits v b
    go false false true e = more_fits {p = Digits (v * 10 + (b - digit0))} (leb-true _ _ e)
    go false false false e = torn_fits

pub part_fits : (p : Part) (b : ℕ) (p' : Part) → turn_of p b ≡ More p' → PartFits p'
part_fits p b p' e = fitting (subst TurnFits e (turn_of_fits p b))
  where
    fitting : {q : Part} → TurnFits (More q) → PartFits q
    fitting (more_fits f) = f

-- the place after a key lies past its first byte and within the text

key_place : (c i : ℕ) (bs : List ℕ) (r : ℕ × ℕ) → key_scan c i bs ≡ Some r → (i < r.1) × (r.1 ≤ i + length bs)
unfolding key_scan
key_place c i [] r e = cc
key_place c i (b ∷ bs) r e =
    go (eqb b equals) (ltb b 97) (ltb 122 b) (ltb c code_limit) (λ q. key_place (c * 27 + (b - 96)) (i + 1) bs r q) e
  where
    Rest : Type 0
    Rest = key_scan (c * 27 + (b - 96)) (i + 1) bs ≡ Some r

    go : (w x y z : Bool) → (Rest → (i + 1 < r.1) × (r.1 ≤ i + 1 + length bs))
        → cond w (Some (c, i + 1)) (cond x None (cond y None (cond z (key_scan (c * 27 + (b - 96)) (i + 1) bs) None)))
        ≡ Some r
        → (i < r.1) × (r.1 ≤ i + suc (length bs))
    go true x y z m q = let f : (c, i + 1) ≡ r = cc in let h : i + 1 ≡ r.1 = ap (λ (p : ℕ × ℕ). p.1) f in (omega arith, omega arith)
    go false true y z m q = cc
    go false false true z m q = cc
    go false false false true m q = (omega (arith, (m q).0), omega (arith, (m q).1))
    go false false false false m q = cc

pub key_later : (text : List ℕ) (i : ℕ) (r : ℕ × ℕ) → key_scan 0 i (drop i text) ≡ Some r → i < r.1
key_later text i r e = (key_place 0 i (drop i text) r e).0

pub key_within : (text : List ℕ) (i : ℕ) (r : ℕ × ℕ) → i ≤ length text → key_scan 0 i (drop i text) ≡ Some r → r.1 ≤ length text
key_within text i r h e = omega (arith, (key_place 0 i (drop i text) r e).1, length-drop i text)

-- a law for each way in which a line's reading ends

module _ (text : List ℕ) (i : ℕ) where
  pub line_no_key : key_scan 0 i (drop i text) ≡ None → line_at text i ≡ None
  unfolding line_at
  line_no_key e = ap (after_key text) e

  module _ (r : ℕ × ℕ) where
    pub line_no_numbers : key_scan 0 i (drop i text) ≡ Some r → numbers_scan [] Empty r.1 (drop r.1 text) ≡ None → line_at text i ≡ None
    unfolding line_at
    line_no_numbers e f = ap (after_key text) e ∙ ap (with_key (place_of_code r.0)) f

    module _ (n : List ℕ × ℕ) (e : key_scan 0 i (drop i text) ≡ Some r) (f : numbers_scan [] Empty r.1 (drop r.1 text) ≡ Some n) where
      pub line_whole : (b : Bool) → takes (place_of_code r.0) (length n.0) ≡ b
          → line_at text i ≡ cond b (Some (found_line (place_of_code r.0) n.0 n.1)) None
      unfolding line_at
      line_whole b t =
          ap (after_key text) e ∙ ap (with_key (place_of_code r.0)) f
          ∙ ap (λ (x : Bool). cond x (Some (found_line (place_of_code r.0) n.0 n.1)) None) t

      -- by the key's own number count
      pub line_by_key : (key : KeyFacts) → key ≡ facts_of (place_of_code r.0) → (c : ℕ) → length n.0 ≡ c
          → (b : Bool) → leb key.fewest c && leb c key.most ≡ b → line_at text i ≡ cond b (Some (found_line key.place n.0 n.1)) None
      unfolding facts_of
      line_by_key key h c m b t =
          line_whole _ refl
          ∙ sym (ap (λ (x : KeyFacts). cond (leb x.fewest (length n.0) && leb (length n.0) x.most) (Some (found_line x.place n.0 n.1)) None) h)
          ∙ ap (λ (d : Bool). cond d (Some (found_line key.place n.0 n.1)) None) (ap (λ (d : ℕ). leb key.fewest d && leb d key.most) m ∙ t)
