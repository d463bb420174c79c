-- The law of the lexer: what `line_at` reads is the first of the rules' lines. Assumes nothing.
use Prim.Native.Nat.{ℕ, zero, suc, ◌+◌, ◌*◌, ◌-◌, ◌<◌}
use native.Mathlib.Omega.{arith}
use mathlib.Core.Path.{◌≡◌, refl, sym, ap, ◌∙◌, subst}
use mathlib.Core.Bool.{Bool, true, false, cond}
use mathlib.Core.List.{List, [], ◌∷◌, ◌++◌, append_assoc}
use lib.Dec.{T, eqb, ltb, leb}
use lib.ListN.{length, drop, length-append, length-drop}
use lib.Seq.{drop-drop, drop_at, append_snoc}
use borrow.Author.Tests.{ne_eqb}
use Rattle.lists.proofs.Tests.{T→true}
use Rattle.std.specs.declared.option.Option.{Option}
use Rattle.std.specs.declared.option.Option.TheVariants.{Some, None}
use Rattle.sheet_rules.specs.declared.Place.{Place}
use Rattle.sheet_rules.specs.Limits.{decimal_limit}
use Rattle.sheet_rules.specs.Keys.{place_of, takes}
use Rattle.sheet_rules.specs.Lines.{newline, comma, equals, digit0, digit9, split_on, all_decimals, values, Line, line, torn, numbered, line_of, lines_of}
use Rattle.lexer.specs.declared.Part.{Part}
use Rattle.lexer.specs.declared.Part.TheVariants.{Empty, Zero, Digits}
use Rattle.lexer.specs.declared.Turn.{Turn}
use Rattle.lexer.specs.declared.Turn.TheVariants.{More, Comma, End, Torn}
use Rattle.lexer.specs.Scan.{end_turn, turn_of, comma_limit, on_turn, numbers_scan, key_scan, word_code, place_of_code, line_at}
use Rattle.lexer.proofs.ScanSteps.{key_later, line_no_key, line_no_numbers, line_whole}
use Rattle.lexer.proofs.DecimalLaws.{Lacks, Scanned, found, lost, none_yet}
use Rattle.lexer.proofs.NumberScan.{glue_none, scanned}
use Rattle.lexer.proofs.KeyLaws.{all_letters, place_of_code_word}
use Rattle.lexer.proofs.KeyScan.{Hopeless, is_torn, unfit, too_many, KeyScanned, letters, no_key, key_scanned}
use Rattle.lexer.proofs.LineLaws.{Refusing, hopeless, Found, a_line, no_line, lines_first, lines_open, Cut, ended, open_end, cut, line_of_word}

-- a line that nothing ends

-- a turn that does not end the line
data Open : Turn → Type 0 where
  open_more : {p : Part} → Open (More p)
  open_comma : {v : ℕ} → Open (Comma v)
  open_torn : Open Torn

end_turn-Open : (v b : ℕ) → (b ≡ newline → ⊥) → Open (end_turn v b)
end_turn-Open v b ne = go (eqb b comma) (eqb b newline) (ne_eqb b newline ne)
  where
    go : (x y : Bool) → y ≡ false → Open (cond x (Comma v) (cond y (End v) Torn))
    go true y e = open_comma
    go false true e = absurd (subst T e tt)
    go false false e = open_torn

turn_of-Open : (p : Part) (b : ℕ) → (b ≡ newline → ⊥) → Open (turn_of p b)
turn_of-Open Empty b ne = go (ltb b digit0) (ltb digit9 b) (eqb b digit0)
  where
    go : (x y z : Bool) → Open (cond x Torn (cond y Torn (cond z (More Zero) (More (Digits (b - digit0))))))
    go true y z = open_torn
    go false true z = open_torn
    go false false true = open_more
    go false false false = open_more
turn_of-Open Zero b ne = end_turn-Open 0 b ne
turn_of-Open (Digits v) b ne = go (ltb b digit0) (ltb digit9 b) (leb (v * 10 + (b - digit0)) decimal_limit)
  where
    go : (x y z : Bool) → Open (cond x (end_turn v b) (cond y (end_turn v b) (cond z (More (Digits (v * 10 + (b - digit0)))) Torn)))
    go true y z = end_turn-Open v b ne
    go false true z = end_turn-Open v b ne
    go false false true = open_more
    go false false false = open_torn

numbers_open : (bs : List ℕ) → Lacks newline bs → (ns : List ℕ) (p : Part) (i : ℕ) → numbers_scan ns p i bs ≡ None
unfolding numbers_scan
numbers_open [] l ns p i = refl
numbers_open (b ∷ bs) l ns p i = go (turn_of p b) (turn_of-Open p b l.0) (λ ns' p'. numbers_open bs l.1 ns' p' (i + 1))
  where
    go : (t : Turn) → Open t → ((ns' : List ℕ) (p' : Part) → numbers_scan ns' p' (i + 1) bs ≡ None)
        → on_turn t ns i (λ ns' p'. numbers_scan ns' p' (i + 1) bs) ≡ None
    go (More q) open_more h = h ns q
    go (Comma v) open_comma h = either (ltb (length ns) comma_limit) (h (ns ++ (v ∷ [])) Empty)
      where
        either : (x : Bool) → numbers_scan (ns ++ (v ∷ [])) Empty (i + 1) bs ≡ None
            → cond x (numbers_scan (ns ++ (v ∷ [])) Empty (i + 1) bs) None ≡ None
        either true e = e
        either false e = refl
    go Torn open_torn h = refl
    go (End _) x4 h = elim x4 [ ]

Lacks-drop : (c n : ℕ) (bs : List ℕ) → Lacks c bs → Lacks c (drop n bs)
Lacks-drop c zero bs l = l
Lacks-drop c (suc n) [] l = tt
Lacks-drop c (suc n) (b ∷ bs) l = Lacks-drop c n bs l.1

line_open : (text : List ℕ) (i : ℕ) → Lacks newline (drop i text) → line_at text i ≡ None
line_open text i l = go (key_scan 0 i (drop i text)) refl
  where
    go : (r : Option (ℕ × ℕ)) → key_scan 0 i (drop i text) ≡ r → line_at text i ≡ None
    go None e = line_no_key text i e
    go (Some r) e =
        line_no_numbers text i r e
        (numbers_open (drop r.1 text) (subst (Lacks newline) (behind r.1 (key_later text i r e)) (Lacks-drop newline (r.1 - i) (drop i text) l)) [] Empty r.1)
      where
        behind : (j : ℕ) → i < j → drop (j - i) (drop i text) ≡ drop j text
        behind j h =
            let e : i + (j - i) ≡ j = omega arith in
            drop-drop (j - i) i text ∙ ap (λ (n : ℕ). drop n text) e

-- a line that a byte 10 ends

Lacks-front : (c : ℕ) (u v : List ℕ) → Lacks c (u ++ v) → Lacks c v
Lacks-front c [] v l = l
Lacks-front c (b ∷ u) v l = Lacks-front c u v l.1

-- past a part of a text that begins at place i
drop_past : (text : List ℕ) (i : ℕ) (p rest : List ℕ) (j : ℕ) → drop i text ≡ p ++ rest → j ≡ i + length p → drop j text ≡ rest
drop_past text i p rest j e f =
    ap (λ (n : ℕ). drop n text) f ∙ sym (drop-drop (length p) i text) ∙ ap (drop (length p)) e ∙ drop_at p rest (length p) refl

length-values : (ps : List (List ℕ)) → length (values ps) ≡ length ps
unfolding values
length-values [] = refl
length-values (p ∷ ps) = ap suc (length-values ps)

-- where the numbers were lost, no place takes the line
numbers_lost : (u : List ℕ) (ps : List (List ℕ)) → (T (all_decimals ps) → 9 < 0 + length ps) → Hopeless (numbered u ps)
unfolding numbered
numbers_lost u ps h = go (all_decimals ps) refl
  where
    go : (x : Bool) → all_decimals ps ≡ x → Hopeless (cond x (line (place_of u) (values ps)) torn)
    go true e = too_many {ns = values ps} (omega (arith, h (subst T (sym e) tt), length-values ps))
    go false e = is_torn

numbered-line : (u : List ℕ) (ps : List (List ℕ)) → T (all_decimals ps) → numbered u ps ≡ line (place_of u) (values ps)
unfolding numbered
numbered-line u ps t = ap (λ (x : Bool). cond x (line (place_of u) (values ps)) torn) (T→true (all_decimals ps) t)

module _ (text : List ℕ) (i : ℕ) (q rest : List ℕ) (e : drop i text ≡ q ++ (newline ∷ rest)) (l : Lacks newline q) where
  lines_here : lines_of (drop i text) ≡ line_of q ∷ lines_of rest
  lines_here = ap lines_of e ∙ lines_first q rest l

  Refusing-here : Hopeless (line_of q) → Refusing (lines_of (drop i text))
  Refusing-here h = subst Refusing (sym lines_here) (hopeless h)

  module _ (u v : List ℕ) (a : ℕ × ℕ) (s : q ≡ u ++ (equals ∷ v)) (t : T (all_letters u)) (p : a.0 ≡ word_code 0 u) (h : a.1 ≡ i + suc (length u))
      (k : key_scan 0 i (drop i text) ≡ Some a) where
    here : drop i text ≡ u ++ (equals ∷ []) ++ (v ++ (newline ∷ rest))
    here =
        e ∙ ap (λ (x : List ℕ). x ++ (newline ∷ rest)) s ∙ append_assoc u (equals ∷ v) (newline ∷ rest)
        ∙ sym (append_snoc u equals (v ++ (newline ∷ rest)))

    after_equals : drop a.1 text ≡ v ++ (newline ∷ rest)
    after_equals =
        drop_past text i (u ++ (equals ∷ [])) (v ++ (newline ∷ rest)) a.1 here
        (let z : a.1 ≡ i + length (u ++ (equals ∷ [])) = omega (arith, length-append u (equals ∷ [])) in z)

    the_line : line_of q ≡ numbered u (split_on comma v)
    the_line = ap line_of s ∙ line_of_word u v t

    numbers_here : (r : Option (List ℕ × ℕ)) → numbers_scan [] Empty a.1 (drop a.1 text) ≡ r
        → Scanned [] (split_on comma v) (a.1 + suc (length v)) r → Found text i (line_at text i)
    numbers_here None f (lost g) =
        subst (Found text i) (sym (line_no_numbers text i a k f))
        (no_line (Refusing-here (subst Hopeless (sym the_line) (numbers_lost u (split_on comma v) g))))
    numbers_here (Some r) f (found d g o _) =
        go (takes (place_of_code a.0) (length r.0)) refl
      where
        past-it : drop r.1 text ≡ rest
        past-it =
            drop_past text a.1 (v ++ (newline ∷ [])) rest r.1
            (after_equals ∙ sym (append_snoc v newline rest))
            (let z : r.1 ≡ a.1 + length (v ++ (newline ∷ [])) = omega (arith, length-append v (newline ∷ [])) in z)

        whole : line_of q ≡ line (place_of_code a.0) r.0
        whole =
            the_line ∙ numbered-line u (split_on comma v) d
            ∙ ap (λ (x : Place). line x (values (split_on comma v))) (sym (ap place_of_code p ∙ place_of_code_word u t))
            ∙ ap (line (place_of_code a.0)) (sym g)

        go : (b : Bool) → takes (place_of_code a.0) (length r.0) ≡ b → Found text i (line_at text i)
        go true y =
            subst (Found text i) (sym (line_whole text i a r k f true y))
            (a_line
            (lines_here ∙ ap (λ (x : Line). x ∷ lines_of rest) whole ∙ ap (λ (x : List ℕ). line (place_of_code a.0) r.0 ∷ lines_of x) (sym past-it))
            (omega arith)
            (omega (arith, length-drop r.1 text, ap length past-it, ap length after_equals, length-append v (newline ∷ rest), length-drop a.1 text))
            y)
        go false y =
            subst (Found text i) (sym (line_whole text i a r k f false y))
            (no_line (Refusing-here (subst Hopeless (sym whole) (unfit y))))

  key_here : (r : Option (ℕ × ℕ)) → key_scan 0 i (drop i text) ≡ r → KeyScanned [] q i r → Found text i (line_at text i)
  key_here None f (no_key h) = subst (Found text i) (sym (line_no_key text i f)) (no_line (Refusing-here h))
  key_here (Some r) f (letters u v s t p h) =
      numbers_here u v r s t p (omega arith) f (numbers_scan [] Empty r.1 (drop r.1 text)) refl
      (subst (λ (bs : List ℕ). Scanned [] (split_on comma v) (r.1 + suc (length v)) (numbers_scan [] Empty r.1 bs))
      (sym (after_equals u v r s t p (omega arith) f))
      (subst (λ (ps : List (List ℕ)). Scanned [] ps (r.1 + suc (length v)) (numbers_scan [] Empty r.1 (v ++ (newline ∷ rest))))
      (glue_none comma v)
      (scanned v (Lacks-front newline (u ++ (equals ∷ [])) v (subst (Lacks newline) (s ∙ sym (append_snoc u equals v)) l)) rest [] Empty [] none_yet tt r.1)))

-- reading a line at a place finds the first of the lines there, or there is none that any place takes
pub line_found : (text : List ℕ) (i : ℕ) → Found text i (line_at text i)
unfolding all_letters word_code
line_found text i = go (cut (drop i text))
  where
    go : Cut (drop i text) → Found text i (line_at text i)
    go (ended q rest e l) =
        key_here text i q rest e l (key_scan 0 i (drop i text)) refl
        (subst (λ (bs : List ℕ). KeyScanned [] q i (key_scan 0 i bs)) (sym e) (key_scanned q l rest [] tt (omega arith) 0 i refl))
    go (open_end l) = subst (Found text i) (sym (line_open text i l)) (no_line (lines_open (drop i text) l))
