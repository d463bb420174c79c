-- What reading a line at a place finds is the first of the lines that the rules see there, and what is left are the lines after
-- it; or there is no line, or one that no place takes. Assumes nothing.
use Prim.Native.Nat.{ℕ, ◌≤◌, ◌<◌}
use native.Mathlib.Omega.{arith}
use mathlib.Core.Path.{◌≡◌, refl, sym, ap, ◌∙◌, subst}
use mathlib.Core.Bool.{Bool, true, false, cond}
use mathlib.Core.List.{List, [], ◌∷◌, ◌++◌, append-nil, head-eq_of_cons-eq, tail-eq_of_cons-eq, nil≢cons}
use lib.Dec.{T, eqb}
use lib.ListN.{length, drop}
use borrow.Author.Tests.{eq-eqb, eqb-true, eqb-false}
use Rattle.lists.proofs.Tests.{and_right}
use Rattle.std.specs.declared.option.Option.{Option}
use Rattle.std.specs.declared.option.Option.TheVariants.{Some, None}
use Rattle.sheet_rules.specs.Keys.{place_of, takes}
use Rattle.sheet_rules.specs.Lines.{newline, comma, equals, in_front, split_on, is_decimal, all_decimals, values, Line, line, torn, numbered, keyed, line_of, unfinished, finished, lines_of}
use Rattle.lexer.specs.Scan.{FoundLine}
use Rattle.lexer.proofs.DecimalLaws.{glue, glue_step, not_a_digit, split_on_other, Lacks}
use Rattle.lexer.proofs.NumberScan.{Class, is_comma, is_digit, is_other, classify, split_form, glue_none}
use Rattle.lexer.proofs.KeyLaws.{all_letters}
use Rattle.lexer.proofs.KeyScan.{Hopeless, is_torn, split_letters}

-- lines of which no place takes the first
pub data Refusing : List Line → Type 0 where
  nothing : Refusing []
  hopeless : {l : Line} {ls : List Line} → Hopeless l → Refusing (l ∷ ls)

-- what a line's reading at a place means for the lines there
pub data Found (text : List ℕ) (i : ℕ) : Option FoundLine → Type 0 where
  a_line : {l : FoundLine} → lines_of (drop i text) ≡ line l.place l.numbers ∷ lines_of (drop l.next text) → i < l.next → l.next ≤ length text
      → takes l.place (length l.numbers) ≡ true → Found text i (Some l)
  no_line : Refusing (lines_of (drop i text)) → Found text i None

-- splitting where the byte does not stand

split_none : (c : ℕ) (q : List ℕ) → Lacks c q → split_on c q ≡ q ∷ []
unfolding split_on
split_none c [] l = refl
split_none c (b ∷ q) l = split_on_other c b q l.0 ∙ ap (in_front b) (split_none c q l.1)

split_first : (c : ℕ) (q rest : List ℕ) → Lacks c q → split_on c (q ++ (c ∷ rest)) ≡ q ∷ split_on c rest
unfolding split_on
split_first c [] rest l = ap (λ (b : Bool). cond b ([] ∷ split_on c rest) (in_front c (split_on c rest))) (eq-eqb c c refl)
split_first c (b ∷ q) rest l = split_on_other c b (q ++ (c ∷ rest)) l.0 ∙ ap (in_front b) (split_first c q rest l.1)

-- a text's first line, and those after it

pub lines_first : (q rest : List ℕ) → Lacks newline q → lines_of (q ++ (newline ∷ rest)) ≡ line_of q ∷ lines_of rest
unfolding lines_of finished
lines_first q rest l =
    let r = split_form newline rest in
    ap finished (split_first newline q rest l ∙ ap (λ (ps : List (List ℕ)). q ∷ ps) r.2)
    ∙ ap (λ (ps : List (List ℕ)). line_of q ∷ finished ps) (sym r.2)

pub lines_open : (q : List ℕ) → Lacks newline q → Refusing (lines_of q)
unfolding lines_of finished
lines_open q l = subst (λ (ps : List (List ℕ)). Refusing (finished ps)) (sym (split_none newline q l)) (go q)
  where
    go : (x : List ℕ) → Refusing (unfinished x)
    go [] = nothing
    go (b ∷ x) = hopeless is_torn

-- a list has a first newline, or none
pub data Cut (bs : List ℕ) : Type 0 where
  ended : (q rest : List ℕ) → bs ≡ q ++ (newline ∷ rest) → Lacks newline q → Cut bs
  open_end : Lacks newline bs → Cut bs

pub cut : (bs : List ℕ) → Cut bs
cut [] = open_end tt
cut (b ∷ bs) = go (eqb b newline) refl (cut bs)
  where
    go : (x : Bool) → eqb b newline ≡ x → Cut bs → Cut (b ∷ bs)
    go true e r = ended [] bs (ap (λ (c : ℕ). c ∷ bs) (eqb-true b newline e)) tt
    go false e (ended q rest p l) = ended (b ∷ q) rest (ap (λ (x : List ℕ). b ∷ x) p) (eqb-false b newline e, l)
    go false e (open_end l) = open_end (eqb-false b newline e, l)

-- decimals have no equal sign between them

comma_rest : (w v : List ℕ) → T (all_decimals (glue w (split_on comma (comma ∷ v)))) → T (all_decimals (split_on comma v))
unfolding split_on glue all_decimals
comma_rest w v t = and_right (is_decimal (w ++ [])) (all_decimals (split_on comma v)) t

decimals_lack : (v w : List ℕ) → T (all_decimals (glue w (split_on comma v))) → Lacks equals v
decimals_lack [] w t = tt
decimals_lack (b ∷ v) w t = go (λ w' s. decimals_lack v w' s) (classify b)
  where
    go : ((w' : List ℕ) → T (all_decimals (glue w' (split_on comma v))) → Lacks equals v) → Class b → Lacks equals (b ∷ v)
    go more (is_comma e) = (
      (λ f. omega arith),
      more [] (subst (λ (ps : List (List ℕ)). T (all_decimals ps)) (sym (glue_none comma v))
          (comma_rest w v (subst (λ (c : ℕ). T (all_decimals (glue w (split_on comma (c ∷ v))))) e t))),
    )
    go more (is_digit lo hi) = ((λ f. omega arith), more (w ++ (b ∷ [])) (step (λ f. omega arith)))
      where
        step : (b ≡ comma → ⊥) → T (all_decimals (glue (w ++ (b ∷ [])) (split_on comma v)))
        step ne = subst (λ (ps : List (List ℕ)). T (all_decimals ps)) (ap (glue w) (split_on_other comma b v ne) ∙ glue_step w b (split_on comma v)) t
    go more (is_other nc nd) =
        absurd (nd (not_a_digit w b (split_on comma v)
        (subst (λ (ps : List (List ℕ)). T (all_decimals ps)) (ap (glue w) (split_on_other comma b v nc) ∙ glue_step w b (split_on comma v)) t)))

-- a line with an equal sign after letters

split_single : (c : ℕ) (v p : List ℕ) → split_on c v ≡ p ∷ [] → p ≡ v
unfolding split_on
split_single c [] p e = sym (head-eq_of_cons-eq e)
split_single c (b ∷ v) p e = go (eqb b c) (split_form c v) (λ p' f. split_single c v p' f) e
  where
    go : (x : Bool) → (q : List ℕ) × (qs : List (List ℕ)) × (split_on c v ≡ q ∷ qs) → ((p' : List ℕ) → split_on c v ≡ p' ∷ [] → p' ≡ v)
        → cond x ([] ∷ split_on c v) (in_front b (split_on c v)) ≡ p ∷ [] → p ≡ b ∷ v
    go true r more f = absurd (nil≢cons (sym (tail-eq_of_cons-eq f) ∙ r.2))
    go false r more f =
        let g : (b ∷ r.0) ∷ r.1 ≡ p ∷ [] = sym (ap (in_front b) r.2) ∙ f in
        sym (head-eq_of_cons-eq g)
        ∙ ap (λ (x : List ℕ). b ∷ x) (more r.0 (r.2 ∙ ap (λ (qs : List (List ℕ)). r.0 ∷ qs) (tail-eq_of_cons-eq g)))

keyed_line : (u v : List ℕ) → keyed (u ∷ split_on equals v) ≡ numbered u (split_on comma v)
unfolding keyed numbered
keyed_line u v = go (all_decimals (split_on comma v)) refl (split_form equals v)
  where
    go : (x : Bool) → all_decimals (split_on comma v) ≡ x → (p : List ℕ) × (ps : List (List ℕ)) × (split_on equals v ≡ p ∷ ps)
        → keyed (u ∷ split_on equals v) ≡ cond (all_decimals (split_on comma v)) (line (place_of u) (values (split_on comma v))) torn
    go true t r =
        ap (λ (ps : List (List ℕ)). keyed (u ∷ ps))
        (split_none equals v (decimals_lack v [] (subst T (sym (ap all_decimals (glue_none comma v) ∙ t)) tt)))
    go false t r = pieces r.0 r.1 r.2 ∙ sym (ap (λ (x : Bool). cond x (line (place_of u) (values (split_on comma v))) torn) t)
      where
        pieces : (p : List ℕ) (ps : List (List ℕ)) → split_on equals v ≡ p ∷ ps → keyed (u ∷ split_on equals v) ≡ torn
        pieces p [] e =
            ap (λ (ps : List (List ℕ)). keyed (u ∷ ps)) e
            ∙ ap (λ (w : List ℕ). cond (all_decimals (split_on comma w)) (line (place_of u) (values (split_on comma w))) torn) (split_single equals v p e)
            ∙ ap (λ (x : Bool). cond x (line (place_of u) (values (split_on comma v))) torn) t
        pieces p (q ∷ ps) e = ap (λ (ps : List (List ℕ)). keyed (u ∷ ps)) e

glue-equals : (u v : List ℕ) → glue u (split_on equals (equals ∷ v)) ≡ u ∷ split_on equals v
unfolding glue split_on
glue-equals u v = ap (λ (w : List ℕ). w ∷ split_on equals v) (append-nil u)

pub line_of_word : (u v : List ℕ) → T (all_letters u) → line_of (u ++ (equals ∷ v)) ≡ numbered u (split_on comma v)
unfolding line_of
line_of_word u v t =
    ap keyed (split_letters u (equals ∷ v) t ∙ glue-equals u v) ∙ keyed_line u v
