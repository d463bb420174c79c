-- A text whose lines are all in the sheet's shape, each with a key, is what those lines are written as. Assumes nothing.
use Prim.Native.Nat.{ℕ}
use mathlib.Core.Path.{◌≡◌, refl, sym, ap, ◌∙◌, subst}
use mathlib.Core.Bool.{Bool, true, false, cond, not}
use mathlib.Core.List.{List, [], ◌∷◌, ◌++◌, append_assoc, append-nil, flatten}
use lib.Dec.{T}
use Rattle.lists.specs.Each.{Each, each}
use Rattle.lists.proofs.Tests.{and_left, and_right}
use Rattle.sheet_rules.specs.declared.Place.{Place}
use Rattle.sheet_rules.specs.declared.Place.TheVariants.{Nowhere}
use Rattle.sheet_rules.specs.Keys.{spelling, place_of, all_places, same_place}
use Rattle.sheet_rules.specs.Lines.{newline, comma, equals, split_on, value_of, is_decimal, all_decimals, values, Line, line, torn, numbered, keyed, line_of, finished, lines_of}
use Rattle.sheet_rules.specs.Decimals.{decimal, further}
use Rattle.sheet_rules.specs.Print.{line_bytes, lines_bytes}
use Rattle.sheet_rules.proofs.PrintBytes.{join_on, join_split, spelled_among, decimal_only}

-- a place that a key has
abbrev pub has_key : Place → Bool
has_key k = not (same_place k Nowhere)

-- a line with a number, and with a key whose place passes a test
pub data Standing (test : Place → Bool) : Line → Type 0 where
  standing : {k : Place} {n : ℕ} {ns : List ℕ} → T (test k) → Standing test (line k (n ∷ ns))

-- a line with a key and a number
abbrev pub Proper : Line → Type 0
Proper l = Standing has_key l

-- decimals with commas between them are the numbers' own
further_back : (qs : List (List ℕ)) (q : List ℕ) → T (all_decimals (q ∷ qs)) → join_on comma (q ∷ qs) ≡ decimal (value_of q) ++ further (values qs)
unfolding all_decimals values further join_on
further_back [] q t = decimal_only q (and_left (is_decimal q) true t) ∙ sym (append-nil (decimal (value_of q)))
further_back (r ∷ rs) q t =
    λ i. decimal_only q (and_left (is_decimal q) (all_decimals (r ∷ rs)) t) i ++ (comma ∷ further_back rs r (and_right (is_decimal q) (all_decimals (r ∷ rs)) t) i)

-- a key and its numbers
written : (w q : List ℕ) (qs : List (List ℕ)) → Proper (line (place_of w) (values (q ∷ qs))) → T (all_decimals (q ∷ qs))
    → w ++ (equals ∷ (join_on comma (q ∷ qs) ++ (newline ∷ []))) ≡ line_bytes (line (place_of w) (values (q ∷ qs)))
unfolding values line_bytes
written w q qs (standing known) t =
    (λ i. sym (spelled_among all_places w (λ e. subst (λ (k : Place). T (has_key k)) e known)) i ++ (equals ∷ (further_back qs q t i ++ (newline ∷ []))))
    ∙ ap (λ (z : List ℕ). spelling (place_of w) ++ (equals ∷ z)) (append_assoc (decimal (value_of q)) (further (values qs)) (newline ∷ []))
    ∙ sym (append_assoc (spelling (place_of w)) (equals ∷ []) (decimal (value_of q) ++ (further (values qs) ++ (newline ∷ []))))

no_number : (w : List ℕ) → Proper (line (place_of w) (values [])) → ⊥
unfolding values
no_number w p = elim p [ ]

numbered_back : (w : List ℕ) (ps : List (List ℕ)) → Proper (numbered w ps) → w ++ (equals ∷ (join_on comma ps ++ (newline ∷ []))) ≡ line_bytes (numbered w ps)
unfolding numbered
numbered_back w [] p = go (all_decimals []) p
  where
    go : (t : Bool) → Proper (cond t (line (place_of w) (values [])) torn) → w ++ (equals ∷ (join_on comma [] ++ (newline ∷ []))) ≡ line_bytes (cond t (line (place_of w) (values [])) torn)
    go true p = absurd (no_number w p)
    go false p = elim p [ ]
numbered_back w (q ∷ qs) p = go (all_decimals (q ∷ qs)) refl p
  where
    go : (t : Bool) → all_decimals (q ∷ qs) ≡ t → Proper (cond t (line (place_of w) (values (q ∷ qs))) torn)
        → w ++ (equals ∷ (join_on comma (q ∷ qs) ++ (newline ∷ []))) ≡ line_bytes (cond t (line (place_of w) (values (q ∷ qs))) torn)
    go true e p = written w q qs p (subst T (sym e) tt)
    go false e p = elim p [ ]

-- the pieces between equal signs
keyed_back : (ps : List (List ℕ)) → Proper (keyed ps) → join_on equals ps ++ (newline ∷ []) ≡ line_bytes (keyed ps)
unfolding keyed join_on
keyed_back [] p = elim p [ ]
keyed_back (w ∷ []) p = elim p [ ]
keyed_back (w ∷ v ∷ []) p =
    append_assoc w (equals ∷ v) (newline ∷ [])
    ∙ ap (λ (z : List ℕ). w ++ (equals ∷ (z ++ (newline ∷ [])))) (sym (join_split comma v))
    ∙ numbered_back w (split_on comma v) p
keyed_back (w ∷ v ∷ u ∷ ps) p = elim p [ ]

pub line_back : (bs : List ℕ) → Proper (line_of bs) → bs ++ (newline ∷ []) ≡ line_bytes (line_of bs)
unfolding line_of
line_back bs p = ap (λ (z : List ℕ). z ++ (newline ∷ [])) (sym (join_split equals bs)) ∙ keyed_back (split_on equals bs) p

-- the pieces between bytes 10
finished_back : (ps : List (List ℕ)) → Each Proper (finished ps) → join_on newline ps ≡ lines_bytes (finished ps)
unfolding finished join_on flatten
finished_back [] a = refl
finished_back ([] ∷ []) a = refl
finished_back ((b ∷ bs) ∷ []) (each p a) = elim p [ ]
finished_back (p ∷ q ∷ ps) (each h a) =
    sym (append_assoc p (newline ∷ []) (join_on newline (q ∷ ps)))
    ∙ (λ i. line_back p h i ++ finished_back (q ∷ ps) a i)

pub lines_back : (text : List ℕ) → Each Proper (lines_of text) → text ≡ lines_bytes (lines_of text)
unfolding lines_of
lines_back text a = sym (join_split newline text) ∙ finished_back (split_on newline text) a
