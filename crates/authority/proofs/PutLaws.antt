-- An entry put at a place of the result buffer, and entries one after another. Assumes nothing.
use Prim.Native.Nat.{ℕ, suc, ◌+◌, ◌-◌, ◌*◌, ◌≤◌, ◌<◌}
use native.Mathlib.Omega.{arith}
use mathlib.Core.Path.{◌≡◌, refl, sym, ap, ◌∙◌}
use mathlib.Core.List.{List, [], ◌∷◌, ◌++◌, map, append_assoc, append-nil}
use lib.ListN.{length, get_or, set, take, drop, length-append, length-drop}
use lib.Seq.{lt-length-set, length-take-le, take_all, take-suc, append_snoc, set_at, drop-drop, drop-length}
use borrow.Rule.Slice.PartMut.{put_mid}
use Rattle.authority_rules.specs.Report.{Holding}
use Rattle.lists.specs.PutAt.{begun, put_at}
use Rattle.authority.specs.Every.{entry_of, entries}

-- an entry whose numbers were written through the part after its head
pub entry_put : (result a : List ℕ) (at h c : ℕ) → at + 2 ≤ length result
    → set (set (put_mid (at + 2) (length result - (at + 2)) result (begun a (take (length result - (at + 2)) (drop (at + 2) result)))) at h) (at + 1) c ≡ put_at at (h ∷ c ∷ a) result
entry_put result a at h c l =
    ap (λ (z : List ℕ). set (set z at h) (at + 1) c) (whole ∙ split)
    ∙ ap (λ (z : List ℕ). set z (at + 1) c) (set_at front x (y ∷ rest) h at size ∙ sym (append_snoc front h (y ∷ rest)))
    ∙ set_at (front ++ (h ∷ [])) y rest c (at + 1) (length-append front (h ∷ []) ∙ omega (arith, size))
    ∙ append_snoc front h (c ∷ rest)
    ∙ ap (λ (z : List ℕ). front ++ (h ∷ c ∷ (a ++ z)))
    (drop-drop (length a) (at + 2) result
    ∙ (let n : at + 2 + length a ≡ at + suc (suc (length a)) = omega arith in ap (λ (m : ℕ). drop m result) n)
    ∙ sym (drop-drop (suc (suc (length a))) at result))
  where
    part : List ℕ
    part = drop (at + 2) result

    rest : List ℕ
    rest = a ++ drop (length a) part

    front : List ℕ
    front = take at result

    x : ℕ
    x = get_or result at 0

    y : ℕ
    y = get_or result (suc at) 0

    size : length front ≡ at
    size = length-take-le at result (omega arith)

    most : length part ≡ length result - (at + 2)
    most = length-drop (at + 2) result

    whole : put_mid (at + 2) (length result - (at + 2)) result (begun a (take (length result - (at + 2)) part)) ≡ take (at + 2) result ++ rest
    whole =
        ap (λ (z : List ℕ). take (at + 2) result ++ (begun a z ++ drop (length result - (at + 2)) part)) (take_all (length result - (at + 2)) part (omega (arith, most)))
        ∙ ap (λ (n : ℕ). take (at + 2) result ++ (rest ++ drop n part)) (sym most)
        ∙ ap (λ (z : List ℕ). take (at + 2) result ++ (rest ++ z)) (drop-length part)
        ∙ ap (λ (z : List ℕ). take (at + 2) result ++ z) (append-nil rest)

    two : take (at + 2) result ≡ (front ++ (x ∷ [])) ++ (y ∷ [])
    two =
        (let n : at + 2 ≡ suc (suc at) = omega arith in ap (λ (m : ℕ). take m result) n)
        ∙ take-suc result (suc at) 0 (omega arith)
        ∙ ap (λ (z : List ℕ). z ++ (y ∷ [])) (take-suc result at 0 (omega arith))

    split : take (at + 2) result ++ rest ≡ front ++ (x ∷ y ∷ rest)
    split = ap (λ (z : List ℕ). z ++ rest) two ∙ append_snoc (front ++ (x ∷ [])) y rest ∙ append_snoc front x (y ∷ rest)

-- its second number has a place
pub entry_inside : (result ys : List ℕ) (at v : ℕ) → at + 2 ≤ length result → at + 1 < length (set (put_mid (at + 2) (length result - (at + 2)) result ys) at v)
entry_inside result ys at v l =
    lt-length-set (put_mid (at + 2) (length result - (at + 2)) result ys) at v
    (omega (arith, length-append (take (at + 2) result) (ys ++ drop (length result - (at + 2)) (drop (at + 2) result)), length-take-le (at + 2) result l))

-- entries

pub entries-append : (xs ys : List Holding) → entries (xs ++ ys) ≡ entries xs ++ entries ys
unfolding entries
entries-append [] ys = refl
entries-append (x ∷ xs) ys = ap (λ (z : List ℕ). entry_of x ++ z) (entries-append xs ys) ∙ sym (append_assoc (entry_of x) (entries xs) (entries ys))

pub entries_one : (x : Holding) → entries (x ∷ []) ≡ entry_of x
unfolding entries
entries_one x = append-nil (entry_of x)

-- holders with 256 resources at the most take 258 numbers each
pub entries_few : (f : ℕ → Holding) (hs : List ℕ) → ((h : ℕ) → length (f h).held ≤ 256) → length (entries (map f hs)) ≤ 258 * length hs
unfolding entries
entries_few f [] few = omega arith
entries_few f (h ∷ hs) few = omega (arith, length-append (entry_of (f h)) (entries (map f hs)), entries_few f hs few, few h)
