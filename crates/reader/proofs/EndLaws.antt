-- Where the text ends there is no line, and elsewhere there is one. Assumes nothing.
use Prim.Native.Nat.{ℕ, zero, suc, ◌≤◌, ◌<◌}
use native.Mathlib.Omega.{arith}
use mathlib.Core.Path.{◌≡◌, refl}
use mathlib.Core.Bool.{Bool, true, false, cond}
use mathlib.Core.List.{List, [], ◌∷◌}
use lib.Dec.{eqb}
use lib.ListN.{length, drop}
use Rattle.lists.proofs.Tests.{clash}
use Rattle.sheet_rules.specs.declared.Reason.TheVariants.{Malformed}
use Rattle.sheet_rules.specs.Lines.{newline, split_on, in_front, finished, lines_of}
use Rattle.sheet_rules.specs.Reader.{got, refused}
use Rattle.sheet_rules.specs.Reading.{read_end}

-- there is always a piece
split_some : (c : ℕ) (bs : List ℕ) {A : Type 0} → split_on c bs ≡ [] → A
unfolding split_on
split_some c [] e = clash (cc)
split_some c (b ∷ bs) e = go (eqb b c) (split_on c bs) e
  where
    go : (t : Bool) (ps : List (List ℕ)) {A : Type 0} → cond t ([] ∷ ps) (in_front b ps) ≡ [] → A
    go true ps e = clash (cc)
    go false [] e = clash (cc)
    go false (p ∷ ps) e = clash (cc)

-- bytes that are left are a line, whole or not
end_some : (b : ℕ) (bs : List ℕ) (n : ℕ) → read_end (lines_of (b ∷ bs)) n ≡ refused Malformed n
unfolding read_end lines_of split_on finished
end_some b bs n = go (eqb b newline) (split_on newline bs) refl
  where
    go : (t : Bool) (ps : List (List ℕ)) → split_on newline bs ≡ ps → read_end (finished (cond t ([] ∷ ps) (in_front b ps))) n ≡ refused Malformed n
    go true [] e = split_some newline bs e
    go true (p ∷ ps) e = refl
    go false [] e = split_some newline bs e
    go false (p ∷ []) e = refl
    go false (p ∷ q ∷ ps) e = refl

end_none : (n : ℕ) → read_end (lines_of []) n ≡ got tt [] n
unfolding read_end lines_of split_on finished
end_none n = refl

pub at_end : (text : List ℕ) (at n : ℕ) → length text ≤ at → read_end (lines_of (drop at text)) n ≡ got tt [] n
at_end [] zero n h = end_none n
at_end [] (suc at) n h = end_none n
at_end (b ∷ bs) zero n h = absurd (omega arith)
at_end (b ∷ bs) (suc at) n h = at_end bs at n (omega arith)

pub not_at_end : (text : List ℕ) (at n : ℕ) → at < length text → read_end (lines_of (drop at text)) n ≡ refused Malformed n
not_at_end [] at n h = absurd (omega arith)
not_at_end (b ∷ bs) zero n h = end_some b bs n
not_at_end (b ∷ bs) (suc at) n h = not_at_end bs at n (omega arith)
