-- Which lines a reader takes: one law for each way of putting readers together. Assumes nothing.
use Prim.Native.Nat.{ℕ, zero, suc}
use mathlib.Core.Path.{◌≡◌, refl, sym, ap, ◌∙◌}
use mathlib.Core.List.{List, [], ◌∷◌, ◌++◌, append_assoc, append-nil}
use Rattle.sheet_rules.specs.declared.Place.{Place}
use Rattle.sheet_rules.specs.declared.Reason.{Reason}
use Rattle.sheet_rules.specs.Lines.{Line, line, torn}
use Rattle.sheet_rules.specs.Reader.{Judged, good, bad, Read, got, refused, Reader, and_then, settle, one, many}
use Rattle.sheet_rules.proofs.ReaderLaws.{Judges, its_good, its_bad}

-- reading gave a value, if it gave one, from the first of some lines, and these are as R says of the value
pub data Takes {A : Type 0} (R : A → List Line → Type 0) (ls : List Line) : Read A → Type 0 where
  takes : {a : A} {taken ls' : List Line} {n : ℕ} → R a taken → ls ≡ taken ++ ls' → Takes R ls (got a ls' n)
  takes_none : {r : Reason} {n : ℕ} → Takes R ls (refused r n)

-- a value with nothing read
pub Takes-give : {A : Type 0} {R : A → List Line → Type 0} {ls : List Line} {a : A} {n : ℕ} → R a [] → Takes R ls (got a ls n)
Takes-give r = takes r refl

-- a relation that follows from the relation
pub Takes-map : {A : Type 0} {R S : A → List Line → Type 0} → ((a : A) (l : List Line) → R a l → S a l) → {ls : List Line} {x : Read A} → Takes R ls x → Takes S ls x
Takes-map f (takes {a = a} {taken = l} r e) = takes (f a l r) e
Takes-map f takes_none = takes_none

-- one: the line that was judged
pub Takes-one : {A : Type 0} {R : A → List Line → Type 0} (judge : Place → List ℕ → Judged A) → ((k : Place) (ns : List ℕ) → Judges (λ a. R a (line k ns ∷ [])) (judge k ns))
    → (ls : List Line) (n : ℕ) → Takes R ls (one judge ls n)
unfolding one settle
Takes-one judge h [] n = takes_none
Takes-one judge h (torn ∷ ls) n = takes_none
Takes-one {A = A} {R = R} judge h (line k ns ∷ ls) n = go (judge k ns) (h k ns)
  where
    go : (j : Judged A) → Judges (λ a. R a (line k ns ∷ [])) j → Takes R (line k ns ∷ ls) (settle j ls n)
    go (good a) (its_good r) = takes r refl
    go (bad r) its_bad = takes_none

-- and_then: the lines of the first, and then those of the second
pub Takes-then : {A B : Type 0} (R : A → List Line → Type 0) {S : B → List Line → Type 0} {ls : List Line} {x : Read A} (k : A → Reader B) → Takes R ls x
    → ((a : A) (l : List Line) → R a l → (ls : List Line) (n : ℕ) → Takes (λ b m. S b (l ++ m)) ls (k a ls n)) → Takes S ls (and_then x k)
unfolding and_then
Takes-then R {S = S} {ls = ls} k (takes {a = a} {taken = l} {ls' = rest} {n = n} r e) h = go (k a rest n) (h a l r rest n)
  where
    go : (y : Read _) → Takes (λ b m. S b (l ++ m)) rest y → Takes S ls y
    go (got b ls' n) (takes {taken = m} q d) = takes q (e ∙ ap (λ (z : List Line). l ++ z) d ∙ sym (append_assoc l m ls'))
    go (refused q n) takes_none = takes_none
Takes-then R k takes_none h = takes_none

-- many: a relation of how many items are to come, the list so far and its lines, which each item keeps
pub Takes-many : {A : Type 0} (P : ℕ → List A → List Line → Type 0) (item : List A → Reader A)
    → ((k : ℕ) (before : List A) (done : List Line) → P (suc k) before done → (ls : List Line) (n : ℕ) → Takes (λ a l. P k (before ++ (a ∷ [])) (done ++ l)) ls (item before ls n))
    → (k : ℕ) (before : List A) (done : List Line) → P k before done → (ls : List Line) (n : ℕ) → Takes (λ xs l. P 0 xs (done ++ l)) ls (many k item before ls n)
unfolding many
Takes-many P item h zero before done p ls n = Takes-give (rw append-nil p)
Takes-many P item h (suc k) before done p ls n =
    Takes-then (λ a l. P k (before ++ (a ∷ [])) (done ++ l)) (λ a. many k item (before ++ (a ∷ []))) (h k before done p ls n)
    (λ a l q ls n. Takes-map (λ xs m r. rw (← append_assoc) r) (Takes-many P item h k (before ++ (a ∷ [])) (done ++ l) q ls n))
