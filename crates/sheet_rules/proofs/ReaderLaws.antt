-- One law for each way of putting readers together: what holds of every value that reading gives. Assumes nothing.
use Prim.Native.Nat.{ℕ, zero, suc, ◌+◌, ◌≤◌, ◌<◌}
use native.Mathlib.Omega.{arith}
use mathlib.Core.Path.{◌≡◌}
use mathlib.Core.Bool.{Bool, true, false}
use mathlib.Core.List.{List, [], ◌∷◌, ◌++◌}
use mathlib.Core.Logic.{◌⊎◌, inl, inr}
use lib.Dec.{T, leb, leb→le, ltb→lt}
use lib.ListN.{length, length-append}
use Rattle.lists.specs.In.{In}
use Rattle.lists.proofs.InLaws.{In-nil, In-snoc}
use Rattle.lists.proofs.Tests.{and_left, and_right}
use Rattle.sheet_rules.specs.declared.Place.{Place}
use Rattle.sheet_rules.specs.declared.Reason.{Reason}
use Rattle.sheet_rules.specs.Lines.{Line, line, torn}
use Rattle.sheet_rules.specs.Reader.{Judged, good, bad, demand, Read, got, refused, Reader, and_then, settle, one, many, nth, count_line, existing_line}

-- the value of a line, if it was judged good, has the property
pub data Judges {A : Type 0} (P : A → Type 0) : Judged A → Type 0 where
  its_good : {a : A} → P a → Judges P (good a)
  its_bad : {r : Reason} → Judges P (bad r)

-- the value that reading gave, if it gave one, has the property
pub data Gives {A : Type 0} (P : A → Type 0) : Read A → Type 0 where
  its_got : {a : A} {ls : List Line} {n : ℕ} → P a → Gives P (got a ls n)
  its_refused : {r : Reason} {n : ℕ} → Gives P (refused r n)

-- every value has the property that says nothing
pub Judges-any : {A : Type 0} (x : Judged A) → Judges (λ a. Unit {0}) x
Judges-any (good a) = its_good tt
Judges-any (bad r) = its_bad

-- a property that follows from the property, and two at once
pub Judges-map : {A : Type 0} {P Q : A → Type 0} → ((a : A) → P a → Q a) → {x : Judged A} → Judges P x → Judges Q x
Judges-map f (its_good {a = a} p) = its_good (f a p)
Judges-map f its_bad = its_bad

pub Judges-both : {A : Type 0} {P Q : A → Type 0} {x : Judged A} → Judges P x → Judges Q x → Judges (λ a. P a × Q a) x
Judges-both (its_good p) (its_good q) = its_good (p, q)
Judges-both its_bad its_bad = its_bad

pub Gives-any : {A : Type 0} (x : Read A) → Gives (λ a. Unit {0}) x
Gives-any (got a ls n) = its_got tt
Gives-any (refused r n) = its_refused

-- a property that follows from the property
pub Gives-map : {A : Type 0} {P Q : A → Type 0} → ((a : A) → P a → Q a) → (x : Read A) → Gives P x → Gives Q x
Gives-map f (got a ls n) (its_got p) = its_got (f a p)
Gives-map f (refused r n) its_refused = its_refused

-- demand: what comes after may use the test
pub Judges-demand : {A : Type 0} (P : A → Type 0) (b : Bool) (r : Reason) (x : Judged A) → (T b → Judges P x) → Judges P (demand b r x)
unfolding demand
Judges-demand P true r x h = h tt
Judges-demand P false r x h = its_bad

-- one: the judgement of any line decides
pub Gives-one : {A : Type 0} (P : A → Type 0) (judge : Place → List ℕ → Judged A) → ((k : Place) (ns : List ℕ) → Judges P (judge k ns))
    → (ls : List Line) (n : ℕ) → Gives P (one judge ls n)
unfolding one settle
Gives-one P judge h [] n = its_refused
Gives-one P judge h (torn ∷ ls) n = its_refused
Gives-one {A = A} P judge h (line k ns ∷ ls) n = go (judge k ns) (h k ns)
  where
    go : (j : Judged A) → Judges P j → Gives P (settle j ls n)
    go (good a) (its_good p) = its_got p
    go (bad r) its_bad = its_refused

-- and_then: the property of the first value is at hand for what follows
pub Gives-then : {A B : Type 0} (P : A → Type 0) (Q : B → Type 0) (x : Read A) (k : A → Reader B) → Gives P x
    → ((a : A) → P a → (ls : List Line) (n : ℕ) → Gives Q (k a ls n)) → Gives Q (and_then x k)
unfolding and_then
Gives-then P Q (got a ls n) k (its_got p) h = h a p ls n
Gives-then P Q (refused r n) k its_refused h = its_refused

-- many: a property of the list so far and of how many items are to come, which each item keeps
pub Gives-many : {A : Type 0} (P : ℕ → List A → Type 0) (item : List A → Reader A)
    → ((k : ℕ) (before : List A) → P (suc k) before → (ls : List Line) (n : ℕ) → Gives (λ a. P k (before ++ (a ∷ []))) (item before ls n))
    → (k : ℕ) (before : List A) → P k before → (ls : List Line) (n : ℕ) → Gives (P 0) (many k item before ls n)
unfolding many
Gives-many P item h zero before p ls n = its_got p
Gives-many P item h (suc k) before p ls n =
    Gives-then (λ a. P k (before ++ (a ∷ []))) (P 0) (item before ls n) (λ a. many k item (before ++ (a ∷ []))) (h k before p ls n)
    (λ a q. Gives-many P item h k (before ++ (a ∷ [])) q)

-- LINES OF ONE NUMBER

-- a count is within its limits
pub count_line_within : (wanted : Place) (low high : ℕ) (k : Place) (ns : List ℕ) → Judges (λ c. (low ≤ c) × (c ≤ high)) (count_line wanted low high k ns)
unfolding count_line
count_line_within wanted low high k ns =
    Judges-demand P _ _ _ (λ _. Judges-demand P _ _ _ (λ t. its_good (
      leb→le low (nth ns 0) (and_left (leb low (nth ns 0)) (leb (nth ns 0) high) t),
      leb→le (nth ns 0) high (and_right (leb low (nth ns 0)) (leb (nth ns 0) high) t),
    )))
  where
    P : ℕ → Type 0
    P c = (low ≤ c) × (c ≤ high)

-- a number that counts something there
pub existing_line_below : (wanted : Place) (bound : ℕ) (k : Place) (ns : List ℕ) → Judges (λ m. m < bound) (existing_line wanted bound k ns)
unfolding existing_line
existing_line_below wanted bound k ns =
    Judges-demand P _ _ _ (λ _. Judges-demand P _ _ _ (λ t. its_good (ltb→lt (nth ns 0) bound t)))
  where
    P : ℕ → Type 0
    P m = m < bound

-- some numbers so far, each of something that is there, with k to come of a count in all
pub record ThereSoFar (bound count k : ℕ) (ns : List ℕ) : Type 0 where
  pub there : (a : ℕ) → In a ns → a < bound
  pub counted : length ns + k ≡ count

there_keep : (bound count k : ℕ) (before : List ℕ) → ThereSoFar bound count (suc k) before → (b : ℕ) → b < bound → ThereSoFar bound count k (before ++ (b ∷ []))
there_keep bound count k before c b h = record { there = each; counted = rw length-append (omega arith) }
  where
    each : (a : ℕ) → In a (before ++ (b ∷ [])) → a < bound
    each a i = go (In-snoc before i)
      where
        go : In a before ⊎ (a ≡ b) → a < bound
        go (inl j) = c.there a j
        go (inr e) = omega arith

-- `count` lines of such a number give `count` of them
pub Gives-there : (wanted : Place) (bound count : ℕ) (ls : List Line) (n : ℕ) → Gives (ThereSoFar bound count 0) (many count (λ before. one (existing_line wanted bound)) [] ls n)
Gives-there wanted bound count ls n =
    Gives-many (ThereSoFar bound count) (λ before. one (existing_line wanted bound))
    (λ k before c ls n. Gives-map (there_keep bound count k before c) _
    (Gives-one (λ b. b < bound) (existing_line wanted bound) (existing_line_below wanted bound) ls n))
    count [] (record { there = λ a i. absurd (In-nil i); counted = omega arith }) ls n
