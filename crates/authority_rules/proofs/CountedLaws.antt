-- What counts of a frame before and after a step, of a body that is entered, and of an object's kept values. Assumes nothing.
use Prim.Native.Nat.{ℕ, suc, pred, ◌+◌, ◌≤◌, ◌<◌}
use native.Mathlib.Omega.{arith}
use mathlib.Core.Path.{◌≡◌, sym, ap, subst}
use mathlib.Core.Bool.{Bool, true, false, ◌||◌}
use mathlib.Core.List.{List, [], ◌∷◌, ◌++◌}
use mathlib.Core.Option.{Option}
use mathlib.Core.Logic.{◌⊎◌, inl, inr}
use lib.Dec.{T, eqb, eqb→eq}
use lib.ListN.{length, get_or, length-append}
use borrow.Author.Tests.{eq-eqb}
use Rattle.lists.specs.In.{In, here, there}
use Rattle.lists.specs.AnyAll.{any}
use Rattle.lists.specs.Contains.{contains}
use Rattle.lists.specs.Passing.{add_if}
use Rattle.lists.specs.AtPlaces.{at_places}
use Rattle.lists.proofs.InLaws.{In-nil, In-cases}
use Rattle.lists.proofs.AnyAllLaws.{In-any}
use Rattle.lists.proofs.AtPlacesLaws.{at_places_lem, places_in, places_snoc, places_more}
use Rattle.lists.proofs.ContainsLaws.{In-contains}
use Rattle.lists.proofs.Tests.{or_left, or_right, or_cases, true→T}
use Rattle.sheet_rules.specs.Sheet.{Instr, named_slots, body, Form, Sheet, form_at, code_names, part_names, form_names}
use Rattle.machine_rules.specs.State.{Object, Frame, last_of, filled, past}
use Rattle.machine_rules.proofs.FoundLaws.{last_of_at}
use Rattle.authority_rules.specs.Counted.{is_last, top_slots, waiting_slots, named_kept}

-- WHAT CODE NAMES

-- a slot that the next instruction names
now_names : (i : Instr) (is : List Instr) (v : ℕ) → In v (named_slots i) → T (code_names (i ∷ is) v)
unfolding code_names any
now_names i is v h = or_left (contains (named_slots i) v) (code_names is v) (In-contains (named_slots i) v h)

-- and one that a later instruction names
later_names : (i : Instr) (is : List Instr) (v : ℕ) → T (code_names is v) → T (code_names (i ∷ is) v)
unfolding code_names any
later_names i is v t = or_right (contains (named_slots i) v) (code_names is v) t

-- a slot that a body of a form names
pub body_names : (f : Form) (is : List Instr) (v : ℕ) → In (body is) f.parts → T (code_names is v) → T (form_names f v)
body_names f is v i t = In-any (λ p. part_names p v) f.parts i t

-- ONE SLOT MORE

-- a list of at most one number has no other
added : (t : Bool) {b v : ℕ} → In b (add_if t v []) → b ≡ v
added true (here e) = e
added true (there i) = absurd (In-nil i)
added false i = absurd (In-nil i)

-- of a list with one value more, tests that get no weaker count the old values that they did, or the new one
snoc_places : (test test' : ℕ → Bool) (xs : List ℕ) (v : ℕ) → ((i : ℕ) → i < length xs → T (test i) → T (test' i))
    → {b : ℕ} → In b (at_places test (xs ++ (v ∷ []))) → In b (at_places test' xs) ⊎ (b ≡ v)
snoc_places test test' xs v more {b} i = go (In-cases (at_places test xs) (add_if (test (length xs)) v []) (subst (In b) (places_snoc test xs v) i))
  where
    go : In b (at_places test xs) ⊎ In b (add_if (test (length xs)) v []) → In b (at_places test' xs) ⊎ (b ≡ v)
    go (inl j) = inl (places_more test test' xs more j)
    go (inr j) = inr (added (test (length xs)) j)

module _ (f : Frame) (i : Instr) (is : List Instr) (e : f.code ≡ i ∷ is) where
  -- the next instruction names a slot, so it counts
  pub named_top : (v : ℕ) → v < length f.slots → In v (named_slots i) → In (get_or f.slots v 0) (top_slots f)
  named_top v l n =
      at_places_lem (λ u. code_names f.code u || is_last f u) f.slots v l
      (or_left (code_names f.code v) (is_last f v) (subst (λ (js : List Instr). T (code_names js v)) (sym e) (now_names i is v n)))

  -- what those after it name, the code names
  left_names : (v : ℕ) → T (code_names is v) → T (code_names f.code v)
  left_names v t = subst (λ (js : List Instr). T (code_names js v)) (sym e) (later_names i is v t)

  -- the next instruction taken and its slot filled: the last slot is the one that it was
  same_last : (v u : ℕ) → T (is_last (filled (past f is) v) u) → T (is_last f u)
  same_last v u t =
      true→T (is_last f u) (eq-eqb (suc u) (length f.slots + length f.code)
      (omega (arith, eqb→eq (suc u) (length (f.slots ++ (v ∷ [])) + length is) t, length-append f.slots (v ∷ []), ap length e)))

  -- what counts then counted before, or fills the slot
  pub filled_top : (v : ℕ) {b : ℕ} → In b (top_slots (filled (past f is) v)) → In b (top_slots f) ⊎ (b ≡ v)
  filled_top v j =
      snoc_places (λ u. code_names is u || is_last (filled (past f is) v) u) (λ u. code_names f.code u || is_last f u) f.slots v
      (λ u l t. more u (or_cases (code_names is u) (is_last (filled (past f is) v) u) t)) j
    where
      more : (u : ℕ) → T (code_names is u) ⊎ T (is_last (filled (past f is) v) u) → T (code_names f.code u || is_last f u)
      more u (inl t) = or_left (code_names f.code u) (is_last f u) (left_names u t)
      more u (inr t) = or_right (code_names f.code u) (is_last f u) (same_last v u t)

  -- the next instruction, a call, waits: what counts counted before
  pub waiting_top : {b : ℕ} → In b (waiting_slots (past f is)) → In b (top_slots f)
  waiting_top j =
      places_more (code_names is) (λ u. code_names f.code u || is_last f u) f.slots
      (λ u l t. or_left (code_names f.code u) (is_last f u) (left_names u t)) j

-- of a frame that waited, the last slot is none of those filled before the return
pub waiting_last : (f : Frame) (v u : ℕ) → u < length f.slots → T (is_last (filled f v) u) → ⊥
waiting_last f v u l t = omega (arith, l, eqb→eq (suc u) (length (f.slots ++ (v ∷ [])) + length f.code) t, length-append f.slots (v ∷ []))

-- a return fills the slot of a frame that waited: what counts then counted before, or fills the slot
pub returned_top : (f : Frame) (v : ℕ) {b : ℕ} → In b (top_slots (filled f v)) → In b (waiting_slots f) ⊎ (b ≡ v)
returned_top f v j =
    snoc_places (λ u. code_names f.code u || is_last (filled f v) u) (code_names f.code) f.slots v
    (λ u l t. more u l (or_cases (code_names f.code u) (is_last (filled f v) u) t)) j
  where
    more : (u : ℕ) → u < length f.slots → T (code_names f.code u) ⊎ T (is_last (filled f v) u) → T (code_names f.code u)
    more u l (inl t) = t
    more u l (inr t) = absurd (waiting_last f v u l t)

-- with no instruction left, the last slot counts
pub last_top : (f : Frame) → f.code ≡ [] → 0 < length f.slots → In (last_of f.slots) (top_slots f)
last_top f e l =
    subst (λ (x : ℕ). In x (top_slots f)) (sym (last_of_at f.slots))
    (at_places_lem (λ u. code_names f.code u || is_last f u) f.slots (pred (length f.slots)) (omega arith)
    (or_right (code_names f.code (pred (length f.slots))) (is_last f (pred (length f.slots)))
    (true→T (is_last f (pred (length f.slots))) (eq-eqb (suc (pred (length f.slots))) (length f.slots + length f.code) (omega (arith, ap length e))))))

-- A BODY THAT IS ENTERED

-- what counts at once: the own object, the argument, or a kept value whose slot the body names
pub data Enters (own argument : ℕ) (kept : List ℕ) (is : List Instr) (b : ℕ) : Type 0 where
  the_own : b ≡ own → Enters own argument kept is b
  the_argument : b ≡ argument → Enters own argument kept is b
  a_kept : In b (at_places (λ i. code_names is (2 + i)) kept) → Enters own argument kept is b

-- the places of a list after its first two
after_two : (test : ℕ → Bool) (x y : ℕ) (zs : List ℕ) {b : ℕ} → In b (at_places test (x ∷ y ∷ zs))
    → (b ≡ x) ⊎ ((b ≡ y) ⊎ In b (at_places (λ i. test (suc (suc i))) zs))
unfolding at_places
after_two test x y zs {b} i = go (test 0) (test 1) i
  where
    second : (u : Bool) → In b (add_if u y (at_places (λ i. test (suc (suc i))) zs)) → (b ≡ y) ⊎ In b (at_places (λ i. test (suc (suc i))) zs)
    second true (here e) = inl e
    second true (there j) = inr j
    second false j = inr j

    go : (t u : Bool) → In b (add_if t x (add_if u y (at_places (λ i. test (suc (suc i))) zs))) → (b ≡ x) ⊎ ((b ≡ y) ⊎ In b (at_places (λ i. test (suc (suc i))) zs))
    go true u (here e) = inl e
    go true u (there j) = inr (second u j)
    go false u j = inr (second u j)

pub entered_top : (receiver : Option ℕ) (own argument : ℕ) (kept : List ℕ) (is : List Instr) → 1 ≤ length is
    → {b : ℕ} → In b (top_slots (record { own = receiver; slots = own ∷ argument ∷ kept; code = is })) → Enters own argument kept is b
entered_top receiver own argument kept is one {b} i = go (after_two (λ u. code_names is u || eqb (suc u) (end + length is)) own argument kept i)
  where
    end : ℕ
    end = length (own ∷ argument ∷ kept)

    -- the last slot is not filled yet
    named : (u : ℕ) → u < length kept → T (code_names is (suc (suc u))) ⊎ T (eqb (suc (suc (suc u))) (end + length is)) → T (code_names is (2 + u))
    named u l (inl t) = let e : suc (suc u) ≡ 2 + u = omega arith in subst (λ (x : ℕ). T (code_names is x)) e t
    named u l (inr t) = absurd (omega (arith, l, one, eqb→eq (suc (suc (suc u))) (end + length is) t))

    go : (b ≡ own) ⊎ ((b ≡ argument) ⊎ In b (at_places (λ u. code_names is (suc (suc u)) || eqb (suc (suc (suc u))) (end + length is)) kept)) → Enters own argument kept is b
    go (inl e) = the_own e
    go (inr (inl e)) = the_argument e
    go (inr (inr j)) =
        a_kept (places_more (λ u. code_names is (suc (suc u)) || eqb (suc (suc (suc u))) (end + length is)) (λ u. code_names is (2 + u)) kept
        (λ u l t. named u l (or_cases (code_names is (suc (suc u))) (eqb (suc (suc (suc u))) (end + length is)) t)) j)

-- KEPT VALUES

-- the ones that count are kept
pub named_kept_lem : (s : Sheet) (o : Object) {b : ℕ} → In b (named_kept s o) → In b o.kept
named_kept_lem s o i = places_in (λ u. form_names (form_at s o.form) (2 + u)) o.kept i

-- those that a body of its form names are among them
pub body-kept : (s : Sheet) (o : Object) (is : List Instr) → In (body is) (form_at s o.form).parts → {b : ℕ} → In b (at_places (λ i. code_names is (2 + i)) o.kept) → In b (named_kept s o)
body-kept s o is p i =
    places_more (λ u. code_names is (2 + u)) (λ u. form_names (form_at s o.form) (2 + u)) o.kept
    (λ u l t. body_names (form_at s o.form) is (2 + u) p t) i
