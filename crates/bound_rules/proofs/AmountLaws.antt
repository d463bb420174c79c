-- Laws of amounts: in a sheet of the stricter kind a name's amount is the paper's equation, the largest over its bodies by the amounts of
-- all names, which has no other solution; and each body of a name is within the name's amount. Assumes nothing.
use Prim.Native.Nat.{ℕ, zero, suc, ◌+◌, ◌≤◌, ◌<◌}
use native.Mathlib.Omega.{arith}
use native.Mathlib.Decide.{dec_le}
use mathlib.Core.Path.{◌≡◌, refl, sym, ap, ap₂, ◌∙◌}
use mathlib.Core.List.{List, [], ◌∷◌, ◌++◌}
use mathlib.Core.Option.{Option, none, some}
use lib.ListN.{length, length-append, get_or-append, get_or-eq_default}
use lib.Seq.{get_or_at}
use Rattle.lists.specs.In.{In, here, there}
use Rattle.lists.proofs.InLaws.{In-nil}
use Rattle.sheet_rules.specs.declared.Member.{Member}
use Rattle.sheet_rules.specs.declared.Member.TheVariants.{Method}
use Rattle.sheet_rules.specs.Limits.{name_limit}
use Rattle.sheet_rules.specs.Sheet.{Instr, called_name, Part, body, Form, Sheet}
use Rattle.sheet_rules.specs.RowLines.{name_of}
use Rattle.sheet_rules.specs.WellFormed.{WellFormed}
use Rattle.type_rules.specs.SlotRows.{members_at}
use Rattle.machine_rules.specs.Step.{body_in}
use Rattle.bound_rules.specs.Strict.{body_of, CallsBelow, Strict}
use Rattle.bound_rules.specs.Amount.{amount_at, called_amount, code_amount, body_amount, largest_in, name_amount, amounts_below, amounts}
use Rattle.bound_rules.proofs.StrictLaws.{PartFor, other_name, body_found}

-- WHAT AN AMOUNT GOES BY

-- amounts of names below n that agree
abbrev SameBelow : ℕ → List ℕ → List ℕ → Type 0
SameBelow n xs ys = (m : ℕ) → m < n → amount_at xs m ≡ amount_at ys m

module _ (n : ℕ) (xs ys : List ℕ) (same : SameBelow n xs ys) where
  called_same : (c : Option ℕ) → ((m : ℕ) → c ≡ some m → m < n) → called_amount xs c ≡ called_amount ys c
  called_same none h = refl
  called_same (some m) h = same m (h m refl)

  -- code that calls names below n alone goes by the amounts of these
  code_same : (is : List Instr) → CallsBelow n is → code_amount xs is ≡ code_amount ys is
  unfolding code_amount
  code_same [] h = refl
  code_same (i ∷ is) h = ap₂ (λ (a b : ℕ). suc (a + b)) (called_same (called_name i) (h i (here refl))) (code_same is (λ j k. h j (there k)))

  body_same : (c : Option (List Instr)) → ((is : List Instr) → c ≡ some is → CallsBelow n is) → body_amount xs c ≡ body_amount ys c
  body_same none h = refl
  body_same (some is) h = rw (code_same is (h is refl))

  largest_same : (s : Sheet) (fs : List Form) → ((f : Form) → In f fs → (is : List Instr) → body_of s f n ≡ some is → CallsBelow n is) → largest_in s xs n fs ≡ largest_in s ys n fs
  unfolding largest_in
  largest_same s [] h = refl
  largest_same s (f ∷ fs) h = rw (body_same (body_of s f n) (h f (here refl)), largest_same s fs (λ g i. h g (there i)))

-- THE LARGEST OVER A NAME'S BODIES

-- it is at least that of each body
pub largest_covers : (s : Sheet) (xs : List ℕ) (n : ℕ) (fs : List Form) (f : Form) (is : List Instr) → In f fs → body_of s f n ≡ some is → suc (code_amount xs is) ≤ largest_in s xs n fs
unfolding largest_in
largest_covers s xs n [] f is i e = absurd (In-nil i)
largest_covers s xs n (g ∷ fs) f is (here q) e =
    let a : body_amount xs (body_of s g n) ≡ suc (code_amount xs is) = ap (body_amount xs) (ap (λ (x : Form). body_of s x n) (sym q) ∙ e) in
    omega arith
largest_covers s xs n (g ∷ fs) f is (there i) e = let h = largest_covers s xs n fs f is i e in omega arith

-- and 0 where there is none
largest_none : (s : Sheet) (xs : List ℕ) (n : ℕ) (fs : List Form) → ((f : Form) → In f fs → body_of s f n ≡ none) → largest_in s xs n fs ≡ 0
unfolding largest_in
largest_none s xs n [] h = refl
largest_none s xs n (f ∷ fs) h = rw (h f (here refl), largest_none s xs n fs (λ g i. h g (there i)))

-- a name over the limit has no body
none_above : (n : ℕ) (ms : List Member) (ps : List Part) → ((x : Member) → In x ms → name_of x < n) → body_in ms ps n ≡ none
unfolding body_in
none_above n [] ps h = refl
none_above n (m ∷ ms) [] h = refl
none_above n (m ∷ ms) (p ∷ ps) h =
    let l = h m (here refl) in
    other_name n m p ms ps (λ e. omega arith) ∙ none_above n ms ps (λ x i. h x (there i))

-- AMOUNTS, ONE NAME AFTER ANOTHER

module _ (s : Sheet) where
  pub amounts_length : (n : ℕ) → length (amounts_below s n) ≡ n
  unfolding amounts_below
  amounts_length zero = refl
  amounts_length (suc n) = let h = amounts_length n in rw length-append (omega arith)

  -- the amount of a name is worked out by those before it, and stays
  amount_stays : (k n : ℕ) → n < k → amount_at (amounts_below s k) n ≡ name_amount s (amounts_below s n) n
  unfolding amounts_below
  amount_stays zero n l = absurd (omega arith)
  amount_stays (suc k) n l = go (dec_le (suc n) k) (amount_stays k n)
    where
      before : List ℕ
      before = amounts_below s k

      go : Dec (suc n ≤ k) → (n < k → amount_at before n ≡ name_amount s (amounts_below s n) n)
          → amount_at (before ++ (name_amount s before k ∷ [])) n ≡ name_amount s (amounts_below s n) n
      go (yes h) rec = get_or-append before (name_amount s before k ∷ []) 0 n (let z = amounts_length k in omega arith) ∙ rec h
      go (no h) rec =
          let e : n ≡ k = omega arith in
          get_or_at before (name_amount s before k) [] 0 n (amounts_length k ∙ sym e) ∙ ap (λ (x : ℕ). name_amount s (amounts_below s x) x) (sym e)

  module _ (w : WellFormed s) (strict : Strict s) where
    equation_below : (k n : ℕ) → n < k → amount_at (amounts_below s k) n ≡ name_amount s (amounts_below s k) n
    equation_below k n l =
        amount_stays k n l
        ∙ largest_same n (amounts_below s n) (amounts_below s k) (λ m h. amount_stays n m h ∙ sym (amount_stays k m (omega arith))) s s.forms (λ f i is e. strict f i n is e)

    -- a name's amount is the largest over its bodies, by the amounts of all names
    pub amount_is : (n : ℕ) → amount_at (amounts s) n ≡ name_amount s (amounts s) n
    unfolding amounts
    amount_is n = go (dec_le n name_limit)
      where
        go : Dec (n ≤ name_limit) → amount_at (amounts_below s (suc name_limit)) n ≡ name_amount s (amounts_below s (suc name_limit)) n
        go (yes h) = equation_below (suc name_limit) n (omega arith)
        go (no h) =
            get_or-eq_default (amounts_below s (suc name_limit)) 0 (let z = amounts_length (suc name_limit) in omega arith)
            ∙ sym (largest_none s (amounts_below s (suc name_limit)) n s.forms
            (λ f i. none_above n (members_at s f.row) f.parts (λ x j. let l = (w.rows f.row).low x j in omega arith)))

    -- and no other amounts are: the equation settles them
    pub amount_unique : (xs : List ℕ) → ((n : ℕ) → amount_at xs n ≡ name_amount s xs n) → (n : ℕ) → amount_at xs n ≡ amount_at (amounts s) n
    amount_unique xs equation n = below (suc n) n (omega arith)
      where
        settled : (m : ℕ) → SameBelow m xs (amounts s) → amount_at xs m ≡ amount_at (amounts s) m
        settled m same = equation m ∙ largest_same m xs (amounts s) same s s.forms (λ f i is e. strict f i m is e) ∙ sym (amount_is m)

        below : (k : ℕ) → SameBelow k xs (amounts s)
        below zero m l = absurd (omega arith)
        below (suc k) m l = settled m (λ i h. below k i (omega arith))

    -- so each body of a name is within the name's amount
    pub amount_covers : (n : ℕ) (f : Form) (is : List Instr) → In f s.forms → body_of s f n ≡ some is → suc (code_amount (amounts s) is) ≤ amount_at (amounts s) n
    amount_covers n f is i e = let h = largest_covers s (amounts s) n s.forms f is i e in let q = amount_is n in omega arith

    -- whatever form it stands in, and whether anybody makes that form or not
    pub every_body : (f : Form) → In f s.forms → {n a r : ℕ} {is : List Instr} → PartFor (Method n a r) (body is) (members_at s f.row) f.parts
        → suc (code_amount (amounts s) is) ≤ amount_at (amounts s) n
    every_body f i {n} {is = is} p = amount_covers n f is i (body_found (w.rows f.row).names p)
