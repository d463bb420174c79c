-- Amounts that are cut off at the limit: whoever calls a name that was cut off is over the limit by either list, since a call adds one;
-- so amounts cut off, and main's answer, are the same. Assumes nothing.
use Prim.Native.Nat.{ℕ, suc, ◌+◌, ◌≤◌, ◌<◌, min, max}
use native.Mathlib.Omega.{arith}
use native.Mathlib.Decide.{dec_le}
use native.Mathlib.Numerals.{add-one}
use mathlib.Core.Path.{◌≡◌, refl, sym, ap, ap₂, ◌∙◌, subst}
use mathlib.Core.List.{List, [], ◌∷◌, ◌++◌}
use mathlib.Core.Option.{Option, none, some}
use mathlib.Core.Logic.{◌⊎◌, inl, inr}
use lib.ListN.{length, get_or, set, replicate, length-append, length-set, length-replicate, get_or-append, get_or-eq_default, get_or-replicate}
use lib.Seq.{get_or_at, get_or-set_same, get_or-set_other}
use Rattle.sheet_rules.specs.Limits.{name_limit}
use Rattle.sheet_rules.specs.Sheet.{Instr, called_name, Form, Sheet, form_at}
use Rattle.type_rules.specs.SlotRows.{members_at}
use Rattle.bound_rules.specs.Strict.{body_of}
use Rattle.bound_rules.specs.Amount.{amount_at, called_amount, code_amount, body_amount, largest_in, name_amount, amounts_below, amounts}
use Rattle.bound_rules.specs.BoundQuestion.{amount_limit, counted}
use Rattle.bound_rules.proofs.AmountLaws.{amounts_length}
use Rattle.bound_rules.proofs.BoundLaws.{counted_over}
use Rattle.bound.specs.Told.{Zeros, Passed, NameTold, CutOff, Filled}
use Rattle.bound.proofs.PassedLaws.{passed_zero}

-- two amounts are the same, or both are over the limit
abbrev Near : ℕ → ℕ → Type 0
Near a b = (a ≡ b) ⊎ ((amount_limit < a) × (amount_limit < b))

Near-cut : (a b : ℕ) → Near a b → min (suc a) amount_limit ≡ min (suc b) amount_limit
Near-cut a b (inl e) = ap (λ (x : ℕ). min (suc x) amount_limit) e
Near-cut a b (inr h) = omega (arith, h.0, h.1)

Near-counted : (a b : ℕ) → Near a b → counted a ≡ counted b
Near-counted a b (inl e) = ap counted e
Near-counted a b (inr h) = counted_over h.0 ∙ sym (counted_over h.1)

-- an instruction more
Near-more : (x y a b : ℕ) → x ≡ min y amount_limit → Near a b → Near (suc (x + a)) (suc (y + b))
Near-more x y a b e (inr h) = inr (omega (arith, h.0), omega (arith, h.1))
Near-more x y a b e (inl q) = go (dec_le (suc y) amount_limit)
  where
    go : Dec (suc y ≤ amount_limit) → Near (suc (x + a)) (suc (y + b))
    go (yes l) = inl (omega arith)
    go (no l) = inr (omega arith, omega arith)

-- the larger of two, cut off
pub cut_max : (a b : ℕ) → min (max a b) amount_limit ≡ max (min a amount_limit) (min b amount_limit)
cut_max a b = omega arith

module _ (xs zs : List ℕ) (cut : CutOff xs zs) where
  called_cut : (c : Option ℕ) → called_amount zs c ≡ min (called_amount xs c) amount_limit
  called_cut none = omega arith
  called_cut (some n) = cut.each n

  code_near : (is : List Instr) → Near (code_amount zs is) (code_amount xs is)
  unfolding code_amount
  code_near [] = inl refl
  code_near (i ∷ is) =
      Near-more (called_amount zs (called_name i)) (called_amount xs (called_name i)) (code_amount zs is) (code_amount xs is) (called_cut (called_name i)) (code_near is)

  body_cut : (c : Option (List Instr)) → min (body_amount zs c) amount_limit ≡ min (body_amount xs c) amount_limit
  body_cut none = refl
  body_cut (some is) = Near-cut (code_amount zs is) (code_amount xs is) (code_near is)

  largest_cut : (s : Sheet) (n : ℕ) (fs : List Form) → min (largest_in s zs n fs) amount_limit ≡ min (largest_in s xs n fs) amount_limit
  unfolding largest_in
  largest_cut s n [] = refl
  largest_cut s n (f ∷ fs) =
      cut_max (body_amount zs (body_of s f n)) (largest_in s zs n fs) ∙ ap₂ max (body_cut (body_of s f n)) (largest_cut s n fs)
      ∙ sym (cut_max (body_amount xs (body_of s f n)) (largest_in s xs n fs))

  -- main's answer
  pub code_counted : (is : List Instr) {r : ℕ} → r ≡ code_amount zs is → counted r ≡ counted (code_amount xs is)
  code_counted is e = ap counted e ∙ Near-counted (code_amount zs is) (code_amount xs is) (code_near is)

-- NAME AFTER NAME

-- where the loop stands: the amounts of the names below n are worked out, the others are 0, and the members of names below n are passed
pub record Filling (s : Sheet) (zs ys : List ℕ) (n : ℕ) : Type 0 where
  pub size : length zs ≡ 64
  pub within : n ≤ 64
  pub done : CutOff (amounts_below s n) zs
  pub passed : Passed s n ys

zero_at : {zs : List ℕ} → Zeros zs → (m : ℕ) → ◌≡◌ {A = ℕ} (get_or zs m 0) 0
zero_at e m = ap (λ (l : List ℕ). get_or l m 0) e ∙ go (dec_le (suc m) 64)
  where
    go : Dec (suc m ≤ 64) → ◌≡◌ {A = ℕ} (get_or (replicate 64 0) m 0) 0
    go (yes l) = get_or-replicate 64 m 0 0 l
    go (no l) = let z : length (replicate {A = ℕ} 64 0) ≤ m = omega (arith, length-replicate {A = ℕ} 64 0) in get_or-eq_default (replicate 64 0) 0 z

zero_size : {zs : List ℕ} → Zeros zs → length zs ≡ 64
zero_size e = ap length e ∙ length-replicate {A = ℕ} 64 0

pub Filling-start : (s : Sheet) {zs ys : List ℕ} → Zeros zs → Zeros ys → Filling s zs ys 0
unfolding amounts_below
Filling-start s e d =
    record {
      size = zero_size e;
      within = omega arith;
      done = record { each = λ m. zero_at e m };
      passed = record { size = zero_size d; each = λ f l. zero_at d f ∙ sym (passed_zero (members_at s (form_at s f).row)) };
    }

module _ {s : Sheet} {zs ys : List ℕ} {n : ℕ} (g : Filling s zs ys n) where
  pub Filling-next : n < 64 → {amount : ℕ} {ys' : List ℕ} → NameTold s zs n ys' amount → {zs' : List ℕ} → zs' ≡ set zs n amount → Filling s zs' ys' (n + 1)
  unfolding amounts_below
  Filling-next l {amount} {ys'} told {zs'} e =
      record {
        size = ap length e ∙ simp length-set g.size;
        within = omega arith;
        done = record { each = λ m. ap (λ (y : List ℕ). amount_at y m) e ∙ go m (dec_le m n) (dec_le n m) ∙ ap (λ (k : ℕ). min (amount_at (amounts_below s k) m) amount_limit) (sym (add-one n)) };
        passed = subst (λ (k : ℕ). Passed s k ys') (sym (add-one n)) told.passed;
      }
    where
      before : List ℕ
      before = amounts_below s n

      this : ℕ
      this = name_amount s before n

      amount-is : amount ≡ min this amount_limit
      amount-is = told.amount ∙ largest_cut before zs g.done s n s.forms

      go : (m : ℕ) → Dec (m ≤ n) → Dec (n ≤ m) → amount_at (set zs n amount) m ≡ min (amount_at (before ++ (this ∷ [])) m) amount_limit
      go m (yes a) (yes b) =
          let same : m ≡ n = omega arith in
          ap (λ (k : ℕ). amount_at (set zs n amount) k) same
          ∙ get_or-set_same zs n amount 0 (omega (arith, g.size))
          ∙ amount-is ∙ ap (λ (x : ℕ). min x amount_limit) (sym (get_or_at before this [] 0 m (amounts_length s n ∙ sym same)))
      go m (yes a) (no b) =
          get_or-set_other zs n m amount 0 (λ q. omega arith) ∙ g.done.each m
          ∙ ap (λ (x : ℕ). min x amount_limit) (sym (get_or-append before (this ∷ []) 0 m (let z = amounts_length s n in omega arith)))
      go m (no a) b =
          let z : length before ≤ m = omega (arith, amounts_length s n) in
          let y : length (before ++ (this ∷ [])) ≤ m = rw length-append (omega (arith, amounts_length s n)) in
          get_or-set_other zs n m amount 0 (λ q. omega arith) ∙ g.done.each m
          ∙ ap (λ (x : ℕ). min x amount_limit) (get_or-eq_default before 0 z ∙ sym (get_or-eq_default (before ++ (this ∷ [])) 0 y))

  pub filling_end : 64 ≤ n → Filled s zs ys
  unfolding amounts
  filling_end l =
      let e : n ≡ suc name_limit = omega (arith, g.within) in
      record { cut = subst (λ (k : ℕ). CutOff (amounts_below s k) zs) e g.done; passed = subst (λ (k : ℕ). Passed s k ys) e g.passed }
