-- Same members and twins, one more at a time. Assumes nothing.
use Prim.Native.Nat.{ℕ, zero, suc, ◌≤◌, ◌<◌}
use native.Mathlib.Omega.{arith}
use native.Mathlib.Decide.{dec_le}
use mathlib.Core.Path.{◌≡◌, refl, sym, ap, ap₂, ◌∙◌, subst}
use mathlib.Core.Bool.{Bool, true, false, ◌&&◌, ◌||◌}
use mathlib.Core.List.{List, [], ◌∷◌, ◌++◌}
use lib.Dec.{T, eqb, eqb→eq}
use lib.ListN.{length}
use Rattle.lists.specs.Tab.{tab}
use Rattle.lists.proofs.TabLaws.{tab-suc, length-tab}
use Rattle.lists.proofs.Tests.{and_left, and_right, true→T}
use Rattle.sheet_rules.specs.declared.Member.{Member}
use Rattle.sheet_rules.specs.declared.Member.TheVariants.{Method, Field}
use Rattle.sheet_rules.specs.Sheet.{Row}
use Rattle.sheet_rules.specs.RowLines.{same_kind, same_member, same_members, same_row, twin}
use Rattle.table.specs.Layout.{member_count_address}
use Rattle.table.specs.View.{cell, member_in, members_in, row_in}

-- members of as many each, with one more at the end
members_snoc : (xs ys : List Member) (x y : Member) → length xs ≡ length ys
    → same_members (xs ++ (x ∷ [])) (ys ++ (y ∷ [])) ≡ same_members xs ys && same_member x y
unfolding same_members
members_snoc [] [] x y e = and-true (same_member x y)
  where
    and-true : (b : Bool) → b && true ≡ b
    and-true true = refl
    and-true false = refl
members_snoc [] (y' ∷ ys) x y e = absurd (omega arith)
members_snoc (x' ∷ xs) [] x y e = absurd (omega arith)
members_snoc (x' ∷ xs) (y' ∷ ys) x y e = go (same_member x' y') (members_snoc xs ys x y (omega arith))
  where
    go : (b : Bool) → same_members (xs ++ (x ∷ [])) (ys ++ (y ∷ [])) ≡ same_members xs ys && same_member x y
        → b && same_members (xs ++ (x ∷ [])) (ys ++ (y ∷ [])) ≡ b && same_members xs ys && same_member x y
    go true r = r
    go false r = refl

pub members_length : (xs ys : List Member) → (length xs ≡ length ys → ⊥) → same_members xs ys ≡ false
unfolding same_members
members_length [] [] ne = absurd (ne refl)
members_length [] (y ∷ ys) ne = refl
members_length (x ∷ xs) [] ne = refl
members_length (x ∷ xs) (y ∷ ys) ne = go (same_member x y) (members_length xs ys (λ e. ne (ap suc e)))
  where
    go : (b : Bool) → same_members xs ys ≡ false → b && same_members xs ys ≡ false
    go true r = r
    go false r = refl

module _ (f g : ℕ → Member) where
  pub members_none : same_members (tab f zero) (tab g zero) ≡ true
  unfolding tab same_members
  members_none = refl

  members_suc : (n : ℕ) → same_members (tab f (suc n)) (tab g (suc n)) ≡ same_members (tab f n) (tab g n) && same_member (f n) (g n)
  members_suc n =
      ap₂ same_members (tab-suc f n) (tab-suc g n)
      ∙ members_snoc (tab f n) (tab g n) (f n) (g n) (length-tab f n ∙ sym (length-tab g n))

  pub members_next : (n : ℕ) → same_members (tab f n) (tab g n) ≡ true → same_member (f n) (g n) ≡ true → same_members (tab f (suc n)) (tab g (suc n)) ≡ true
  members_next n p q = members_suc n ∙ ap₂ ◌&&◌ p q

  pub members_differ : (n m : ℕ) → n < m → same_members (tab f n) (tab g n) ≡ true → same_member (f n) (g n) ≡ false
      → same_members (tab f m) (tab g m) ≡ false
  members_differ n zero h p q = absurd (omega arith)
  members_differ n (suc m) h p q = go (dec_le (suc n) m) (λ k. members_differ n m k p q)
    where
      go : Dec (suc n ≤ m) → (n < m → same_members (tab f m) (tab g m) ≡ false) → same_members (tab f (suc m)) (tab g (suc m)) ≡ false
      go (yes k) r = members_suc m ∙ ap (λ (b : Bool). b && same_member (f m) (g m)) (r k)
      go (no k) r =
          let e : n ≡ m = omega arith in
          members_suc m
          ∙ ap₂ ◌&&◌ (subst (λ (i : ℕ). same_members (tab f i) (tab g i) ≡ true) e p) (subst (λ (i : ℕ). same_member (f i) (g i) ≡ false) e q)

twin_snoc : (bs : List Row) (b a : Row) → twin (bs ++ (b ∷ [])) a ≡ twin bs a || same_row b a
unfolding twin
twin_snoc [] b a = or-false (same_row b a)
  where
    or-false : (x : Bool) → x || false ≡ x
    or-false true = refl
    or-false false = refl
twin_snoc (c ∷ bs) b a = go (same_row c a) (twin_snoc bs b a)
  where
    go : (x : Bool) → twin (bs ++ (b ∷ [])) a ≡ twin bs a || same_row b a → x || twin (bs ++ (b ∷ [])) a ≡ x || twin bs a || same_row b a
    go true r = refl
    go false r = r

module _ (f : ℕ → Row) (a : Row) where
  pub twin_none : twin (tab f zero) a ≡ false
  unfolding tab twin
  twin_none = refl

  twin-suc : (n : ℕ) → twin (tab f (suc n)) a ≡ twin (tab f n) a || same_row (f n) a
  twin-suc n = ap (λ (bs : List Row). twin bs a) (tab-suc f n) ∙ twin_snoc (tab f n) (f n) a

  pub twin_next : (n : ℕ) → twin (tab f n) a ≡ false → same_row (f n) a ≡ false → twin (tab f (suc n)) a ≡ false
  twin_next n p q = twin-suc n ∙ ap₂ ◌||◌ p q

  pub twin_found : (n m : ℕ) → n < m → same_row (f n) a ≡ true → twin (tab f m) a ≡ true
  twin_found n zero h q = absurd (omega arith)
  twin_found n (suc m) h q = go (dec_le (suc n) m) (λ k. twin_found n m k q)
    where
      or-true : (x : Bool) → x || true ≡ true
      or-true true = refl
      or-true false = refl

      go : Dec (suc n ≤ m) → (n < m → twin (tab f m) a ≡ true) → twin (tab f (suc m)) a ≡ true
      go (yes k) r = twin-suc m ∙ ap (λ (x : Bool). x || same_row (f m) a) (r k)
      go (no k) r =
          let e : n ≡ m = omega arith in
          twin-suc m ∙ ap (λ (x : Bool). twin (tab f m) a || x) (subst (λ (i : ℕ). same_row (f i) a ≡ true) e q) ∙ or-true (twin (tab f m) a)

-- two rows of the table, by kind, number of members, and members

and-false : (b : Bool) → (b && false) ≡ false
and-false true = refl
and-false false = refl

module _ (w : List ℕ) (a b : ℕ) where
  pub rows_kind : same_kind (row_in w a).kind (row_in w b).kind ≡ false → same_row (row_in w a) (row_in w b) ≡ false
  rows_kind e = ap (λ (x : Bool). x && same_members (row_in w a).members (row_in w b).members) e

  pub rows_count : (cell w (member_count_address a) ≡ cell w (member_count_address b) → ⊥) → same_row (row_in w a) (row_in w b) ≡ false
  unfolding row_in
  rows_count ne =
      ap (λ (x : Bool). same_kind (row_in w a).kind (row_in w b).kind && x)
      (members_length _ _
      (λ p. ne (sym (length-tab (member_in w a) (cell w (member_count_address a))) ∙ p ∙ length-tab (member_in w b) (cell w (member_count_address b)))))
      ∙ and-false (same_kind (row_in w a).kind (row_in w b).kind)

  pub rows_members : same_kind (row_in w a).kind (row_in w b).kind ≡ true → cell w (member_count_address a) ≡ cell w (member_count_address b)
      → same_row (row_in w a) (row_in w b) ≡ same_members (members_in w a (cell w (member_count_address b))) (members_in w b (cell w (member_count_address b)))
  unfolding row_in
  rows_members e p =
      ap (λ (x : Bool). x && same_members (row_in w a).members (row_in w b).members) e
      ∙ ap (λ (n : ℕ). same_members (members_in w a n) (members_in w b (cell w (member_count_address b)))) p

-- two members that are the same are equal
pub Member-equal : (x y : Member) → same_member x y ≡ true → x ≡ y
Member-equal (Method n a r) (Method m b s) e =
    let t : T (eqb n m && eqb a b && eqb r s) = true→T (eqb n m && eqb a b && eqb r s) e in
    let u : T (eqb n m && eqb a b) = and_left (eqb n m && eqb a b) (eqb r s) t in
    let p : n ≡ m = eqb→eq n m (and_left (eqb n m) (eqb a b) u) in
    let q : a ≡ b = eqb→eq a b (and_right (eqb n m) (eqb a b) u) in
    let v : r ≡ s = eqb→eq r s (and_right (eqb n m && eqb a b) (eqb r s) t) in
    cc
Member-equal (Field n r) (Field m s) e =
    let t : T (eqb n m && eqb r s) = true→T (eqb n m && eqb r s) e in
    let p : n ≡ m = eqb→eq n m (and_left (eqb n m) (eqb r s) t) in
    let v : r ≡ s = eqb→eq r s (and_right (eqb n m) (eqb r s) t) in
    cc
Member-equal (Method n a r) (Field m s) e = absurd (subst T (sym e) tt)
Member-equal (Field n r) (Method m b s) e = absurd (subst T (sym e) tt)
