-- Look-ups in rows whose names ascend, and through fit: what fits a row with a method has that method. Assumes nothing.
use Prim.Native.Nat.{ℕ, suc, ◌≤◌}
use native.Mathlib.Omega.{arith}
use mathlib.Core.Path.{◌≡◌, refl, sym, ap, ◌∙◌, subst}
use mathlib.Core.Bool.{Bool, true, false, cond, ◌&&◌}
use mathlib.Core.List.{List, [], ◌∷◌}
use mathlib.Core.Option.{some}
use lib.Dec.{T, eqb, eqb→eq}
use borrow.Author.Tests.{eqb-true, eq-eqb, ne_eqb}
use Rattle.lists.specs.In.{In, here, there}
use Rattle.lists.proofs.Tests.{and_left, and_right, clash}
use Rattle.sheet_rules.specs.declared.Kind.{Kind}
use Rattle.sheet_rules.specs.declared.Kind.TheVariants.{Pure, Resource}
use Rattle.sheet_rules.specs.declared.Member.{Member}
use Rattle.sheet_rules.specs.declared.Member.TheVariants.{Method, Field}
use Rattle.sheet_rules.specs.Answers.{is_yes}
use Rattle.sheet_rules.specs.Sheet.{Sheet, row_at}
use Rattle.sheet_rules.specs.RowLines.{name_of}
use Rattle.sheet_rules.specs.WellFormed.{NamesAscend, above, WellFormed}
use Rattle.type_rules.specs.Fit.{kind_fits, matches, row_answer, fits}
use Rattle.type_rules.specs.SlotRows.{Signature, method_in, members_at}
use Rattle.type_rules.specs.Typing.{is_pure}
use Rattle.type_rules.proofs.FitLaws.{has_match_at, row_kind, row_member, fit_rule}

-- LOOK-UPS

abbrev signature : ℕ → ℕ → Signature
signature a r = record { argument = a; result = r }

-- the method that a look-up finds is a member
method_in-In : (xs : List Member) (n : ℕ) (m : Signature) → method_in xs n ≡ some m → In (Method n m.argument m.result) xs
unfolding method_in
method_in-In [] n m e = clash (cc)
method_in-In (Field k r ∷ xs) n m e = there (method_in-In xs n m e)
method_in-In (Method k a r ∷ xs) n m e = go (eqb k n) refl e (method_in-In xs n m)
  where
    go : (b : Bool) → eqb k n ≡ b → cond b (some (signature a r)) (method_in xs n) ≡ some m
        → (method_in xs n ≡ some m → In (Method n m.argument m.result) xs) → In (Method n m.argument m.result) (Method k a r ∷ xs)
    go true p q more =
        let same : k ≡ n = eqb-true k n p in
        let this : signature a r ≡ m = cc in
        here {y = Method k a r} (cc (same, ap (λ (x : Signature). x.argument) this, ap (λ (x : Signature). x.result) this))
    go false p q more = there (more q)

-- names that ascend from i on are at least i
names_from : {i : ℕ} {x : Member} (xs : List Member) → NamesAscend i xs → In x xs → i ≤ name_of x
names_from {i} {x} (y ∷ xs) (above h r) (here e) = subst (λ (z : Member). i ≤ name_of z) (sym e) h
names_from {i} {x} (y ∷ xs) (above h r) (there j) = let k : suc (name_of y) ≤ name_of x = names_from xs r j in omega arith
names_from {i = i} {x = x} [] _ x4 = elim x4 [ ]

-- where names ascend, a method that is a member is the one that the look-up finds
In-method_in : {i : ℕ} (xs : List Member) (n a r : ℕ) → NamesAscend i xs → In (Method n a r) xs → method_in xs n ≡ some (signature a r)
unfolding method_in
In-method_in (Field k b ∷ xs) n a r (above h p) (here e) = clash (cc)
In-method_in (Field k b ∷ xs) n a r (above h p) (there j) = In-method_in xs n a r p j
In-method_in (Method k b c ∷ xs) n a r (above h p) (here e) =
    let same : k ≡ n = cc in
    ap (λ (t : Bool). cond t (some (signature b c)) (method_in xs n)) (eq-eqb k n same) ∙ cc
In-method_in (Method k b c ∷ xs) n a r (above h p) (there j) =
    let up : suc k ≤ n = names_from xs p j in
    ap (λ (t : Bool). cond t (some (signature b c)) (method_in xs n)) (ne_eqb k n (λ e. omega arith)) ∙ In-method_in xs n a r p j
In-method_in {i = i} [] n a r _ x3 = elim x3 [ ]

-- THROUGH FIT

-- method n of a row, found in a row that fits the one where it has signature m
pub record Found (s : Sheet) (a n : ℕ) (m : Signature) : Type 0 where
  pub found : Signature
  pub looked_up : method_in (members_at s a) n ≡ some found
  pub argument_fits : T (fits s.rows m.argument found.argument)
  pub result_fits : T (fits s.rows found.result m.result)

module _ (s : Sheet) (w : WellFormed s) where
  fits_rule : (a b : ℕ) → T (fits s.rows a b) → T (is_yes (row_answer (fits s.rows) (row_at s.rows a) (row_at s.rows b)))
  unfolding fits
  fits_rule a b t = subst (λ x. T (is_yes x)) (fit_rule s.rows (λ c. (w.rows c).lower) a b) t

  -- what fits a pure row is pure
  pub fits_pure : (a b : ℕ) → T (fits s.rows a b) → T (is_pure (row_at s.rows b).kind) → T (is_pure (row_at s.rows a).kind)
  fits_pure a b t u =
      go (row_at s.rows a).kind (row_at s.rows b).kind (row_kind (fits s.rows) (row_at s.rows a) (row_at s.rows b) (fits_rule a b t)) u
    where
      go : (k l : Kind) → T (kind_fits k l) → T (is_pure l) → T (is_pure k)
      go Pure l p q = tt
      go Resource Pure p q = p
      go Resource Resource p q = q

  pub fits_method : (a b n : ℕ) (m : Signature) → T (fits s.rows a b) → method_in (members_at s b) n ≡ some m → Found s a n m
  fits_method a b n m t e =
      let i : In y (members_at s b) = method_in-In (members_at s b) n m e in
      let x = has_match_at (fits s.rows) (members_at s a) y (row_member (fits s.rows) (row_at s.rows a) (row_at s.rows b) (fits_rule a b t) y i) in
      go x.0 x.1 x.2
    where
      y : Member
      y = Method n m.argument m.result

      go : (x : Member) → In x (members_at s a) → T (matches (fits s.rows) x y) → Found s a n m
      go (Field k c) i u = absurd u
      go (Method k c d) i u =
          let v : T (eqb k n && fits s.rows m.argument c) = and_left (eqb k n && fits s.rows m.argument c) (fits s.rows d m.result) u in
          let same : k ≡ n = eqb→eq k n (and_left (eqb k n) (fits s.rows m.argument c) v) in
          record {
            found = signature c d;
            looked_up = In-method_in (members_at s a) n c d (w.rows a).names (subst (λ (j : ℕ). In (Method j c d) (members_at s a)) same i);
            argument_fits = and_right (eqb k n) (fits s.rows m.argument c) v;
            result_fits = and_right (eqb k n && fits s.rows m.argument c) (fits s.rows d m.result) u;
          }
