-- The walk along two rows of the work buffer, for one direction: a law for each turn and each end; the walk of the code goes in both.
-- Assumes nothing.
use Prim.Native.Nat.{ℕ, zero, suc, ◌+◌, ◌≤◌, ◌<◌}
use native.Mathlib.Omega.{arith}
use native.Mathlib.Numerals.{add-one}
use mathlib.Core.Path.{◌≡◌, refl, sym, ap, ap₂, ◌∙◌, subst}
use mathlib.Core.Bool.{Bool, true, false, cond, ◌&&◌}
use mathlib.Core.List.{List}
use lib.Dec.{T, ltb, ltb→lt}
use lib.ListN.{length, get_or}
use borrow.Author.Tests.{eq-eqb}
use Rattle.lists.proofs.Tests.{and_left, and_right}
use Rattle.sheet_rules.specs.declared.Member.{Member}
use Rattle.sheet_rules.specs.declared.Member.TheVariants.{Method, Field}
use Rattle.sheet_rules.specs.declared.FitAnswer.{FitAnswer}
use Rattle.sheet_rules.specs.declared.FitAnswer.TheVariants.{Unmet}
use Rattle.sheet_rules.specs.Answers.{is_yes}
use Rattle.sheet_rules.specs.Sheet.{no_member}
use Rattle.sheet_rules.specs.RowLines.{name_of, mentions_below}
use Rattle.sheet_rules.specs.WellFormed.{NamesAscend}
use Rattle.type_rules.specs.Fit.{matches}
use Rattle.type_rules.proofs.WalkLaws.{answer_from, walk_met, walk_none, walk_skip, walk_lack, walk_both}
use Rattle.table.specs.Layout.{row_address}
use Rattle.table.specs.View.{cell, member_in, row_in}
use Rattle.table.proofs.RowLaws.{members-length, members-get_or}

-- whether the members of row b from member j on have their matches in row a from member i on
unfoldable pub onward : (ℕ → ℕ → Bool) → List ℕ → ℕ → ℕ → ℕ → ℕ → Bool
onward f w a b i j = is_yes (answer_from f (row_in w a).members (row_in w b).members i j)

-- the turns and ends, at the places of two rows

module _ (f : ℕ → ℕ → Bool) (w : List ℕ) (a b i j : ℕ) where
  abbrev across : List Member
  across = (row_in w a).members

  abbrev down : List Member
  down = (row_in w b).members

  pub onward_met : cell w (row_address b + 1) ≤ j → onward f w a b i j ≡ true
  unfolding onward
  onward_met h = ap is_yes (walk_met f across down i j (omega (arith, members-length w b)))

  pub onward_none : cell w (row_address a + 1) ≤ i → j < cell w (row_address b + 1) → onward f w a b i j ≡ false
  unfolding onward
  onward_none h k = ap is_yes (walk_none f across down i j (omega (arith, members-length w a)) (omega (arith, members-length w b)))

  module _ (p : NamesAscend 0 (row_in w a).members) (q : NamesAscend 0 (row_in w b).members) (h : i < cell w (row_address a + 1)) (k : j < cell w (row_address b + 1)) where
    x_is : get_or across i no_member ≡ member_in w a i
    x_is = members-get_or w a i h

    y_is : get_or down j no_member ≡ member_in w b j
    y_is = members-get_or w b j k

    x_there : i < length across
    x_there = omega (arith, members-length w a)

    y_there : j < length down
    y_there = omega (arith, members-length w b)

    pub onward_skip : name_of (member_in w a i) < name_of (member_in w b j) → onward f w a b i j ≡ onward f w a b (i + 1) j
    unfolding onward
    onward_skip l = ap is_yes (walk_skip f across down i j p q x_there y_there (omega (arith, ap name_of x_is, ap name_of y_is)))

    pub onward_lack : name_of (member_in w b j) < name_of (member_in w a i) → onward f w a b i j ≡ false
    unfolding onward
    onward_lack l = ap is_yes (walk_lack f across down i j p q x_there y_there (omega (arith, ap name_of x_is, ap name_of y_is)))

    pub onward_both : name_of (member_in w a i) ≡ name_of (member_in w b j)
        → onward f w a b i j ≡ (matches f (member_in w a i) (member_in w b j) && onward f w a b (i + 1) (j + 1))
    unfolding onward
    onward_both e =
        ap is_yes (walk_both f across down i j p q x_there y_there (ap name_of x_is ∙ e ∙ sym (ap name_of y_is)))
        ∙ go (matches f (get_or across i no_member) (get_or down j no_member)) (answer_from f across down (i + 1) (j + 1))
        ∙ ap₂ (λ (x y : Member). matches f x y && onward f w a b (i + 1) (j + 1)) x_is y_is
      where
        go : (m : Bool) (t : FitAnswer) → is_yes (cond m t (Unmet (name_of (get_or down j no_member)))) ≡ (m && is_yes t)
        go true t = refl
        go false t = refl

-- a member is its own match where the rows that it mentions fit themselves

own_match : (f : ℕ → ℕ → Bool) (bound : ℕ) → ((a : ℕ) → a < bound → f a a ≡ true) → (x : Member) → T (mentions_below bound x) → matches f x x ≡ true
own_match f bound self (Method n a r) t =
    ap₂ (λ (b c : Bool). b && f a a && c) (eq-eqb n n refl) (self r (ltb→lt r bound (and_right (ltb a bound) (ltb r bound) t)))
    ∙ ap (λ (b : Bool). b && true) (self a (ltb→lt a bound (and_left (ltb a bound) (ltb r bound) t)))
own_match f bound self (Field n r) t = ap₂ (λ (b c : Bool). b && c) (eq-eqb n n refl) (eq-eqb r r refl)

-- so members that are the same in both rows may be passed over
pub onward_alike : (f : ℕ → ℕ → Bool) (w : List ℕ) (a b bound n : ℕ) → ((x : ℕ) → x < bound → f x x ≡ true)
    → NamesAscend 0 (row_in w a).members → NamesAscend 0 (row_in w b).members
    → n ≤ cell w (row_address a + 1) → n ≤ cell w (row_address b + 1)
    → ((t : ℕ) → t < n → member_in w a t ≡ member_in w b t) → ((t : ℕ) → t < n → T (mentions_below bound (member_in w a t)))
    → onward f w a b 0 0 ≡ onward f w a b n n
onward_alike f w a b bound zero self p q h k same lower = refl
onward_alike f w a b bound (suc n) self p q h k same lower =
    onward_alike f w a b bound n self p q (omega arith) (omega arith) (λ t u. same t (omega arith)) (λ t u. lower t (omega arith))
    ∙ onward_both f w a b n n p q h k (ap name_of (same n (omega arith)))
    ∙ ap₂ (λ (t : Bool) (i : ℕ). t && onward f w a b i i)
    (subst (λ (y : Member). matches f (member_in w a n) y ≡ true) (same n (omega arith)) (own_match f bound self (member_in w a n) (lower n (omega arith))))
    (add-one n)
