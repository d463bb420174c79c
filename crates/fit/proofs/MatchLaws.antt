-- What two members of one name, and two rows, say of each other in both directions: a law for each exit. Assumes nothing.
use Prim.Native.Nat.{ℕ, ◌+◌, ◌≤◌, ◌<◌}
use native.Mathlib.Omega.{arith}
use mathlib.Core.Path.{◌≡◌, refl, sym, ap, ap₂, ◌∙◌, subst}
use mathlib.Core.Bool.{Bool, true, false, cond, ◌&&◌}
use mathlib.Core.List.{List}
use lib.Dec.{T}
use lib.ListN.{length, get_or}
use lib.Bits.{bit_and}
use borrow.Author.Tests.{eq-eqb}
use Rattle.lists.proofs.InLaws.{In-get_or}
use Rattle.sheet_rules.specs.declared.Member.{Member}
use Rattle.sheet_rules.specs.declared.Member.TheVariants.{Method}
use Rattle.sheet_rules.specs.declared.FitAnswer.{FitAnswer}
use Rattle.sheet_rules.specs.declared.FitAnswer.TheVariants.{WrongKind}
use Rattle.sheet_rules.specs.Answers.{is_yes}
use Rattle.sheet_rules.specs.Sheet.{no_member}
use Rattle.sheet_rules.specs.RowLines.{name_of, mentions_below}
use Rattle.sheet_rules.specs.WellFormed.{WellFormedRow}
use Rattle.type_rules.specs.Fit.{kind_fits, matches, members_answer}
use Rattle.type_rules.proofs.AgreeLaws.{mentions_more}
use Rattle.table.specs.Layout.{row_address, fit_address}
use Rattle.table.specs.View.{cell, member_in, row_in}
use Rattle.table.proofs.RowLaws.{members-length, members-get_or}
use Rattle.fit.specs.Told.{two_bits, first_bit, second_bit, tells, tells_back, BothMatch, Walked, rule_tells, rule_tells_back}
use Rattle.fit.proofs.BitLaws.{first_bit_lem, second_bit_lem, bits_are, first_and, second_and}

-- what the members of a row that was read give: there are at most eight, and they mention rows that the table has

module _ (w : List ℕ) (i : ℕ) (f : WellFormedRow i (row_in w i)) where
  pub few_members : cell w (row_address i + 1) ≤ 8
  few_members = let e : length (row_in w i).members ≡ cell w (row_address i + 1) = members-length w i in let h = f.few in omega arith

  pub member_mentions : (j : ℕ) → j < cell w (row_address i + 1) → T (mentions_below i (member_in w i j))
  member_mentions j k =
      subst (λ (x : Member). T (mentions_below i x)) (members-get_or w i j k)
      (f.lower (get_or (row_in w i).members j no_member)
      (In-get_or (row_in w i).members j no_member (let e : length (row_in w i).members ≡ cell w (row_address i + 1) = members-length w i in omega arith)))

  pub small_mentions : (j : ℕ) → i < 64 → j < cell w (row_address i + 1) → T (mentions_below 64 (member_in w i j))
  small_mentions j h k = mentions_more i 64 (omega arith) (member_in w i j) (member_mentions j k)

-- two methods

module _ (w : List ℕ) (x y : Member) (named : name_of x ≡ name_of y) where
  pub methods_both : (n a r n' a' r' c d : ℕ) → x ≡ Method n a r → y ≡ Method n' a' r'
      → c ≡ cell w (fit_address a' a) → d ≡ cell w (fit_address r r') → BothMatch w x y (bit_and c d)
  methods_both n a r n' a' r' c d p q g h =
      record {
        first =
            first_and c d
            ∙ ap₂ (λ (u v : ℕ). first_bit u && first_bit v) g h
            ∙ sym (ap₂ (matches (tells w)) p q ∙ ap (λ (b : Bool). b && tells w a' a && tells w r r') (eq-eqb n n' same));
        second =
            second_and c d
            ∙ ap₂ (λ (u v : ℕ). second_bit u && second_bit v) g h
            ∙ sym (ap₂ (matches (tells_back w)) q p ∙ ap (λ (b : Bool). b && tells_back w a a' && tells_back w r' r) (eq-eqb n' n (sym same)));
      }
    where
      same : n ≡ n'
      same = sym (ap name_of p) ∙ named ∙ ap name_of q

-- what the walk leaves of what the kinds allow is the rule's word

kinds_first : (b : Bool) (t : FitAnswer) → (b && is_yes t) ≡ is_yes (cond b t WrongKind)
kinds_first true t = refl
kinds_first false t = refl

said_is : (t : FitAnswer) (b : Bool) {x l : Bool} → l ≡ (x && is_yes t) → x ≡ b → l ≡ is_yes (cond b t WrongKind)
said_is t b e h = e ∙ ap (λ (y : Bool). y && is_yes t) h ∙ kinds_first b t

module _ {w : List ℕ} {m k kinds said : ℕ}
    (e : kinds ≡ two_bits (kind_fits (row_in w m).kind (row_in w k).kind) (kind_fits (row_in w k).kind (row_in w m).kind))
    (r : Walked w m k kinds said) where
  first_said : first_bit said ≡ rule_tells w m k
  first_said =
      said_is (members_answer (tells w) (row_in w m).members (row_in w k).members) (kind_fits (row_in w m).kind (row_in w k).kind) r.first
      (ap first_bit e ∙ first_bit_lem (kind_fits (row_in w m).kind (row_in w k).kind) (kind_fits (row_in w k).kind (row_in w m).kind))

  second_said : second_bit said ≡ rule_tells_back w m k
  second_said =
      said_is (members_answer (tells_back w) (row_in w k).members (row_in w m).members) (kind_fits (row_in w k).kind (row_in w m).kind) r.second
      (ap second_bit e ∙ second_bit_lem (kind_fits (row_in w m).kind (row_in w k).kind) (kind_fits (row_in w k).kind (row_in w m).kind))

  bits_small : (a b : Bool) → two_bits a b ≤ 3
  bits_small true true = omega arith
  bits_small true false = omega arith
  bits_small false true = omega arith
  bits_small false false = omega arith

  pub said_small : said ≤ 3
  said_small = let h = r.within in let l = bits_small (kind_fits (row_in w m).kind (row_in w k).kind) (kind_fits (row_in w k).kind (row_in w m).kind) in omega (arith, e)

  pub pair_said : said ≡ two_bits (rule_tells w m k) (rule_tells_back w m k)
  pair_said = bits_are said said_small ∙ ap₂ two_bits first_said second_said

  pub pair_turned : {t : ℕ} → t ≡ two_bits (second_bit said) (first_bit said) → t ≡ two_bits (rule_tells_back w m k) (rule_tells w m k)
  pair_turned h = h ∙ ap₂ two_bits second_said first_said
