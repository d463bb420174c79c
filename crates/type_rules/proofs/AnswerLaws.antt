-- What fit answers is true of the two rows, and no other answer is: kind before names, and of the names without a match the lowest;
-- yes where the row fits. From the rows to the question on a text. Assumes nothing.
use Prim.Native.Nat.{ℕ, suc, ◌≤◌, ◌<◌}
use native.Mathlib.Omega.{arith}
use native.Mathlib.Decide.{dec_le}
use mathlib.Core.Path.{◌≡◌, refl, sym, ap, ◌∙◌, subst}
use mathlib.Core.Bool.{Bool, true, false, cond, ◌&&◌}
use mathlib.Core.List.{List, [], ◌∷◌}
use mathlib.Core.Logic.{◌↔◌}
use lib.Dec.{T, ltb}
use lib.ListN.{length}
use borrow.Author.Tests.{lt-ltb}
use Rattle.lists.specs.In.{In, here, there}
use Rattle.lists.proofs.Tests.{true→T, clash}
use Rattle.sheet_rules.specs.declared.FitAnswer.{FitAnswer}
use Rattle.sheet_rules.specs.declared.FitAnswer.TheVariants.{Yes, WrongKind, Unmet}
use Rattle.sheet_rules.specs.declared.Member.{Member}
use Rattle.sheet_rules.specs.declared.Reason.TheVariants.{NotDefined}
use Rattle.sheet_rules.specs.Answers.{is_yes, turned_away}
use Rattle.sheet_rules.specs.Sheet.{Row, Sheet, row_at}
use Rattle.sheet_rules.specs.RowLines.{name_of}
use Rattle.sheet_rules.specs.Reading.{readable, meaning}
use Rattle.sheet_rules.specs.WellFormed.{NamesAscend, above, WellFormed}
use Rattle.sheet_rules.proofs.ReadingLaws.{readable-WellFormed}
use Rattle.sheet_rules.specs.declared.Refusal.{Refusal}
use Rattle.std.specs.declared.result.Result.{Result}
use Rattle.type_rules.specs.Fit.{kind_fits, has_match, members_answer, row_answer, fit_answer, fits}
use Rattle.type_rules.specs.FitQuestion.{fit_on, fit_reply}
use Rattle.type_rules.specs.Says.{Says, says_yes, says_kind, says_unmet}
use Rattle.type_rules.proofs.FitLaws.{members_at, fit_rule}
use Rattle.std.specs.declared.result.Result.TheVariants.{Ok}

-- THE MEMBERS

pub names_above : {i : ℕ} {ys : List Member} → NamesAscend i ys → {z : Member} → In z ys → i ≤ name_of z
names_above {i} (above h r) (here e) = subst (λ (y : Member). i ≤ name_of y) (sym e) h
names_above (above h r) (there j) = let k = names_above r j in omega arith
names_above (NamesAscend.end {i = i}) {z = z} x4 = elim x4 [ ]

-- the lowest member without a match
pub record Lowest (fit : ℕ → ℕ → Bool) (xs ys : List Member) (n : ℕ) : Type 0 where
  pub member : Member
  pub among : In member ys
  pub named : name_of member ≡ n
  pub unmet : T (has_match fit xs member) → ⊥
  pub lower : (z : Member) → In z ys → name_of z < n → T (has_match fit xs z)

pub lowest : (fit : ℕ → ℕ → Bool) (xs ys : List Member) {i n : ℕ} → NamesAscend i ys → members_answer fit xs ys ≡ Unmet n → Lowest fit xs ys n
unfolding members_answer
lowest fit xs [] a e = clash (cc)
lowest fit xs (y ∷ ys) {n = n} (above h r) e = go (λ q. lowest fit xs ys r q) (has_match fit xs y) refl e
  where
    go : (members_answer fit xs ys ≡ Unmet n → Lowest fit xs ys n) → (b : Bool) → has_match fit xs y ≡ b
        → cond b (members_answer fit xs ys) (Unmet (name_of y)) ≡ Unmet n → Lowest fit xs (y ∷ ys) n
    go later true p q =
        let l = later q in
        record { member = l.member; among = there l.among; named = l.named; unmet = l.unmet; lower = below }
      where
        below : (z : Member) → In z (y ∷ ys) → name_of z < n → T (has_match fit xs z)
        below z (here c) k = subst (λ (x : Member). T (has_match fit xs x)) (sym c) (true→T (has_match fit xs y) p)
        below z (there j) k = (later q).lower z j k
    go later false p q = record { member = y; among = here refl; named = is; unmet = λ t. subst T p t; lower = below }
      where
        is : name_of y ≡ n
        is = cc

        below : (z : Member) → In z (y ∷ ys) → name_of z < n → T (has_match fit xs z)
        below z (here c) k = let d : name_of z ≡ name_of y = ap name_of c in absurd (omega (arith, is))
        below z (there j) k = let d = names_above r j in absurd (omega (arith, is))

pub no_kind : (fit : ℕ → ℕ → Bool) (xs ys : List Member) → members_answer fit xs ys ≡ WrongKind → ⊥
unfolding members_answer
no_kind fit xs [] e = clash (cc)
no_kind fit xs (y ∷ ys) e = go (no_kind fit xs ys) (has_match fit xs y) e
  where
    go : (members_answer fit xs ys ≡ WrongKind → ⊥) → (b : Bool) → cond b (members_answer fit xs ys) (Unmet (name_of y)) ≡ WrongKind → ⊥
    go later true q = later q
    go later false q = clash (cc)

-- THE ROWS

module _ (fit : ℕ → ℕ → Bool) (a b : Row) where
  -- the answer says the truth
  pub row_says : NamesAscend 0 b.members → Says fit a b (row_answer fit a b)
  row_says names = go (kind_fits a.kind b.kind) refl
    where
      answer : FitAnswer
      answer = members_answer fit a.members b.members

      members : T (kind_fits a.kind b.kind) → (x : FitAnswer) → answer ≡ x → Says fit a b x
      members k Yes e = says_yes k (members_at fit a.members b.members (subst (λ (x : FitAnswer). T (is_yes x)) (sym e) tt))
      members k WrongKind e = absurd (no_kind fit a.members b.members e)
      members k (Unmet n) e =
          let l = lowest fit a.members b.members names e in
          says_unmet k l.among l.named l.unmet l.lower

      go : (k : Bool) → kind_fits a.kind b.kind ≡ k → Says fit a b (cond k answer WrongKind)
      go true e = members (true→T _ e) answer refl
      go false e = says_kind (λ t. subst T e t)

  -- and no other does
  pub Says-one : {x y : FitAnswer} → Says fit a b x → Says fit a b y → x ≡ y
  Says-one (says_yes k h) (says_yes l g) = refl
  Says-one (says_yes k h) (says_kind l) = absurd (l k)
  Says-one (says_yes k h) (says_unmet l i e m g) = absurd (m (h _ i))
  Says-one (says_kind k) (says_yes l g) = absurd (k l)
  Says-one (says_kind k) (says_kind l) = refl
  Says-one (says_kind k) (says_unmet l i e m g) = absurd (k l)
  Says-one (says_unmet k i e m h) (says_yes l g) = absurd (m (g _ i))
  Says-one (says_unmet k i e m h) (says_kind l) = absurd (l k)
  Says-one (says_unmet {y = y} {n = p} k i e m h) (says_unmet {y = z} {n = q} l j c o g) = ap Unmet (same (dec_le (suc p) q) (dec_le (suc q) p))
    where
      same : Dec (suc p ≤ q) → Dec (suc q ≤ p) → p ≡ q
      same (yes u) v = absurd (m (g y i (omega (arith, e))))
      same (no u) (yes v) = absurd (o (h z j (omega (arith, c))))
      same (no u) (no v) = omega arith

  -- what it names is a member of row b
  pub unmet_within : {n most : ℕ} → ((y : Member) → In y b.members → name_of y ≤ most) → Says fit a b (Unmet n) → n ≤ most
  unmet_within h (says_unmet {y = y} k i e m g) = let l = h y i in omega (arith, e)

-- THE QUESTION

-- of the rows of a sheet that was read, fit's answer is the one that says the truth
pub answer_exactly : (s : Sheet) → WellFormed s → (a b : ℕ) (x : FitAnswer)
    → (fit_answer s.rows a b ≡ x) ↔ Says (fits s.rows) (row_at s.rows a) (row_at s.rows b) x
answer_exactly s w a b x = (
  λ e. subst (Says (fits s.rows) (row_at s.rows a) (row_at s.rows b)) e says,
  λ t. Says-one (fits s.rows) (row_at s.rows a) (row_at s.rows b) says t,
)
  where
    says : Says (fits s.rows) (row_at s.rows a) (row_at s.rows b) (fit_answer s.rows a b)
    says =
        subst (Says (fits s.rows) (row_at s.rows a) (row_at s.rows b)) (sym (fit_rule s.rows (λ i. (w.rows i).lower) a b))
        (row_says (fits s.rows) (row_at s.rows a) (row_at s.rows b) (w.rows b).names)

-- it is yes exactly where the row fits
pub yes_exactly : (rows : List Row) (a b : ℕ) → (fit_answer rows a b ≡ Yes) ↔ T (fits rows a b)
unfolding fits
yes_exactly rows a b = (λ e. subst (λ (x : FitAnswer). T (is_yes x)) (sym e) tt, back (fit_answer rows a b))
  where
    back : (x : FitAnswer) → T (is_yes x) → x ≡ Yes
    back Yes t = refl
    back WrongKind t = absurd t
    back (Unmet n) t = absurd t

-- one reply has one answer
pub answered : {x y : FitAnswer} → ◌≡◌ {A = Result FitAnswer Refusal} (Ok x) (Ok y) → x ≡ y
answered e = cc

-- and the question on a text answers so, for rows that are there
pub reply_exactly : (text : List ℕ) (s : Sheet) → meaning text ≡ readable s → (a b : ℕ) → a < length s.rows → b < length s.rows → (x : FitAnswer)
    → (fit_reply text a b ≡ Ok x) ↔ Says (fits s.rows) (row_at s.rows a) (row_at s.rows b) x
unfolding fit_reply
reply_exactly text s m a b h k x =
    let both = answer_exactly s (readable-WellFormed text s m) a b x in
    (λ e. both.0 (answered (sym there ∙ e)), λ t. there ∙ ap Ok (both.1 t))
  where
    asked : Bool → Bool → Result FitAnswer Refusal
    asked p q = cond (p && q) (Ok (fit_answer s.rows a b)) (turned_away NotDefined 0)

    there : fit_on (meaning text) a b ≡ Ok (fit_answer s.rows a b)
    there = ap (λ n. fit_on n a b) m ∙ ap (λ p. asked p (ltb b (length s.rows))) (lt-ltb a (length s.rows) h) ∙ ap (asked true) (lt-ltb b (length s.rows) k)
