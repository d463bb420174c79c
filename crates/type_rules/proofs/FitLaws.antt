-- Laws of fit: what the answer means, that fit is reflexive and carries along a chain (no order on rows is used for these),
-- and that it satisfies the paper's rule where rows mention lower ones. Assumes nothing.
use Prim.Native.Nat.{ℕ, zero, suc, ◌+◌, ◌*◌, ◌≤◌, ◌<◌}
use native.Mathlib.Omega.{arith}
use native.Mathlib.Decide.{dec_le}
use mathlib.Core.Path.{◌≡◌, refl, sym, ap, ◌∙◌, subst}
use mathlib.Core.Bool.{Bool, true, false, cond, ◌&&◌, ◌||◌}
use mathlib.Core.List.{List, [], ◌∷◌}
use mathlib.Core.Logic.{◌⊎◌, inl, inr}
use lib.Dec.{T, eqb, eqb→eq, eqb_refl, ltb, ltb→lt}
use lib.ListN.{length, get_or-eq_default}
use Rattle.lists.specs.In.{In, here, there}
use Rattle.lists.proofs.InLaws.{In-nil}
use Rattle.lists.proofs.Tests.{and_left, and_right, and_intro, or_left, or_right, or_cases}
use Rattle.sheet_rules.specs.declared.Kind.{Kind}
use Rattle.sheet_rules.specs.declared.Kind.TheVariants.{Pure, Resource}
use Rattle.sheet_rules.specs.declared.Member.{Member}
use Rattle.sheet_rules.specs.declared.Member.TheVariants.{Method, Field}
use Rattle.sheet_rules.specs.declared.FitAnswer.{FitAnswer}
use Rattle.sheet_rules.specs.declared.FitAnswer.TheVariants.{WrongKind, Unmet}
use Rattle.sheet_rules.specs.Answers.{is_yes}
use Rattle.sheet_rules.specs.Sheet.{Row, no_row, row_at}
use Rattle.sheet_rules.specs.RowLines.{name_of, mentions_below}
use Rattle.sheet_rules.specs.WellFormed.{Mentions, LowerRows}
use Rattle.type_rules.specs.Fit.{kind_fits, matches, has_match, members_answer, row_answer, fit_up_to, depth_of, fit_answer, fits}

-- has_match: some member matches

pub has_match_from : (fit : ℕ → ℕ → Bool) (xs : List Member) (y : Member) {x : Member} → In x xs → T (matches fit x y) → T (has_match fit xs y)
unfolding has_match
has_match_from fit (z ∷ xs) y (here e) t =
    or_left (matches fit z y) (has_match fit xs y) (subst (λ (w : Member). T (matches fit w y)) e t)
has_match_from fit (z ∷ xs) y (there i) t = or_right (matches fit z y) (has_match fit xs y) (has_match_from fit xs y i t)
has_match_from fit [] y x4 t = elim x4 [ ]

pub has_match_at : (fit : ℕ → ℕ → Bool) (xs : List Member) (y : Member) → T (has_match fit xs y) → (x : Member) × In x xs × T (matches fit x y)
unfolding has_match
has_match_at fit [] y t = absurd t
has_match_at fit (z ∷ xs) y t = go (has_match_at fit xs y) (or_cases (matches fit z y) (has_match fit xs y) t)
  where
    go : (T (has_match fit xs y) → (x : Member) × In x xs × T (matches fit x y)) → T (matches fit z y) ⊎ T (has_match fit xs y)
        → (x : Member) × In x (z ∷ xs) × T (matches fit x y)
    go ih (inl u) = (z, here refl, u)
    go ih (inr u) = let r = ih u in (r.0, there r.1, r.2)

-- members_answer: yes exactly when each member has its match

pub members_from : (fit : ℕ → ℕ → Bool) (xs ys : List Member) → ((y : Member) → In y ys → T (has_match fit xs y)) → T (is_yes (members_answer fit xs ys))
unfolding members_answer
members_from fit xs [] h = tt
members_from fit xs (y ∷ ys) h = go (has_match fit xs y) (h y (here refl)) (members_from fit xs ys (λ z i. h z (there i)))
  where
    go : (b : Bool) → T b → T (is_yes (members_answer fit xs ys)) → T (is_yes (cond b (members_answer fit xs ys) (Unmet (name_of y))))
    go true t r = r
    go false t r = absurd t

pub members_at : (fit : ℕ → ℕ → Bool) (xs ys : List Member) → T (is_yes (members_answer fit xs ys)) → (y : Member) → In y ys → T (has_match fit xs y)
unfolding members_answer
members_at fit xs [] t y i = elim i [ ]
members_at fit xs (z ∷ ys) t y i = go (λ u j. members_at fit xs ys u y j) (has_match fit xs z) refl t i
  where
    go : (T (is_yes (members_answer fit xs ys)) → In y ys → T (has_match fit xs y)) → (b : Bool) → has_match fit xs z ≡ b → T (is_yes (cond b (members_answer fit xs ys) (Unmet (name_of z)))) → In y (z ∷ ys) → T (has_match fit xs y)
    go tail true e u (here p) = subst (λ (w : Member). T (has_match fit xs w)) (sym p) (subst T (sym e) tt)
    go tail true e u (there j) = tail u j
    go tail false e u j = absurd u

-- row_answer: yes exactly when the kinds agree and each member has its match

pub row_from : (fit : ℕ → ℕ → Bool) (a b : Row) → T (kind_fits a.kind b.kind)
    → ((y : Member) → In y b.members → T (has_match fit a.members y)) → T (is_yes (row_answer fit a b))
row_from fit a b k h = go (kind_fits a.kind b.kind) k (members_from fit a.members b.members h)
  where
    go : (c : Bool) → T c → T (is_yes (members_answer fit a.members b.members))
        → T (is_yes (cond c (members_answer fit a.members b.members) WrongKind))
    go true k r = r
    go false k r = absurd k

pub row_kind : (fit : ℕ → ℕ → Bool) (a b : Row) → T (is_yes (row_answer fit a b)) → T (kind_fits a.kind b.kind)
row_kind fit a b t = go (kind_fits a.kind b.kind) t
  where
    go : (c : Bool) → T (is_yes (cond c (members_answer fit a.members b.members) WrongKind)) → T c
    go true t = tt
    go false t = t

pub row_member : (fit : ℕ → ℕ → Bool) (a b : Row) → T (is_yes (row_answer fit a b))
    → (y : Member) → In y b.members → T (has_match fit a.members y)
row_member fit a b t = members_at fit a.members b.members (go (kind_fits a.kind b.kind) t)
  where
    go : (c : Bool) → T (is_yes (cond c (members_answer fit a.members b.members) WrongKind))
        → T (is_yes (members_answer fit a.members b.members))
    go true t = t
    go false t = absurd t

-- fit is reflexive, at every depth

kind_refl : (k : Kind) → T (kind_fits k k)
kind_refl Pure = tt
kind_refl Resource = tt

matches_refl : (fit : ℕ → ℕ → Bool) → ((a : ℕ) → T (fit a a)) → (x : Member) → T (matches fit x x)
matches_refl fit r (Method n a b) =
    and_intro (eqb n n && fit a a) (fit b b) (and_intro (eqb n n) (fit a a) (eqb_refl n) (r a)) (r b)
matches_refl fit r (Field n a) = and_intro (eqb n n) (eqb a a) (eqb_refl n) (eqb_refl a)

pub row_refl : (fit : ℕ → ℕ → Bool) → ((a : ℕ) → T (fit a a)) → (a : Row) → T (is_yes (row_answer fit a a))
row_refl fit r a =
    row_from fit a a (kind_refl a.kind) (λ y i. has_match_from fit a.members y i (matches_refl fit r y))

pub fit_up_to_refl : (rows : List Row) (d a : ℕ) → T (fit_up_to rows d a a)
unfolding fit_up_to
fit_up_to_refl rows zero a = tt
fit_up_to_refl rows (suc d) a = row_refl (fit_up_to rows d) (fit_up_to_refl rows d) (row_at rows a)

-- and carries along a chain

kind_trans : (a b c : Kind) → T (kind_fits a b) → T (kind_fits b c) → T (kind_fits a c)
kind_trans Pure b c s t = tt
kind_trans Resource Pure c s t = absurd s
kind_trans Resource Resource c s t = t

eqb_trans : (a b c : ℕ) → T (eqb a b) → T (eqb b c) → T (eqb a c)
eqb_trans a b c s t = subst (λ (x : ℕ). T (eqb a x)) (eqb→eq b c t) s

-- a test that carries along a chain
abbrev pub Transitive : (ℕ → ℕ → Bool) → Type 0
Transitive fit = (a b c : ℕ) → T (fit a b) → T (fit b c) → T (fit a c)

matches_trans : (fit : ℕ → ℕ → Bool) → Transitive fit → (x y z : Member) → T (matches fit x y) → T (matches fit y z) → T (matches fit x z)
matches_trans fit r (Method n a b) (Method n' a' b') (Method n'' a'' b'') s t =
    and_intro (eqb n n'' && fit a'' a) (fit b b'')
    (and_intro (eqb n n'') (fit a'' a)
    (eqb_trans n n' n'' (and_left (eqb n n') (fit a' a) s1) (and_left (eqb n' n'') (fit a'' a') t1))
    (r a'' a' a (and_right (eqb n' n'') (fit a'' a') t1) (and_right (eqb n n') (fit a' a) s1)))
    (r b b' b'' (and_right (eqb n n' && fit a' a) (fit b b') s) (and_right (eqb n' n'' && fit a'' a') (fit b' b'') t))
  where
    s1 : T (eqb n n' && fit a' a)
    s1 = and_left (eqb n n' && fit a' a) (fit b b') s

    t1 : T (eqb n' n'' && fit a'' a')
    t1 = and_left (eqb n' n'' && fit a'' a') (fit b' b'') t
matches_trans fit r (Field n a) (Field n' a') (Field n'' a'') s t =
    and_intro (eqb n n'') (eqb a a'')
    (eqb_trans n n' n'' (and_left (eqb n n') (eqb a a') s) (and_left (eqb n' n'') (eqb a' a'') t))
    (eqb_trans a a' a'' (and_right (eqb n n') (eqb a a') s) (and_right (eqb n' n'') (eqb a' a'') t))
matches_trans fit r (Method n a b) (Method n' a' b') (Field n'' a'') s t = absurd t
matches_trans fit r (Method n a b) (Field n' a') z s t = absurd s
matches_trans fit r (Field n a) (Method n' a' b') z s t = absurd s
matches_trans fit r (Field n a) (Field n' a') (Method n'' a'' b'') s t = absurd t

pub row_trans : (fit : ℕ → ℕ → Bool) → Transitive fit → (a b c : Row)
    → T (is_yes (row_answer fit a b)) → T (is_yes (row_answer fit b c)) → T (is_yes (row_answer fit a c))
row_trans fit r a b c s t =
    row_from fit a c (kind_trans a.kind b.kind c.kind (row_kind fit a b s) (row_kind fit b c t)) each
  where
    each : (z : Member) → In z c.members → T (has_match fit a.members z)
    each z i =
        let y = has_match_at fit b.members z (row_member fit b c t z i) in
        let x = has_match_at fit a.members y.0 (row_member fit a b s y.0 y.1) in
        has_match_from fit a.members z x.1 (matches_trans fit r x.0 y.0 z x.2 y.2)

pub fit_up_to_trans : (rows : List Row) (d a b c : ℕ) → T (fit_up_to rows d a b) → T (fit_up_to rows d b c) → T (fit_up_to rows d a c)
unfolding fit_up_to
fit_up_to_trans rows zero a b c s t = tt
fit_up_to_trans rows (suc d) a b c s t =
    row_trans (fit_up_to rows d) (λ p q r. fit_up_to_trans rows d p q r) (row_at rows a) (row_at rows b) (row_at rows c) s t

pub fits_refl : (rows : List Row) (a : ℕ) → T (fits rows a a)
unfolding fits fit_answer fit_up_to
fits_refl rows a = fit_up_to_refl rows (suc (depth_of rows)) a

pub fits_trans : (rows : List Row) → Transitive (fits rows)
unfolding fits fit_answer fit_up_to
fits_trans rows a b c s t = fit_up_to_trans rows (suc (depth_of rows)) a b c s t

-- two tests that agree on the rows that members mention give the same answer

-- the tests agree on rows below i and j, either way round
abbrev pub Agree : (f g : ℕ → ℕ → Bool) → ℕ → ℕ → Type 0
Agree f g i j = (m n : ℕ) → m < i → n < j → (f m n ≡ g m n) × (f n m ≡ g n m)

matches-Agree : (f g : ℕ → ℕ → Bool) (i j : ℕ) → Agree f g i j → (x y : Member)
    → T (mentions_below i x) → T (mentions_below j y) → matches f x y ≡ matches g x y
matches-Agree f g i j h (Method n a r) (Method n' a' r') s t =
    ap (λ (b : Bool). eqb n n' && b && f r r') (h a a' (below_left a r i s) (below_left a' r' j t)).1
    ∙ ap (λ (b : Bool). eqb n n' && g a' a && b) (h r r' (below_right a r i s) (below_right a' r' j t)).0
  where
    below_left : (p q k : ℕ) → T (ltb p k && ltb q k) → p < k
    below_left p q k u = ltb→lt p k (and_left (ltb p k) (ltb q k) u)

    below_right : (p q k : ℕ) → T (ltb p k && ltb q k) → q < k
    below_right p q k u = ltb→lt q k (and_right (ltb p k) (ltb q k) u)
matches-Agree f g i j h (Field n r) (Field n' r') s t = refl
matches-Agree f g i j h (Method n a r) (Field n' r') s t = refl
matches-Agree f g i j h (Field n r) (Method n' a' r') s t = refl

has_match-Agree : (f g : ℕ → ℕ → Bool) (i j : ℕ) → Agree f g i j → (xs : List Member) (y : Member)
    → Mentions i xs → T (mentions_below j y) → has_match f xs y ≡ has_match g xs y
unfolding has_match
has_match-Agree f g i j h [] y s t = refl
has_match-Agree f g i j h (x ∷ xs) y s t =
    ap (λ (b : Bool). b || has_match f xs y) (matches-Agree f g i j h x y (s x (here refl)) t)
    ∙ ap (λ (b : Bool). matches g x y || b) (has_match-Agree f g i j h xs y (λ z k. s z (there k)) t)

members_agree : (f g : ℕ → ℕ → Bool) (i j : ℕ) → Agree f g i j → (xs ys : List Member)
    → Mentions i xs → Mentions j ys → members_answer f xs ys ≡ members_answer g xs ys
unfolding members_answer
members_agree f g i j h xs [] s t = refl
members_agree f g i j h xs (y ∷ ys) s t =
    ap (λ (b : Bool). cond b (members_answer f xs ys) (Unmet (name_of y))) (has_match-Agree f g i j h xs y s (t y (here refl)))
    ∙ ap (λ (r : FitAnswer). cond (has_match g xs y) r (Unmet (name_of y))) (members_agree f g i j h xs ys s (λ z k. t z (there k)))

pub row_agree : (f g : ℕ → ℕ → Bool) (i j : ℕ) → Agree f g i j → (a b : Row)
    → Mentions i a.members → Mentions j b.members → row_answer f a b ≡ row_answer g a b
row_agree f g i j h a b s t =
    ap (λ (r : FitAnswer). cond (kind_fits a.kind b.kind) r WrongKind) (members_agree f g i j h a.members b.members s t)

-- where rows mention lower ones, chains longer than both numbers together tell no more

pub fit_up_to_settled : (rows : List Row) → LowerRows rows → (d e a b : ℕ) → a + b < d → a + b < e → fit_up_to rows d a b ≡ fit_up_to rows e a b
unfolding fit_up_to
fit_up_to_settled rows low zero e a b h k = absurd (omega arith)
fit_up_to_settled rows low (suc d) zero a b h k = absurd (omega arith)
fit_up_to_settled rows low (suc d) (suc e) a b h k =
    ap is_yes
    (row_agree (fit_up_to rows d) (fit_up_to rows e) a b
    (λ m n p q. (fit_up_to_settled rows low d e m n (omega arith) (omega arith), fit_up_to_settled rows low d e n m (omega arith) (omega arith)))
    (row_at rows a) (row_at rows b) (low a) (low b))

-- a bound within the sheet on the rows that row a mentions: a itself, or 0 for a number that is not there
bounded : (rows : List Row) → LowerRows rows → (a : ℕ) → (i : ℕ) × (i ≤ length rows) × Mentions i (row_at rows a).members
bounded rows low a = go (dec_le (suc a) (length rows))
  where
    go : Dec (suc a ≤ length rows) → (i : ℕ) × (i ≤ length rows) × Mentions i (row_at rows a).members
    go (yes p) = (a, omega arith, low a)
    go (no p) = (
      zero,
      omega arith,
      λ x k. absurd (In-nil (subst (λ (r : Row). In x r.members) (get_or-eq_default rows no_row (omega arith)) k)),
    )

-- the paper's rule: where rows mention lower ones, the answer for two rows is the rule's with `fits` itself for the rows that
-- their members mention
pub fit_rule : (rows : List Row) → LowerRows rows → (a b : ℕ) → fit_answer rows a b ≡ row_answer (fits rows) (row_at rows a) (row_at rows b)
unfolding fits fit_answer fit_up_to
fit_rule rows low a b =
    let i = bounded rows low a in
    let j = bounded rows low b in
    row_agree (fit_up_to rows (depth_of rows)) (fit_up_to rows (suc (depth_of rows))) i.0 j.0
    (λ m n p q. (same m n (omega arith), same n m (omega arith)))
    (row_at rows a) (row_at rows b) i.2 j.2
  where
    room : (k m n : ℕ) → m < k → n < k → m + n < k * k
    room zero m n p q = absurd (omega arith)
    room (suc k) m n p q = omega arith

    same : (m n : ℕ) → (m < length rows) × (n < length rows) → fit_up_to rows (depth_of rows) m n ≡ fit_up_to rows (suc (depth_of rows)) m n
    same m n h =
        let r : m + n < depth_of rows = room (length rows) m n h.0 h.1 in
        fit_up_to_settled rows low (depth_of rows) (suc (depth_of rows)) m n r (omega arith)
