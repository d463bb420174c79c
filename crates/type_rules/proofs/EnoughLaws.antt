-- One walk along two rows is enough: with as many turns as the two have members together it ends, with fit's answer and the count of
-- the rule. From lists of members whose names ascend to the question on a text. Assumes nothing.
use Prim.Native.Nat.{ℕ, zero, suc, ◌+◌, ◌≤◌, ◌<◌}
use native.Mathlib.Omega.{arith}
use native.Mathlib.Decide.{dec_le}
use mathlib.Core.Path.{◌≡◌, refl, sym, ap, ap₂, ◌∙◌}
use mathlib.Core.Bool.{Bool, true, false, cond}
use mathlib.Core.List.{List, [], ◌∷◌}
use mathlib.Core.Logic.{◌↔◌}
use mathlib.Core.Option.{Option, some}
use lib.Dec.{leb, ltb}
use lib.ListN.{length}
use borrow.Author.Tests.{lt-ltb, le-ltb, le-leb, lt-leb}
use Rattle.sheet_rules.specs.declared.FitAnswer.{FitAnswer}
use Rattle.sheet_rules.specs.declared.FitAnswer.TheVariants.{Yes, WrongKind, Unmet}
use Rattle.sheet_rules.specs.declared.Member.{Member}
use Rattle.sheet_rules.specs.declared.Reason.{Reason}
use Rattle.sheet_rules.specs.Sheet.{Row, Sheet, row_at}
use Rattle.sheet_rules.specs.RowLines.{name_of}
use Rattle.sheet_rules.specs.Reading.{Meaning, readable, unreadable, meaning}
use Rattle.sheet_rules.specs.WellFormed.{NamesAscend, end, above, WellFormed}
use Rattle.sheet_rules.proofs.ReadingLaws.{readable-WellFormed}
use Rattle.sheet_rules.specs.declared.Refusal.{Refusal}
use Rattle.std.specs.declared.result.Result.{Result}
use Rattle.type_rules.specs.declared.FitTold.{FitTold}
use Rattle.type_rules.specs.declared.Walk.{Walk}
use Rattle.type_rules.specs.Fit.{kind_fits, matches, has_match, members_answer, row_answer, fit_answer, fits}
use Rattle.type_rules.specs.FitQuestion.{fit_reply, passed_in, passed_on, fit_told, told_refused}
use Rattle.type_rules.specs.Passed.{up_to, last_name, passed}
use Rattle.type_rules.specs.Walk.{ends, walk, turns_of, row_walk}
use Rattle.type_rules.proofs.FitLaws.{fit_rule}
use Rattle.type_rules.proofs.AnswerLaws.{names_above, lowest, no_kind, answer_exactly, reply_exactly, answered}
use Rattle.type_rules.proofs.WalkLaws.{after, answer_skip, answer_lack, answer_both}
use Rattle.std.specs.declared.result.Result.TheVariants.{Ok}
use Rattle.sheet_rules.specs.Answers.{turned_away}

-- THE TURNS

module _ (fit : ℕ → ℕ → Bool) (turns n : ℕ) (x y : Member) (xs ys : List Member) where
  -- a turn, by the answers of its two tests: whether x has the lower name, and whether y has
  choice : Bool → Bool → Option Walk
  choice lower higher =
      cond lower (walk fit turns (suc n) xs (y ∷ ys))
      (cond higher (ends (Unmet (name_of y)) n) (cond (matches fit x y) (walk fit turns (suc n) xs ys) (ends (Unmet (name_of y)) (suc n))))

  chosen : {lower higher : Bool} → ltb (name_of x) (name_of y) ≡ lower → ltb (name_of y) (name_of x) ≡ higher → walk fit (suc turns) n (x ∷ xs) (y ∷ ys) ≡ choice lower higher
  unfolding walk choice
  chosen l h = ap₂ choice l h

  -- x is not asked for
  pub turn_skip : name_of x < name_of y → walk fit (suc turns) n (x ∷ xs) (y ∷ ys) ≡ walk fit turns (suc n) xs (y ∷ ys)
  unfolding choice
  turn_skip l = chosen (lt-ltb (name_of x) (name_of y) l) (le-ltb (name_of y) (name_of x) (omega arith))

  -- y is lacking
  pub turn_lack : name_of y < name_of x → walk fit (suc turns) n (x ∷ xs) (y ∷ ys) ≡ ends (Unmet (name_of y)) n
  unfolding choice
  turn_lack l = chosen (le-ltb (name_of x) (name_of y) (omega arith)) (lt-ltb (name_of y) (name_of x) l)

  -- both have one name
  pub turn_both : name_of x ≡ name_of y
      → walk fit (suc turns) n (x ∷ xs) (y ∷ ys) ≡ cond (matches fit x y) (walk fit turns (suc n) xs ys) (ends (Unmet (name_of y)) (suc n))
  unfolding choice
  turn_both e = chosen (le-ltb (name_of x) (name_of y) (omega arith)) (le-ltb (name_of y) (name_of x) (omega arith))

-- THE COUNT

-- of the members with names up to n: a member that is one adds one; there is none where all names are higher, and one where only the
-- first name is n; they are no more than all members

up_next : (n : ℕ) (x : Member) (xs : List Member) → name_of x ≤ n → up_to n (x ∷ xs) ≡ suc (up_to n xs)
unfolding up_to
up_next n x xs h = ap (λ (b : Bool). cond b 1 0 + up_to n xs) (le-leb (name_of x) n h) ∙ omega arith

up_none : (n : ℕ) {i : ℕ} {xs : List Member} → NamesAscend i xs → n < i → up_to n xs ≡ 0
unfolding up_to
up_none n end l = refl
up_none n (above {x = x} {xs = xs} h r) l =
    ap₂ (λ (b : Bool) (k : ℕ). cond b 1 0 + k) (lt-leb (name_of x) n (omega arith)) (up_none n r (omega arith))

up_one : (n : ℕ) (x : Member) (xs : List Member) {i : ℕ} → NamesAscend i (x ∷ xs) → name_of x ≡ n → up_to n (x ∷ xs) ≡ 1
up_one n x xs p e = up_next n x xs (omega arith) ∙ ap suc (up_none n (after p) (omega arith))

up_most : (n : ℕ) (xs : List Member) → up_to n xs ≤ length xs
unfolding up_to
up_most n [] = omega arith
up_most n (x ∷ xs) = go (leb (name_of x) n) (up_most n xs)
  where
    go : (b : Bool) → up_to n xs ≤ length xs → cond b 1 0 + up_to n xs ≤ suc (length xs)
    go true l = omega arith
    go false l = omega arith

-- no more are passed than row a has
pub passed_most : (x : FitAnswer) (xs ys : List Member) → passed x xs ys ≤ length xs
passed_most Yes xs [] = omega arith
passed_most Yes xs (y ∷ ys) = up_most (last_name y ys) xs
passed_most WrongKind xs ys = omega arith
passed_most (Unmet n) xs ys = up_most n xs

-- the last name is the highest
last_above : (y : Member) (ys : List Member) {j : ℕ} → NamesAscend j (y ∷ ys) → name_of y ≤ last_name y ys
unfolding last_name
last_above y [] q = omega arith
last_above y (z ∷ ys) (above h (above k r)) = let l = last_above z ys (above k r) in omega arith

module _ (fit : ℕ → ℕ → Bool) (x y : Member) (xs ys : List Member) {j : ℕ} (q : NamesAscend j (y ∷ ys)) (l : name_of x ≤ name_of y) where
  -- a member of row a whose name is not above that of b's next is passed, whatever the answer
  goes_on : (a : FitAnswer) → members_answer fit xs (y ∷ ys) ≡ a → passed a (x ∷ xs) (y ∷ ys) ≡ suc (passed a xs (y ∷ ys))
  goes_on Yes e = let k = last_above y ys q in up_next (last_name y ys) x xs (omega arith)
  goes_on WrongKind e = absurd (no_kind fit xs (y ∷ ys) e)
  goes_on (Unmet n) e =
      let low = lowest fit xs (y ∷ ys) q e in
      let k = names_above (above {i = name_of y} {x = y} (omega arith) (after q)) low.among in
      up_next n x xs (omega (arith, low.named))

-- the same where b's next has that very name and is passed too
goes_on_both : (fit : ℕ → ℕ → Bool) (x y : Member) (xs ys : List Member) {i j : ℕ} → NamesAscend i (x ∷ xs) → NamesAscend j (y ∷ ys) → name_of x ≡ name_of y
    → passed (members_answer fit xs ys) (x ∷ xs) (y ∷ ys) ≡ suc (passed (members_answer fit xs ys) xs ys)
unfolding members_answer last_name
goes_on_both fit x y xs [] p q e = up_one (name_of y) x xs p e
goes_on_both fit x y xs (z ∷ ys) p (above h (above k r)) e = same a ∙ goes_on fit x z xs ys (above k r) (omega arith) a refl
  where
    a : FitAnswer
    a = members_answer fit xs (z ∷ ys)

    same : (b : FitAnswer) → passed b (x ∷ xs) (y ∷ z ∷ ys) ≡ passed b (x ∷ xs) (z ∷ ys)
    same Yes = refl
    same WrongKind = refl
    same (Unmet n) = refl

-- THE WALK

-- where it ends, n members passed before: with the rule's answer and count
abbrev told : (ℕ → ℕ → Bool) → ℕ → List Member → List Member → Option Walk
told fit n xs ys = ends (members_answer fit xs ys) (n + passed (members_answer fit xs ys) xs ys)

module _ (fit : ℕ → ℕ → Bool) (turns n : ℕ) (x y : Member) (xs ys : List Member) {i j : ℕ} (p : NamesAscend i (x ∷ xs)) (q : NamesAscend j (y ∷ ys)) where
  -- the rule's end, for any answer
  ended : FitAnswer → Option Walk
  ended a = ends a (n + passed a (x ∷ xs) (y ∷ ys))

  enough_skip : walk fit turns (suc n) xs (y ∷ ys) ≡ told fit (suc n) xs (y ∷ ys) → name_of x < name_of y
      → walk fit (suc turns) n (x ∷ xs) (y ∷ ys) ≡ told fit n (x ∷ xs) (y ∷ ys)
  unfolding ended
  enough_skip later l =
      let a = members_answer fit xs (y ∷ ys) in
      turn_skip fit turns n x y xs ys l ∙ later
      ∙ ap (ends a) (omega (arith, goes_on fit x y xs ys q (omega arith) a refl))
      ∙ ap ended (sym (answer_skip fit p q l))

  enough_lack : name_of y < name_of x → walk fit (suc turns) n (x ∷ xs) (y ∷ ys) ≡ told fit n (x ∷ xs) (y ∷ ys)
  unfolding ended
  enough_lack l =
      turn_lack fit turns n x y xs ys l
      ∙ ap (ends (Unmet (name_of y))) (omega (arith, up_none (name_of y) (above {i = name_of x} {x = x} (omega arith) (after p)) l))
      ∙ ap ended (sym (answer_lack fit p q l))

  enough_both : walk fit turns (suc n) xs ys ≡ told fit (suc n) xs ys → name_of x ≡ name_of y → walk fit (suc turns) n (x ∷ xs) (y ∷ ys) ≡ told fit n (x ∷ xs) (y ∷ ys)
  unfolding ended
  enough_both later e = turn_both fit turns n x y xs ys e ∙ go (matches fit x y) ∙ ap ended (sym (answer_both fit p q e))
    where
      a : FitAnswer
      a = members_answer fit xs ys

      go : (b : Bool) → cond b (walk fit turns (suc n) xs ys) (ends (Unmet (name_of y)) (suc n)) ≡ ended (cond b a (Unmet (name_of y)))
      go true = later ∙ ap (ends a) (omega (arith, goes_on_both fit x y xs ys p q e))
      go false = ap (ends (Unmet (name_of y))) (omega (arith, up_one (name_of y) x xs p e))

  enough_turn : walk fit turns (suc n) xs (y ∷ ys) ≡ told fit (suc n) xs (y ∷ ys) → walk fit turns (suc n) xs ys ≡ told fit (suc n) xs ys
      → walk fit (suc turns) n (x ∷ xs) (y ∷ ys) ≡ told fit n (x ∷ xs) (y ∷ ys)
  enough_turn skip both = go (dec_le (suc (name_of x)) (name_of y)) (dec_le (suc (name_of y)) (name_of x))
    where
      go : Dec (suc (name_of x) ≤ name_of y) → Dec (suc (name_of y) ≤ name_of x) → walk fit (suc turns) n (x ∷ xs) (y ∷ ys) ≡ told fit n (x ∷ xs) (y ∷ ys)
      go (yes l) d = enough_skip skip l
      go (no l) (yes h) = enough_lack h
      go (no l) (no h) = enough_both both (omega arith)

-- along two lists of members whose names ascend, as many turns as both have members are enough, and more change nothing
pub walk_enough : (fit : ℕ → ℕ → Bool) (turns n : ℕ) (xs ys : List Member) {i j : ℕ} → NamesAscend i xs → NamesAscend j ys → length xs + length ys ≤ turns
    → walk fit turns n xs ys ≡ ends (members_answer fit xs ys) (n + passed (members_answer fit xs ys) xs ys)
unfolding walk members_answer has_match up_to
walk_enough fit turns n xs [] p q h = ap (ends Yes) (omega arith)
walk_enough fit zero n xs (y ∷ ys) p q h = absurd (omega arith)
walk_enough fit (suc turns) n [] (y ∷ ys) p q h = ap (ends (Unmet (name_of y))) (omega arith)
walk_enough fit (suc turns) n (x ∷ xs) (y ∷ ys) p q h =
    enough_turn fit turns n x y xs ys p q (walk_enough fit turns (suc n) xs (y ∷ ys) (after p) q (omega arith))
    (walk_enough fit turns (suc n) xs ys (after p) (after q) (omega arith))

-- THE ROWS AND THE QUESTION

-- along two rows whose names ascend
pub row_enough : (fit : ℕ → ℕ → Bool) (turns : ℕ) (a b : Row) → NamesAscend 0 a.members → NamesAscend 0 b.members → turns_of a b ≤ turns
    → row_walk fit turns a b ≡ ends (row_answer fit a b) (passed (row_answer fit a b) a.members b.members)
row_enough fit turns a b p q h = go (kind_fits a.kind b.kind)
  where
    x : FitAnswer
    x = members_answer fit a.members b.members

    ended_at : FitAnswer → Option Walk
    ended_at y = ends y (passed y a.members b.members)

    go : (k : Bool) → cond k (walk fit turns 0 a.members b.members) (ends WrongKind 0) ≡ ended_at (cond k x WrongKind)
    go true = walk_enough fit turns 0 a.members b.members p q h ∙ ap (ends x) (omega arith)
    go false = refl

-- of the rows of a sheet that was read, fit's own answer
pub sheet_enough : (s : Sheet) → WellFormed s → (a b turns : ℕ) → turns_of (row_at s.rows a) (row_at s.rows b) ≤ turns
    → row_walk (fits s.rows) turns (row_at s.rows a) (row_at s.rows b) ≡ ends (fit_answer s.rows a b) (passed_in s a b (Ok (fit_answer s.rows a b)))
sheet_enough s w a b turns h =
    row_enough (fits s.rows) turns (row_at s.rows a) (row_at s.rows b) (w.rows a).names (w.rows b).names h
    ∙ ap (λ (x : FitAnswer). ends x (passed_in s a b (Ok x))) (sym (fit_rule s.rows (λ i. (w.rows i).lower) a b))

-- where the question is refused, none is passed
pub told_refused_lem : (text : List ℕ) (a b : ℕ) {r : Reason} {n : ℕ} → (fit_told text a b ≡ told_refused r n) ↔ (fit_reply text a b ≡ turned_away r n)
unfolding fit_told
told_refused_lem text a b {r} {n} = (
  λ e. ap (λ (t : FitTold). t.reply) e,
  λ e. ap (λ (t : Result FitAnswer Refusal). record { reply = t; passed = passed_on (meaning text) a b t }) e ∙ ap (λ (k : ℕ). record { reply = turned_away r n; passed = k }) (go (meaning text)),
)
  where
    go : (m : Meaning) → passed_on m a b (turned_away r n) ≡ 0
    go (readable s) = refl
    go (unreadable q l) = refl

-- the question on a text tells where that walk ends, for rows that are there
pub told_exactly : (text : List ℕ) (s : Sheet) → meaning text ≡ readable s → (a b : ℕ) → a < length s.rows → b < length s.rows
    → (turns : ℕ) → turns_of (row_at s.rows a) (row_at s.rows b) ≤ turns → (x : FitAnswer) (n : ℕ)
    → (fit_told text a b ≡ record { reply = Ok x; passed = n }) ↔ (row_walk (fits s.rows) turns (row_at s.rows a) (row_at s.rows b) ≡ ends x n)
unfolding fit_told
told_exactly text s m a b h k turns l x n = (
  λ e. walked ∙ ap₂ ends (answered (ap (λ (t : FitTold). t.reply) (sym here ∙ e))) (ap (λ (t : FitTold). t.passed) (sym here ∙ e)),
  λ e. let w = same (sym walked ∙ e) in here ∙ ap₂ replied (ap (λ (t : Walk). t.answer) w) (ap (λ (t : Walk). t.passed) w),
)
  where
    y : FitAnswer
    y = fit_answer s.rows a b

    well : WellFormed s
    well = readable-WellFormed text s m

    replied : FitAnswer → ℕ → FitTold
    replied z p = record { reply = Ok z; passed = p }

    there : fit_reply text a b ≡ Ok y
    there = (reply_exactly text s m a b h k y).1 ((answer_exactly s well a b y).0 refl)

    here : fit_told text a b ≡ replied y (passed_in s a b (Ok y))
    here = ap₂ (λ (r : Result FitAnswer Refusal) (t : Meaning). record { reply = r; passed = passed_on t a b r }) there m

    walked : row_walk (fits s.rows) turns (row_at s.rows a) (row_at s.rows b) ≡ ends y (passed_in s a b (Ok y))
    walked = sheet_enough s well a b turns l

    same : {p q : Walk} → some p ≡ some q → p ≡ q
    same e = cc
