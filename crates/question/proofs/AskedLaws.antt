-- What a question that is asked by `ask` or `ask_into` promises. Assumes nothing.
use Rattle.std.proofs.Common.{ℕ, ◌+◌, ◌<◌, ◌≤◌, ◌≡◌, refl, sym, ap, ◌∙◌, subst, arith, ◌-◌, leb, ◌&&◌, Bool, true, false, cond, List, ◌++◌, length, drop, replicate, length-drop, get_or-drop, ext_get_or, MutBor}
use Rattle.std.proofs.lemmas.Bool.{le-leb, lt-leb}
use native.Mathlib.Decide.{dec_le}
use Rattle.std.specs.Fn.{Once, FnOnceReturnsAtMut}
use Rattle.lists.specs.PutAt.{begun}
use Rattle.table.specs.Layout.{work_size}
use Rattle.table.specs.Only.{Only}
use Rattle.question.specs.Cleared.{cleared}
use Rattle.question.specs.Asked.{Told, enough, Asked, ToldAlone, AskedAlone, AnswersInto}

-- what stood in a work buffer has no influence on what it is once cleared
pub cleared_same : (w w' : List ℕ) → Only 0 work_size w w' → cleared w' ≡ cleared w
unfolding cleared
cleared_same w w' o =
    let same : drop work_size w' ≡ drop work_size w =
    ext_get_or 0 _ _ (length-drop work_size w' ∙ ap (λ n. n - work_size) o.size ∙ sym (length-drop work_size w))
    (λ i k. get_or-drop work_size w' i 0 ∙ o.above (work_size + i) (omega arith) ∙ sym (get_or-drop work_size w i 0)) in
    ap (λ (t : List ℕ). replicate work_size 0 ++ t) same

-- the promise, by what was asked
module _ {A B : Type 0} {size : ℕ} {reply short : A} {output : List B} {w : List ℕ} {result : List B} {w' : List ℕ} {result' : List B} {r : A} where
  pub turned : enough size w result ≡ false → (r ≡ short) × (w' ≡ w) × (result' ≡ result) → Asked size reply short output w result w' result' r
  turned e t =
      record {
        told = t.0 ∙ sym (ap (λ (x : Bool). cond x reply short) e);
        written = t.2 ∙ sym (ap (λ (x : Bool). cond x (begun output result) result) e);
        left = t.1 ∙ sym (ap (λ (x : Bool). cond x (cleared w) w) e);
      }

  pub answered : enough size w result ≡ true → {w₁ : List ℕ} → Told reply output w result w₁ result' r → w' ≡ cleared w₁ → Asked size reply short output w result w' result' r
  answered e {w₁} t c =
      record {
        told = t.same ∙ sym (ap (λ (x : Bool). cond x reply short) e);
        written = t.written ∙ sym (ap (λ (x : Bool). cond x (begun output result) result) e);
        left = c ∙ cleared_same w w₁ t.only ∙ sym (ap (λ (x : Bool). cond x (cleared w) w) e);
      }

-- with a result buffer
module _ {F A : Type 0} {g : Once F (MutBor (List ℕ) × (MutBor (List ℕ) × Unit {0})) (A × (MutBor (List ℕ) × (MutBor (List ℕ) × Unit {0})))} {f : F} {size : ℕ} {reply given short : A} {output w result w' result' : List ℕ} {r : A} where
  pub asked_into : given ≡ short → (enough size w result ≡ false → (r ≡ given) × (w' ≡ w) × (result' ≡ result))
      → (enough size w result ≡ true → (w₁ : List ℕ) × AnswersInto g f w result r w₁ result' × (w' ≡ cleared w₁))
      → ((b c b' c' : MutBor (List ℕ)) (x : A) → g.post f (b, (c, tt)) (x, (b', (c', tt))) → Told reply output b.now c.now b'.now c'.now x)
      → Asked size reply short output w result w' result' r
  asked_into s less told each = go (enough size w result) refl
    where
      go : (b : Bool) → enough size w result ≡ b → Asked size reply short output w result w' result' r
      go true e =
          let t = told e in
          let a = t.1 in
          let h : Told reply output a.lent.0.now a.lent.1.now a.left.0.now a.left.1.now r = each a.lent.0 a.lent.1 a.left.0 a.left.1 r a.met in
          answered e (subst (λ x. Told reply output x result t.0 result' r) a.lends.0 (subst (λ x. Told reply output a.lent.0.now x t.0 result' r) a.lends.1
          (subst (λ x. Told reply output a.lent.0.now a.lent.1.now x result' r) a.leaves.0 (subst (λ x. Told reply output a.lent.0.now a.lent.1.now a.left.0.now x r) a.leaves.1 h)))) t.2
      go false e = let l = less e in turned e (l.0 ∙ s, l.1, l.2)

-- and without one
module _ {F A : Type 0} {g : Once F (MutBor (List ℕ) × Unit {0}) (A × (MutBor (List ℕ) × Unit {0}))} {f : F} {reply given short : A} {w w' : List ℕ} {r : A} where
  pub asked_alone : given ≡ short → (length w < work_size → (r ≡ given) × (w' ≡ w))
      → (work_size ≤ length w → (w₁ : List ℕ) × FnOnceReturnsAtMut g f w r w₁ × (w' ≡ cleared w₁))
      → ((b b' : MutBor (List ℕ)) (x : A) → g.post f (b, tt) (x, (b', tt)) → ToldAlone reply b.now b'.now x)
      → AskedAlone reply short w w' r
  asked_alone s less told each = go (dec_le work_size (length w))
    where
      go : Dec (work_size ≤ length w) → AskedAlone reply short w w' r
      go (yes h) =
          let t = told h in
          let a = t.1 in
          answered (ap (λ b. b && leb 0 0) (le-leb work_size (length w) h))
          (subst (λ x. ToldAlone reply x t.0 r) a.shows (subst (λ x. ToldAlone reply a.shown.now x r) a.leaves (each a.shown a.left r a.met))) t.2
      go (no h) =
          let l : length w < work_size = omega (arith, h) in
          let t = less l in
          turned (ap (λ b. b && leb 0 0) (lt-leb work_size (length w) l)) (t.0 ∙ s, t.1, refl)

-- the same reply in other words
pub Asked-as : {A A' B : Type 0} (f : A → A') {size : ℕ} {reply short : A} {output : List B} {w : List ℕ} {result : List B} {w' : List ℕ} {result' : List B} {r : A} {x : A'}
    → Asked size reply short output w result w' result' r → x ≡ f r → Asked size (f reply) (f short) output w result w' result' x
Asked-as f {size} {reply} {short} {w = w} {result = result} k e =
    record { told = e ∙ ap f k.told ∙ go (enough size w result); written = k.written; left = k.left }
  where
    go : (b : Bool) → f (cond b reply short) ≡ cond b (f reply) (f short)
    go true = refl
    go false = refl
