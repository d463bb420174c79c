-- Bytes put one after another. Assumes nothing.
use Prim.Native.Nat.{ℕ, suc, ◌+◌, ◌*◌, ◌/◌, ◌%◌, ◌≤◌, ◌<◌}
use native.Mathlib.Omega.{arith}
use mathlib.Core.Path.{◌≡◌, refl, sym, ap, ◌∙◌, subst}
use mathlib.Core.List.{List, [], ◌∷◌, ◌++◌, append_assoc, append-nil}
use lib.ListN.{length, get_or, set, take, drop, length-append, length-drop, take-append-drop}
use lib.Seq.{length-take-le, take-length, take-suc, set_split, drop-drop, get_or-drop}
use Rattle.sheet_rules.specs.Lines.{newline, comma, digit0}
use Rattle.lists.specs.PutAt.{begun, put_at}
use Rattle.lists.proofs.PutAtLaws.{put_put}
use Rattle.sheet_rules.specs.Decimals.{decimal, further, line_text}
use Rattle.line_writer.specs.Put.{Put}
use Rattle.sheet_rules.proofs.DecimalLaws.{decimal_one, decimal_more, ten_digits, nine_digits}

-- a byte stored
pub Put-one : {out : List ℕ} {at b : ℕ} → at < length out → Put 1 at (b ∷ []) out (set out at b) (at + 1)
Put-one {out} {at} {b} h =
    record {
      left =
          set_split out at b h
          ∙ (let n : suc at ≡ at + 1 = omega arith in ap (λ (m : ℕ). take at out ++ (b ∷ drop m out)) n)
          ∙ ap (λ (z : List ℕ). take at out ++ (b ∷ z)) (sym (drop-drop 1 at out));
      next = refl;
      few = omega arith;
    }

-- nothing put
pub Put-none : {out : List ℕ} {at : ℕ} → Put 0 at [] out out at
Put-none {out} {at} = record { left = sym (take-append-drop at out); next = omega arith; few = omega arith }

module _ {most at : ℕ} {xs out out₁ : List ℕ} {r : ℕ} (p : Put most at xs out out₁ r) (h : at + most ≤ length out) where
  -- the buffer stays as long as it is
  pub put_size : length out₁ ≡ length out
  put_size =
      ap length p.left
      ∙ length-append (take at out) (begun xs (drop at out))
      ∙ omega (arith, length-take-le at out (omega arith), length-append xs (drop (length xs) (drop at out)), length-drop (length xs) (drop at out), length-drop at out, p.next, p.few)

  -- bytes, and then others
  pub Put-then : {more : ℕ} {ys out₂ : List ℕ} {r₂ : ℕ} → Put more r ys out₁ out₂ r₂ → Put (most + more) at (xs ++ ys) out out₂ r₂
  Put-then {more} {ys} {out₂} {r₂} q =
      record {
        left = q.left ∙ ap (put_at r ys) p.left ∙ put_put at xs ys out r (omega arith) p.next;
        next = omega (arith, q.next, p.next, length-append xs ys);
        few = omega (arith, q.few, p.few);
      }

-- DECIMALS

-- one digit
pub digit_put : (n : ℕ) {at : ℕ} {out out₁ : List ℕ} {r : ℕ} → n < 10 → Put 1 at ((digit0 + n) ∷ []) out out₁ r → Put 10 at (decimal n) out out₁ r
digit_put n {at} {out} h p =
    record {
      left = p.left ∙ ap (λ (xs : List ℕ). put_at at xs out) (sym (decimal_one n h));
      next = p.next ∙ ap (λ (xs : List ℕ). at + length xs) (sym (decimal_one n h));
      few = omega (arith, p.few);
    }

-- the digits of a tenth, and one more
module _ (n : ℕ) {at : ℕ} {out out₁ : List ℕ} {r : ℕ} (small : n < 4294967296) (more : 10 ≤ n) (h : at + 10 ≤ length out) (p : Put 10 at (decimal (n / 10)) out out₁ r) where
  pub last_inside : r < length out₁
  last_inside = omega (arith, p.next, nine_digits n small, put_size p h)

  pub digits_put : {out₂ : List ℕ} {r₂ : ℕ} → Put 1 r ((digit0 + n % 10) ∷ []) out₁ out₂ r₂ → Put 10 at (decimal n) out out₂ r₂
  digits_put {out₂} {r₂} q =
      record {
        left = q.left ∙ ap (put_at r ((digit0 + n % 10) ∷ [])) p.left ∙ put_put at (decimal (n / 10)) ((digit0 + n % 10) ∷ []) out r (omega arith) p.next ∙ ap (λ (xs : List ℕ). put_at at xs out) (sym (decimal_more n more));
        next = next;
        few = omega (arith, next, ten_digits n small);
      }
    where
      next : r₂ ≡ at + length (decimal n)
      next = omega (arith, q.next, p.next, ap length (decimal_more n more), length-append (decimal (n / 10)) ((digit0 + n % 10) ∷ []))

-- A WORD

module _ (word : List ℕ) {out : List ℕ} {at i : ℕ} {out₁ : List ℕ} {r : ℕ} (room : at + length word ≤ length out) (p : Put i at (take i word) out out₁ r) (h : i < length word) where
  pub word_inside : r < length out₁
  word_inside = omega (arith, p.few, put_size p (omega arith))

  pub word_next : {b : ℕ} → b ≡ get_or word i 0 → {out₂ : List ℕ} {r₂ : ℕ} → Put 1 r (b ∷ []) out₁ out₂ r₂ → Put (i + 1) at (take (i + 1) word) out out₂ r₂
  word_next {b} e {out₂} {r₂} q =
      subst (λ (xs : List ℕ). Put (i + 1) at xs out out₂ r₂) (sym more)
      (Put-then p (omega arith) q)
    where
      more : take (i + 1) word ≡ take i word ++ (b ∷ [])
      more =
          (let n : i + 1 ≡ suc i = omega arith in ap (λ (m : ℕ). take m word) n)
          ∙ take-suc word i 0 h
          ∙ ap (λ (x : ℕ). take i word ++ (x ∷ [])) (sym e)

pub word_end : (word : List ℕ) {out : List ℕ} {at i : ℕ} {out₁ : List ℕ} {r : ℕ} → length word ≤ i → i ≤ length word → Put i at (take i word) out out₁ r → Put (length word) at word out out₁ r
word_end word {out} {at} {i} {out₁} {r} l u p =
    let e : i ≡ length word = omega arith in
    subst (λ (xs : List ℕ). Put (length word) at xs out out₁ r) (take-length word) (subst (λ (n : ℕ). Put n at (take n word) out out₁ r) e p)

-- A LINE

module _ {word : List ℕ} (n : ℕ) (ns : List ℕ) {most at : ℕ} {out out₁ out₂ out₃ out₄ : List ℕ} {a b c r : ℕ}
    (p₁ : Put (length word) at word out out₁ a) (p₂ : Put 10 a (decimal n) out₁ out₂ b) (p₃ : Put most b (further ns) out₂ out₃ c) (p₄ : Put 1 c (newline ∷ []) out₃ out₄ r)
    (room : at + (length word + (10 + (most + 1))) ≤ length out) where
  size₁ : length out₁ ≡ length out
  size₁ = put_size p₁ (omega arith)

  size₂ : length out₂ ≡ length out
  size₂ = put_size p₂ (omega (arith, p₁.few, size₁)) ∙ size₁

  pub line_put : Put (length word + (10 + (most + 1))) at (line_text word n ns) out out₄ r
  line_put =
      Put-then p₁ (omega arith) (Put-then p₂ (omega (arith, p₁.few, size₁)) (Put-then p₃ (omega (arith, p₁.few, p₂.few, size₂)) p₄))

-- NUMBERS

-- one number more
further_snoc : (xs : List ℕ) (x : ℕ) → further (xs ++ (x ∷ [])) ≡ further xs ++ (comma ∷ decimal x)
unfolding further
further_snoc [] x = ap (λ (z : List ℕ). comma ∷ z) (append-nil (decimal x))
further_snoc (y ∷ ys) x =
    ap (λ (z : List ℕ). comma ∷ (decimal y ++ z)) (further_snoc ys x)
    ∙ ap (λ (z : List ℕ). comma ∷ z) (sym (append_assoc (decimal y) (further ys) (comma ∷ decimal x)))

pub none_put : {out : List ℕ} {at : ℕ} → Put 0 at (further []) out out at
unfolding further
none_put = Put-none

module _ (numbers : List ℕ) {out : List ℕ} {at : ℕ} (from n i : ℕ) {out₁ : List ℕ} {r : ℕ} (room : at + 11 * n ≤ length out) (there : from + n ≤ length numbers) (p : Put (11 * i) at (further (take i (drop from numbers))) out out₁ r) where
  pub numbers_size : i ≤ n → length out₁ ≡ length out
  numbers_size l = put_size p (omega arith)

  pub numbers_end : n ≤ i → i ≤ n → Put (11 * n) at (further (take n (drop from numbers))) out out₁ r
  numbers_end l u = let e : i ≡ n = omega arith in subst (λ (k : ℕ). Put (11 * k) at (further (take k (drop from numbers))) out out₁ r) e p

  module _ (h : i < n) where
    pub comma_inside : r < length out₁
    comma_inside = omega (arith, p.few, numbers_size (omega arith))

    -- room for a number after the byte before it
    pub number_inside : {b : ℕ} {out₂ : List ℕ} {r₂ : ℕ} → Put 1 r (b ∷ []) out₁ out₂ r₂ → r₂ + 10 ≤ length out₂
    number_inside q = omega (arith, p.few, q.few, numbers_size (omega arith), put_size q (omega (arith, comma_inside)))

    module _ {out₂ : List ℕ} {r₂ : ℕ} (q : Put 1 r (comma ∷ []) out₁ out₂ r₂) where
      pub numbers_next : (x : ℕ) → x ≡ get_or numbers (from + i) 0 → {out₃ : List ℕ} {r₃ : ℕ} → Put 10 r₂ (decimal x) out₂ out₃ r₃ → Put (11 * (i + 1)) at (further (take (i + 1) (drop from numbers))) out out₃ r₃
      numbers_next x e {out₃} {r₃} d =
          let m : 11 * i + (1 + 10) ≡ 11 * (i + 1) = omega arith in
          subst (λ (xs : List ℕ). Put (11 * (i + 1)) at xs out out₃ r₃) (sym more) (subst (λ (k : ℕ). Put k at (further (take i (drop from numbers)) ++ (comma ∷ decimal x)) out out₃ r₃) m all)
        where
          all : Put (11 * i + (1 + 10)) at (further (take i (drop from numbers)) ++ (comma ∷ decimal x)) out out₃ r₃
          all =
              Put-then p (omega arith) (Put-then q (omega (arith, comma_inside)) d)

          more : further (take (i + 1) (drop from numbers)) ≡ further (take i (drop from numbers)) ++ (comma ∷ decimal x)
          more =
              ap further
              ((let k : i + 1 ≡ suc i = omega arith in ap (λ (m : ℕ). take m (drop from numbers)) k)
              ∙ take-suc (drop from numbers) i 0 (omega (arith, length-drop from numbers))
              ∙ ap (λ (y : ℕ). take i (drop from numbers) ++ (y ∷ [])) (get_or-drop from numbers i 0 ∙ sym e))
              ∙ further_snoc (take i (drop from numbers)) x
