-- Two answers as one number: each of them, what two numbers both have, and the same turned round. Assumes nothing.
use Prim.Native.Nat.{ℕ, zero, suc, ◌/◌, ◌%◌, ◌≤◌, ◌<◌, min}
use native.Mathlib.Omega.{arith}
use native.Mathlib.Nat.{mod-lt, zero-lt-suc}
use mathlib.Core.Path.{◌≡◌, refl, ap, ◌∙◌}
use mathlib.Core.Bool.{Bool, true, false, ◌&&◌}
use lib.Dec.{eqb}
use lib.Arith.{digits_div, digits_mod}
use lib.Bits.{bit_and, and_step}
use Rattle.fit.specs.Told.{two_bits, first_bit, second_bit}

-- each of two answers

pub first_bit_lem : (a b : Bool) → first_bit (two_bits a b) ≡ a
first_bit_lem true true = refl
first_bit_lem true false = refl
first_bit_lem false true = refl
first_bit_lem false false = refl

pub second_bit_lem : (a b : Bool) → second_bit (two_bits a b) ≡ b
second_bit_lem true true = refl
second_bit_lem true false = refl
second_bit_lem false true = refl
second_bit_lem false false = refl

-- and a number up to 3 is two answers

pub bits_are : (n : ℕ) → n ≤ 3 → n ≡ two_bits (first_bit n) (second_bit n)
bits_are zero h = refl
bits_are (suc zero) h = refl
bits_are (suc (suc zero)) h = refl
bits_are (suc (suc (suc zero))) h = refl
bits_are (suc (suc (suc (suc n)))) h = absurd (omega arith)

-- what two numbers both have

digit_and : (p q : ℕ) → p < 2 → q < 2 → eqb (min p q) 1 ≡ (eqb p 1 && eqb q 1)
digit_and zero zero h k = refl
digit_and zero (suc zero) h k = refl
digit_and (suc zero) zero h k = refl
digit_and (suc zero) (suc zero) h k = refl
digit_and (suc (suc p)) q h k = absurd (omega arith)
digit_and zero (suc (suc q)) h k = absurd (omega arith)
digit_and (suc zero) (suc (suc q)) h k = absurd (omega arith)

min_digit : (x y : ℕ) → min (x % 2) (y % 2) < 2
min_digit x y = let p : x % 2 < 2 = mod-lt x (zero-lt-suc 1) in omega arith

pub first_and : (x y : ℕ) → first_bit (bit_and x y) ≡ (first_bit x && first_bit y)
first_and x y =
    ap (λ (n : ℕ). eqb (n % 2) 1) (and_step x y)
    ∙ ap (λ (n : ℕ). eqb n 1) (digits_mod (bit_and (x / 2) (y / 2)) (min_digit x y))
    ∙ digit_and (x % 2) (y % 2) (mod-lt x (zero-lt-suc 1)) (mod-lt y (zero-lt-suc 1))

pub second_and : (x y : ℕ) → second_bit (bit_and x y) ≡ (second_bit x && second_bit y)
second_and x y =
    ap (λ (n : ℕ). first_bit (n / 2)) (and_step x y)
    ∙ ap first_bit (digits_div (bit_and (x / 2) (y / 2)) (min_digit x y))
    ∙ first_and (x / 2) (y / 2)
