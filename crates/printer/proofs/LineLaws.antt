-- The lines of a report, put one after another. Assumes nothing.
use Prim.Native.Nat.{ℕ, ◌+◌, ◌*◌, ◌≤◌}
use native.Mathlib.Omega.{arith}
use mathlib.Core.Path.{◌≡◌, subst}
use mathlib.Core.List.{List, [], ◌∷◌}
use lib.ListN.{length, get_or, take, drop}
use Rattle.sheet_rules.specs.Lines.{newline}
use Rattle.sheet_rules.specs.Keys.{bytes}
use Rattle.machine_rules.specs.Steps.{outcome_number}
use Rattle.machine_rules.specs.declared.RunAnswer.{RunAnswer}
use Rattle.sheet_rules.specs.Decimals.{decimal, further, line_text}
use Rattle.authority_rules.specs.Printed.{verdict_word, line_word, outcome_word, steps_word, value_word, holder_word, verdict_lines, run_lines, holder_line}
use Rattle.line_writer.specs.Put.{Put}
use Rattle.printer.specs.Printed.{entry_count, entry_at}
use Rattle.line_writer.proofs.PutLaws.{put_size, Put-then, line_put}

-- the first two lines
pub verdict_put : (refusal n : ℕ) {out out₁ out₂ : List ℕ} {a r : ℕ} → 35 ≤ length out
    → Put 19 0 (line_text verdict_word refusal []) out out₁ a → Put 16 a (line_text line_word n []) out₁ out₂ r → Put 35 0 (verdict_lines refusal n) out out₂ r
verdict_put refusal n room p q = Put-then p (omega arith) q

-- the run's three
pub run_put : (answer : RunAnswer) {at : ℕ} {out out₁ out₂ out₃ : List ℕ} {a b r : ℕ} → at + 53 ≤ length out → {o : ℕ} → o ≡ outcome_number answer.outcome
    → Put 19 at (line_text outcome_word o []) out out₁ a → Put 17 a (line_text steps_word answer.steps []) out₁ out₂ b → Put 17 b (line_text value_word answer.value []) out₂ out₃ r
    → Put 53 at (run_lines answer) out out₃ r
run_put answer {at} {out} {out₁} {a = a} room e p₁ p₂ p₃ = Put-then first (omega arith) (Put-then p₂ (omega (arith, first.few, put_size first (omega arith))) p₃)
  where
    first : Put 19 at (line_text outcome_word (outcome_number answer.outcome) []) out out₁ a
    first = subst (λ (x : ℕ). Put 19 at (line_text outcome_word x []) out out₁ a) e p₁

-- a holder's
pub holder_put : (numbers : List ℕ) (from : ℕ) {at : ℕ} {out out₁ out₂ out₃ out₄ : List ℕ} {a b c r : ℕ} → at + (18 + 11 * entry_count numbers from) ≤ length out
    → {h n : ℕ} → h ≡ get_or numbers from 0 → n ≡ entry_count numbers from
    → Put 7 at holder_word out out₁ a → Put 10 a (decimal h) out₁ out₂ b → Put (11 * n) b (further (take n (drop (from + 2) numbers))) out₂ out₃ c → Put 1 c (newline ∷ []) out₃ out₄ r
    → Put (18 + 11 * entry_count numbers from) at (holder_line (entry_at numbers from)) out out₄ r
unfolding holder_word bytes
holder_put numbers from {at} {out} {out₁} {out₂} {out₃} {out₄} {a} {b} {c} {r} room eh en p₁ p₂ p₃ p₄ =
    let m : 7 + (10 + (11 * entry_count numbers from + 1)) ≡ 18 + 11 * entry_count numbers from = omega arith in
    subst (λ (k : ℕ). Put k at (holder_line (entry_at numbers from)) out out₄ r) m
    (line_put (get_or numbers from 0) (take (entry_count numbers from) (drop (from + 2) numbers)) p₁
    (subst (λ (x : ℕ). Put 10 a (decimal x) out₁ out₂ b) eh p₂)
    (subst (λ (x : ℕ). Put (11 * x) b (further (take x (drop (from + 2) numbers))) out₂ out₃ c) en p₃)
    p₄ (omega arith))
