-- The loop over the entries: what it keeps, a law for its start, for a holder, and for its end. Assumes nothing.
use Prim.Native.Nat.{ℕ, ◌+◌, ◌*◌, ◌-◌, ◌≤◌, ◌<◌}
use native.Mathlib.Omega.{arith}
use mathlib.Core.Path.{◌≡◌, refl, sym, ap, ◌∙◌, subst}
use mathlib.Core.List.{List, [], ◌∷◌, ◌++◌, append_assoc, append-nil}
use lib.ListN.{length, get_or, take, drop, length-append}
use lib.Seq.{get_or-append-add, drop-append-add, take-append_seam}
use Rattle.authority_rules.specs.Report.{Holding}
use Rattle.lists.specs.PutAt.{begun}
use Rattle.authority.specs.Every.{entry_of, entries}
use Rattle.authority.proofs.PutLaws.{entries-append, entries_one}
use Rattle.authority_rules.specs.Printed.{holder_line, holder_lines}
use Rattle.line_writer.specs.Put.{Put}
use Rattle.printer.specs.Printed.{entry_count, entry_at}
use Rattle.line_writer.proofs.PutLaws.{Put-none, put_size, Put-then}

-- an entry's numbers, where the entries before it end
module _ {numbers : List ℕ} (done tail : List ℕ) (x : Holding) (e : numbers ≡ done ++ (entry_of x ++ tail)) where
  here : (n : ℕ) → get_or numbers (length done + n) 0 ≡ get_or (entry_of x ++ tail) n 0
  here n = ap (λ (z : List ℕ). get_or z (length done + n) 0) e ∙ get_or-append-add done (entry_of x ++ tail) n 0

  entry_count_lem : entry_count numbers (length done) ≡ length x.held
  entry_count_lem = here 1

  entry_is : entry_at numbers (length done) ≡ x
  entry_is = λ i. record { holder = holder i; held = held i }
    where
      holder : get_or numbers (length done) 0 ≡ x.holder
      holder = (let n : length done ≡ length done + 0 = omega arith in ap (λ (m : ℕ). get_or numbers m 0) n) ∙ here 0

      held : take (entry_count numbers (length done)) (drop (length done + 2) numbers) ≡ x.held
      held =
          (λ i. take (entry_count_lem i) (drop (length done + 2) (e i)))
          ∙ ap (take (length x.held)) (drop-append-add done (entry_of x ++ tail) 2)
          ∙ take-append_seam x.held tail

-- the holders that are left, where there are any
record Head (rest : List Holding) : Type 0 where
  first : Holding
  more : List Holding
  is : rest ≡ first ∷ more

Head-of : (rest : List Holding) → (length (entries rest) ≡ 0 → ⊥) → Head rest
unfolding entries
Head-of [] h = absurd (h refl)
Head-of (x ∷ xs) h = record { first = x; more = xs; is = refl }

none_left : (rest : List Holding) → length (entries rest) ≡ 0 → rest ≡ []
unfolding entries
none_left [] h = refl
none_left (x ∷ xs) h = absurd (omega (arith, length-append (entry_of x) (entries xs)))

entries-cons : (x : Holding) (xs : List Holding) → entries (x ∷ xs) ≡ entry_of x ++ entries xs
unfolding entries
entries-cons x xs = refl

lines_snoc : (xs : List Holding) (x : Holding) → holder_lines (xs ++ (x ∷ [])) ≡ holder_lines xs ++ holder_line x
unfolding holder_lines
lines_snoc [] x = append-nil (holder_line x)
lines_snoc (y ∷ ys) x = ap (λ (z : List ℕ). holder_line y ++ z) (lines_snoc ys x) ∙ sym (append_assoc (holder_line y) (holder_lines ys) (holder_line x))

-- some holders are printed, and the entries of the others come next
pub record Printing (hs : List Holding) (out : List ℕ) (at : ℕ) (out₁ : List ℕ) (at₁ from : ℕ) : Type 0 where
  pub done : List Holding
  pub rest : List Holding
  pub all : done ++ rest ≡ hs
  pub place : from ≡ length (entries done)
  pub put : Put (11 * from) at (holder_lines done) out out₁ at₁

pub Printing-start : {hs : List Holding} {out : List ℕ} {at : ℕ} → Printing hs out at out at 0
unfolding entries holder_lines
Printing-start {hs} = record { done = []; rest = hs; all = refl; place = refl; put = Put-none }

module _ {hs : List Holding} (numbers₀ : List ℕ) {numbers : List ℕ} (en : numbers ≡ begun (entries hs) numbers₀) {out : List ℕ} {at : ℕ} (room : at + 11 * length (entries hs) ≤ length out) {out₁ : List ℕ} {at₁ from : ℕ}
    (p : Printing hs out at out₁ at₁ from) where
  sum : length (entries p.done) + length (entries p.rest) ≡ length (entries hs)
  sum = sym (length-append (entries p.done) (entries p.rest)) ∙ ap length (sym (entries-append p.done p.rest) ∙ ap entries p.all)

  pub printing_size : length out₁ ≡ length out
  printing_size = put_size p.put (omega (arith, sum, p.place))

  pub from_end : from ≤ length (entries hs)
  from_end = omega (arith, sum, p.place)

  pub printing_end : length (entries hs) ≤ from → Put (11 * from) at (holder_lines hs) out out₁ at₁
  printing_end l =
      let n : length (entries p.rest) ≡ 0 = omega (arith, sum, p.place) in
      subst (λ (xs : List Holding). Put (11 * from) at (holder_lines xs) out out₁ at₁)
      (sym (append-nil p.done) ∙ ap (λ (xs : List Holding). p.done ++ xs) (sym (none_left p.rest n)) ∙ p.all) p.put

  module _ (l : from < length (entries hs)) where
    next : Head p.rest
    next = Head-of p.rest (λ e. omega (arith, sum, p.place, e))

    abbrev tail : List ℕ
    tail = entries next.more ++ drop (length (entries hs)) numbers₀

    split : numbers ≡ entries p.done ++ (entry_of next.first ++ tail)
    split =
        en
        ∙ ap (λ (z : List ℕ). z ++ drop (length (entries hs)) numbers₀)
        (ap entries (sym p.all ∙ ap (λ (xs : List Holding). p.done ++ xs) next.is)
        ∙ entries-append p.done (next.first ∷ next.more)
        ∙ ap (λ (z : List ℕ). entries p.done ++ z) (entries-cons next.first next.more))
        ∙ append_assoc (entries p.done) (entry_of next.first ++ entries next.more) (drop (length (entries hs)) numbers₀)
        ∙ ap (λ (z : List ℕ). entries p.done ++ z) (append_assoc (entry_of next.first) (entries next.more) (drop (length (entries hs)) numbers₀))

    count : entry_count numbers from ≡ length next.first.held
    count = ap (entry_count numbers) p.place ∙ entry_count_lem (entries p.done) tail next.first split

    first : entry_at numbers from ≡ next.first
    first = ap (entry_at numbers) p.place ∙ entry_is (entries p.done) tail next.first split

    -- the entry lies within the entries
    pub entry_within : from + (2 + entry_count numbers from) ≤ length (entries hs)
    entry_within =
        omega (
          arith,
          count,
          p.place,
          sum,
          ap length (ap entries next.is ∙ entries-cons next.first next.more),
          length-append (entry_of next.first) (entries next.more),
        )

    pub entry_inside : from + (2 + entry_count numbers from) ≤ length numbers
    entry_inside = omega (arith, entry_within, ap length en, length-append (entries hs) (drop (length (entries hs)) numbers₀))

    pub line_inside : at₁ + (18 + 11 * entry_count numbers from) ≤ length out₁
    line_inside = omega (arith, entry_within, printing_size, p.put.few)

    module _ {n : ℕ} (e : n ≡ entry_count numbers from) where
      pub entry_less : length (entries hs) - (from + 2 + n) < length (entries hs) - from
      entry_less = omega (arith, entry_within)

      pub Printing-next : {out₂ : List ℕ} {at₂ : ℕ} → Put (18 + 11 * entry_count numbers from) at₁ (holder_line (entry_at numbers from)) out₁ out₂ at₂ → Printing hs out at out₂ at₂ (from + 2 + n)
      Printing-next {out₂} {at₂} q =
          record {
            done = p.done ++ (next.first ∷ []);
            rest = next.more;
            all = append_assoc p.done (next.first ∷ []) next.more ∙ ap (λ (xs : List Holding). p.done ++ xs) (sym next.is) ∙ p.all;
            place =
                omega (
                  arith,
                  e,
                  count,
                  p.place,
                  ap length (entries-append p.done (next.first ∷ [])),
                  length-append (entries p.done) (entries (next.first ∷ [])),
                  ap length (entries_one next.first),
                );
            put = record { left = both.left; next = both.next; few = omega (arith, both.few, e) };
          }
        where
          both : Put (11 * from + (18 + 11 * entry_count numbers from)) at (holder_lines (p.done ++ (next.first ∷ []))) out out₂ at₂
          both =
              subst (λ (xs : List ℕ). Put (11 * from + (18 + 11 * entry_count numbers from)) at xs out out₂ at₂)
              (ap (λ (x : Holding). holder_lines p.done ++ holder_line x) first ∙ sym (lines_snoc p.done next.first))
              (Put-then p.put (omega arith) q)
