-- The printed report: what a refusal prints, and what is printed of a run and of every holder. Assumes nothing.
use Prim.Native.Nat.{ℕ, ◌+◌, ◌*◌, ◌-◌, ◌≤◌, ◌<◌}
use native.Mathlib.Omega.{arith}
use mathlib.Core.Path.{◌≡◌, sym, ap, ◌∙◌, subst}
use mathlib.Core.List.{List, ◌++◌}
use lib.ListN.{length}
use Rattle.sheet_rules.specs.Answers.{number_of}
use Rattle.authority_rules.specs.declared.Reported.{Reported}
use Rattle.sheet_rules.specs.declared.Refusal.{Refusal}
use Rattle.std.specs.declared.result.Result.TheVariants.{Ok, Err}
use Rattle.std.specs.declared.result.Result.{Result}
use Rattle.authority_rules.specs.Report.{Holding, Report, reported, report}
use Rattle.table.specs.Layout.{work_size}
use Rattle.lists.specs.PutAt.{begun}
use Rattle.authority.specs.Every.{entries, every_size}
use Rattle.question.specs.Asked.{Asked}
use Rattle.authority_question.specs.Asked.{report_reply, report_numbers}
use Rattle.authority_rules.specs.Printed.{verdict_lines, run_lines, holder_line, holder_lines, printed}
use Rattle.line_writer.specs.Put.{Put}
use Rattle.printer.specs.Printed.{print_size, entry_count, entry_at, ReportPrinted}
use Rattle.line_writer.proofs.PutLaws.{put_size, Put-then}
use Rattle.printer.proofs.ReportLaws.{reply_is, numbers_are, work_is, holdings_in, reported_is, refused_is, holdings_fit}
use Rattle.printer.proofs.HoldersLaws.{Printing, printing_size, from_end, printing_end, entry_within, entry_inside, line_inside, entry_less, Printing-next}

-- what was put is the report's text
module _ (text : List ℕ) (budget : ℕ) {short : Result Reported Refusal} {w numbers out w₁ numbers₁ : List ℕ} {reply : Result Reported Refusal} (h : work_size ≤ length w) (l : every_size ≤ length numbers) (room : print_size ≤ length out)
    (k : Asked every_size (report_reply (report text budget)) short (report_numbers (report text budget)) w numbers w₁ numbers₁ reply) where
  all_printed : {x : Report} → report text budget ≡ x → {most : ℕ} → most ≤ print_size → {out' : List ℕ} {r : ℕ} → Put most 0 (printed x) out out' r → ReportPrinted text budget w numbers out w₁ numbers₁ out' r
  all_printed {x} e m {out'} {r} p =
      record {
        counted = (let n : r ≡ length (printed x) = omega (arith, p.next) in n) ∙ ap (λ (y : Report). length (printed y)) (sym e);
        left = p.left ∙ ap (λ (y : Report). begun (printed y) out) (sym e);
        few = omega (arith, p.few);
        work = work_is text budget short w numbers w₁ numbers₁ reply h l k;
        written = numbers_are text budget short w numbers w₁ numbers₁ reply h l k;
      }

  -- a refusal
  pub refusal_printed : {x : Refusal} → reply ≡ Err x → {o : ℕ} → o ≡ number_of x.reason → {out' : List ℕ} {r : ℕ} → Put 35 0 (verdict_lines o x.line) out out' r → ReportPrinted text budget w numbers out w₁ numbers₁ out' r
  unfolding printed
  refusal_printed {x} e eo {out'} {r} p =
      all_printed (refused_is (report text budget) x.reason x.line (sym e ∙ reply_is text budget short w numbers w₁ numbers₁ reply h l k)) (omega arith)
      (subst (λ (k : ℕ). Put 35 0 (verdict_lines k x.line) out out' r) eo p)

  -- a run, after its lines were put
  module _ {told : Reported} (e : reply ≡ Ok told) {out₁ : List ℕ} {head : ℕ} (p₁ : Put 35 0 (verdict_lines 0 0) out out₁ head) where
    pub run_room : head + 53 ≤ length out₁
    run_room = omega (arith, p₁.few, put_size p₁ (omega arith))

    module _ {out₂ : List ℕ} {at : ℕ} (p₂ : Put 53 head (run_lines told.answer) out₁ out₂ at) where
      abbrev hs : List Holding
      hs = holdings_in (report text budget)

      which : (report text budget ≡ reported told.answer hs) × (told.count ≡ length (entries hs))
      which = reported_is (report text budget) told.answer told.count (sym e ∙ reply_is text budget short w numbers w₁ numbers₁ reply h l k)

      there : numbers₁ ≡ begun (entries hs) numbers
      there = numbers_are text budget short w numbers w₁ numbers₁ reply h l k ∙ ap (λ (x : Report). begun (report_numbers x) numbers) which.0

      few : length (entries hs) ≤ every_size
      few = holdings_fit text budget told.answer hs which.0

      size₂ : length out₂ ≡ length out
      size₂ = put_size p₂ run_room ∙ put_size p₁ (omega arith)

      enough : at + 11 * length (entries hs) ≤ length out₂
      enough = omega (arith, p₁.few, p₂.few, few, size₂)

      module _ {out₃ : List ℕ} {at₃ from : ℕ} (p : Printing hs out₂ at out₃ at₃ from) where
        pub report_size : length out₃ ≡ length out
        report_size = printing_size numbers there enough p ∙ size₂

        pub report_end : told.count ≤ from → ReportPrinted text budget w numbers out w₁ numbers₁ out₃ at₃
        unfolding printed
        report_end l =
            all_printed which.0 {most = 35 + (53 + 11 * every_size)} (omega arith)
            (record { left = whole.left; next = whole.next; few = omega (arith, p₁.few, p₂.few, last.few, few, place) })
          where
            last : Put (11 * from) at (holder_lines hs) out₂ out₃ at₃
            last = printing_end numbers there enough p (omega (arith, which.1))

            whole : Put (35 + (53 + 11 * from)) 0 (verdict_lines 0 0 ++ (run_lines told.answer ++ holder_lines hs)) out out₃ at₃
            whole =
                Put-then p₁ (omega arith) (Put-then p₂ run_room last)

            place : from ≤ length (entries hs)
            place = from_end numbers there enough p

        module _ (less : from < told.count) where
          inside : from < length (entries hs)
          inside = omega (arith, which.1)

          pub holder_asks : (at₃ + (18 + 11 * entry_count numbers₁ from) ≤ length out₃) × (from + (2 + entry_count numbers₁ from) ≤ length numbers₁)
          holder_asks = (
            line_inside numbers there enough p inside,
            entry_inside numbers there enough p inside,
          )

          pub entry_fits : from + (2 + entry_count numbers₁ from) ≤ every_size
          entry_fits = omega (arith, entry_within numbers there enough p inside, few)

          module _ {n : ℕ} (en : n ≡ entry_count numbers₁ from) where
            pub holder_less : told.count - (from + (2 + n)) < told.count - from
            holder_less = omega (arith, which.1, entry_less numbers there enough p inside en)

            pub holder_next : {out₄ : List ℕ} {at₄ : ℕ} → Put (18 + 11 * entry_count numbers₁ from) at₃ (holder_line (entry_at numbers₁ from)) out₃ out₄ at₄ → Printing hs out₂ at out₄ at₄ (from + (2 + n))
            holder_next {out₄} {at₄} q =
                subst (Printing hs out₂ at out₄ at₄) (let z : from + 2 + n ≡ from + (2 + n) = omega arith in z) (Printing-next numbers there enough p inside en q)
