-- The entries of a report's numbers, and the promise of what is printed of them. Stands on the rules' printed report.
use Rattle.std.specs.Prelude.{ℕ, ◌+◌, ◌≤◌, ◌≡◌, List, length, get_or, take, drop}
use Rattle.lists.specs.PutAt.{begun}
use Rattle.authority_rules.specs.Report.{Holding, report}
use Rattle.authority_rules.specs.Printed.{printed}
use Rattle.question.specs.Cleared.{cleared}
use Rattle.authority_question.specs.Asked.{report_numbers}

-- the bytes that a report can take: eleven for each of the 66,306 numbers, and five lines before them
abbrev pub print_size : ℕ
print_size = 729472

-- the number of resources of the entry that begins at a place
abbrev pub entry_count : List ℕ → ℕ → ℕ
entry_count numbers from = get_or numbers (from + 1) 0

-- the entry that begins at a place
abbrev pub entry_at : List ℕ → ℕ → Holding
entry_at numbers from = record { holder = get_or numbers from 0; held = take (entry_count numbers from) (drop (from + 2) numbers) }

-- the promise: what the report on the text prints stands at the start of the buffer, whose later bytes keep their content; the
-- other two buffers are left as the report leaves them
pub record ReportPrinted (text : List ℕ) (budget : ℕ) (w numbers out w' numbers' out' : List ℕ) (r : ℕ) : Type 0 where
  pub counted : r ≡ length (printed (report text budget))
  pub left : out' ≡ begun (printed (report text budget)) out
  pub few : r ≤ print_size
  pub work : w' ≡ cleared w
  pub written : numbers' ≡ begun (report_numbers (report text budget)) numbers
