-- What a reply says of the report, and how many numbers a report has. Assumes nothing.
use Prim.Native.Nat.{ℕ, ◌≤◌}
use native.Mathlib.Omega.{arith}
use mathlib.Core.Path.{◌≡◌, refl, sym, ap, ◌∙◌, subst}
use mathlib.Core.Bool.{Bool, true, false, cond, ◌&&◌}
use mathlib.Core.List.{List, []}
use lib.Dec.{T}
use lib.ListN.{length}
use borrow.Author.Tests.{le-leb}
use Rattle.sheet_rules.specs.declared.Reason.{Reason}
use Rattle.sheet_rules.specs.declared.Verdict.{Verdict}
use Rattle.sheet_rules.specs.Sheet.{Sheet}
use Rattle.sheet_rules.specs.Reading.{Meaning, readable, unreadable, meaning}
use Rattle.type_rules.specs.Typing.{typing, verdict_on, verdict, if_accepted, accepted_on}
use Rattle.machine_rules.specs.declared.RunAnswer.{RunAnswer}
use Rattle.machine_rules.specs.State.{State}
use Rattle.machine_rules.specs.Steps.{run}
use Rattle.machine_rules.proofs.StepsLaws.{run-Ends}
use Rattle.machine_rules.proofs.SoundLaws.{accepted_sound}
use Rattle.sheet_rules.specs.Answers.{turned_away}
use Rattle.authority_rules.specs.declared.Reported.{Reported}
use Rattle.sheet_rules.specs.declared.Refusal.{Refusal}
use Rattle.std.specs.declared.result.Result.TheVariants.{Ok, Err}
use Rattle.std.specs.declared.result.Result.{Result}
use Rattle.authority_rules.specs.Authority.{is_resource, holds, authority}
use Rattle.authority_rules.specs.Report.{Holding, holding_of, holders, holdings, Report, reported, not_reported, report_of, report}
use Rattle.table.specs.Layout.{work_size}
use Rattle.question.specs.Cleared.{cleared}
use Rattle.lists.specs.PutAt.{begun}
use Rattle.authority.specs.Every.{entries, every_size}
use Rattle.lists.proofs.PassingLaws.{passing_few}
use Rattle.authority.proofs.PutLaws.{entries_few}
use Rattle.question.specs.Asked.{enough, Asked}
use Rattle.authority_question.specs.Asked.{report_reply, report_numbers, with_count}

-- the buffers are long enough
module _ (text : List ℕ) (budget : ℕ) (short : Result Reported Refusal) (w numbers w' numbers' : List ℕ) (r : Result Reported Refusal) (h : work_size ≤ length w) (l : every_size ≤ length numbers)
    (k : Asked every_size (report_reply (report text budget)) short (report_numbers (report text budget)) w numbers w' numbers' r) where
  yes : enough every_size w numbers ≡ true
  yes i = le-leb work_size (length w) h i && le-leb every_size (length numbers) l i

  pub reply_is : r ≡ report_reply (report text budget)
  reply_is = k.told ∙ ap (λ (b : Bool). cond b (report_reply (report text budget)) short) yes

  pub numbers_are : numbers' ≡ begun (report_numbers (report text budget)) numbers
  numbers_are = k.written ∙ ap (λ (b : Bool). cond b (begun (report_numbers (report text budget)) numbers) numbers) yes

  pub work_is : w' ≡ cleared w
  work_is = k.left ∙ ap (λ (b : Bool). cond b (cleared w) w) yes

-- a report's holdings
abbrev pub holdings_in : Report → List Holding
holdings_in (reported a hs) = hs
holdings_in (not_reported q n) = []

-- what a reply holds; a reply of the other kind has the default
answer_in : RunAnswer → Result Reported Refusal → RunAnswer
answer_in d (Ok x) = x.answer
answer_in d (Err e) = d

reason_in : Reason → Result Reported Refusal → Reason
reason_in d (Ok x) = d
reason_in d (Err e) = e.reason

number_in : Result Reported Refusal → ℕ
number_in (Ok x) = x.count
number_in (Err e) = e.line

is_reported : Result Reported Refusal → Bool
is_reported (Ok x) = true
is_reported (Err e) = false

-- which report has the reply
pub reported_is : (x : Report) (a : RunAnswer) (n : ℕ) → ◌≡◌ {A = Result Reported Refusal} (Ok (with_count a n)) (report_reply x) → (x ≡ reported a (holdings_in x)) × (n ≡ length (entries (holdings_in x)))
unfolding answer_in number_in is_reported
reported_is (reported b hs) a n e = (ap (λ (y : Result Reported Refusal). reported (answer_in a y) hs) (sym e), ap number_in e)
reported_is (not_reported q l) a n e = absurd (subst T (ap is_reported e) tt)

pub refused_is : (x : Report) (q : Reason) (n : ℕ) → ◌≡◌ {A = Result Reported Refusal} (turned_away q n) (report_reply x) → x ≡ not_reported q n
unfolding reason_in number_in is_reported
refused_is (reported b hs) q n e = absurd (subst T (sym (ap is_reported e)) tt)
refused_is (not_reported p l) q n e = (λ i. not_reported (reason_in q (sym e i)) (number_in (sym e i)))

-- a report's entries fit: a state of an accepted sheet has 256 objects at the most

abbrev Fits : Report → Type 0
Fits (reported a hs) = length (entries hs) ≤ every_size
Fits (not_reported q n) = Unit

holdings_few : (s : Sheet) (σ : State) → length σ.objects ≤ 256 → length (entries (holdings s σ)) ≤ every_size
unfolding authority
holdings_few s σ h =
    omega (arith, entries_few (holding_of s σ) (holders s σ) (λ b. omega (arith, passing_few (holds s σ b) 0 (length σ.objects))), passing_few (is_resource s σ.objects) 0 (length σ.objects))

pub report-Fits : (text : List ℕ) (budget : ℕ) → Fits (report text budget)
unfolding report verdict
report-Fits text budget = go (meaning text) refl
  where
    sound : (s : Sheet) → meaning text ≡ readable s → typing s ≡ Verdict.Accepted → length (entries (holdings s (run s budget).last)) ≤ every_size
    sound s e v =
        let p = accepted_sound text s e (ap (verdict_on typing) e ∙ v) (run s budget).steps (run s budget).last (run-Ends s budget).reached in
        holdings_few s (run s budget).last p.places

    typed : (s : Sheet) → meaning text ≡ readable s → (v : Verdict) → typing s ≡ v → Fits (if_accepted not_reported (report_of s (run s budget)) v)
    typed s e Verdict.Accepted v = sound s e v
    typed s e (Verdict.Refused q n) v = tt

    go : (m : Meaning) → meaning text ≡ m → Fits (accepted_on typing not_reported (λ s. report_of s (run s budget)) m)
    go (readable s) e = typed s e (typing s) refl
    go (unreadable q n) e = tt

pub holdings_fit : (text : List ℕ) (budget : ℕ) (a : RunAnswer) (hs : List Holding) → report text budget ≡ reported a hs → length (entries hs) ≤ every_size
holdings_fit text budget a hs e = subst Fits e (report-Fits text budget)
