-- What the authority question, of a list of holders and of one, and the report promise for every text, budget and list, and for
-- every work buffer and result buffer. Stands on the rules' answers.
use Rattle.std.specs.Prelude.{ℕ, List, [], length}
use Rattle.sheet_rules.specs.declared.Reason.TheVariants.{BufferTooShort}
use Rattle.sheet_rules.specs.Answers.{turned_away}
use Rattle.authority_rules.specs.declared.Reported.{Reported}
use Rattle.sheet_rules.specs.declared.Refusal.{Refusal}
use Rattle.std.specs.declared.result.Result.TheVariants.{Ok}
use Rattle.std.specs.declared.result.Result.{Result}
use Rattle.machine_rules.specs.declared.RunAnswer.{RunAnswer}
use Rattle.authority_rules.specs.AuthorityQuestion.{Held, held, not_held, authority_held}
use Rattle.authority_rules.specs.Group.{group_held}
use Rattle.authority_rules.specs.Report.{Report, reported, not_reported, report}
use Rattle.question.specs.Asked.{Told, Asked}
use Rattle.authority.specs.Every.{entries, every_size}

-- THE AUTHORITY QUESTION

-- the reply has the count (document 01, Turned away)
abbrev pub held_reply : Held → Result ℕ Refusal
held_reply (held os) = Ok (length os)
held_reply (not_held r n) = turned_away r n

-- the numbers that are written; a refusal writes nothing (document 01, Turned away)
abbrev pub held_numbers : Held → List ℕ
held_numbers (held os) = os
held_numbers (not_held r n) = []

abbrev pub HeldTold : Held → (w result w' result' : List ℕ) → Result ℕ Refusal → Type 0
HeldTold x w result w' result' r = Told (held_reply x) (held_numbers x) w result w' result' r

-- the promise for what is held: reply, result buffer and work buffer, in buffers of any length (document 01, Turned away)
abbrev pub HeldAsked : Held → (w result w' result' : List ℕ) → Result ℕ Refusal → Type 0
HeldAsked x w result w' result' r = Asked 256 (held_reply x) (turned_away BufferTooShort 0) (held_numbers x) w result w' result' r

-- of a list of holders (document 02, order 1)
abbrev pub GroupAsked : (text : List ℕ) (budget : ℕ) (hs w result w' result' : List ℕ) → Result ℕ Refusal → Type 0
GroupAsked text budget hs w result w' result' r = HeldAsked (group_held text budget hs) w result w' result' r

-- of one holder (document 01, Who holds what)
abbrev pub AuthorityAsked : (text : List ℕ) (budget h : ℕ) (w result w' result' : List ℕ) → Result ℕ Refusal → Type 0
AuthorityAsked text budget h w result w' result' r = HeldAsked (authority_held text budget h) w result w' result' r

-- THE REPORT

-- a run's answer, and how many numbers are written
abbrev pub with_count : RunAnswer → ℕ → Reported
with_count a n = record { answer = a; count = n }

-- the reply has both
abbrev pub report_reply : Report → Result Reported Refusal
report_reply (reported a hs) = Ok (with_count a (length (entries hs)))
report_reply (not_reported r n) = turned_away r n

-- the numbers that are written: every holder's entry
abbrev pub report_numbers : Report → List ℕ
report_numbers (reported a hs) = entries hs
report_numbers (not_reported r n) = []

abbrev pub ReportTold : Report → (w result w' result' : List ℕ) → Result Reported Refusal → Type 0
ReportTold x w result w' result' r = Told (report_reply x) (report_numbers x) w result w' result' r

abbrev pub ReportAsked : (text : List ℕ) (budget : ℕ) (w result w' result' : List ℕ) → Result Reported Refusal → Type 0
ReportAsked text budget w result w' result' r =
    Asked every_size (report_reply (report text budget)) (turned_away BufferTooShort 0) (report_numbers (report text budget)) w result w' result' r
