-- What the run question and the bound question promise for every text, every budget and every work buffer. Stands on the rules'
-- replies.
use Rattle.std.specs.Prelude.{ℕ, List}
use Rattle.sheet_rules.specs.declared.Reason.TheVariants.{BufferTooShort}
use Rattle.sheet_rules.specs.Answers.{turned_away}
use Rattle.machine_rules.specs.declared.RunAnswer.{RunAnswer}
use Rattle.sheet_rules.specs.declared.Refusal.{Refusal}
use Rattle.std.specs.declared.result.Result.{Result}
use Rattle.machine_rules.specs.Steps.{run_reply}
use Rattle.bound_rules.specs.BoundQuestion.{bound_reply}
use Rattle.question.specs.Asked.{AskedAlone}

-- the run: the rule's reply, and the work buffer left as the paper says (document 01, Turned away)
abbrev pub RunAsked : (text : List ℕ) (budget : ℕ) (w w' : List ℕ) → Result RunAnswer Refusal → Type 0
RunAsked text budget w w' r = AskedAlone (run_reply text budget) (turned_away BufferTooShort 0) w w' r

-- the bound: the same, of its own rule (document 02, order 4)
abbrev pub BoundAsked : (text w w' : List ℕ) → Result ℕ Refusal → Type 0
BoundAsked text w w' r = AskedAlone (bound_reply text) (turned_away BufferTooShort 0) w w' r
