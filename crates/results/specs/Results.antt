-- What the library's answers are in numbers, as a caller in C has them (document 01, Turned away; document 02, orders 2 to 5). Each begins
-- with four: a refusal's number and line, or 0 and 0; and what is lacking, with the name if it is a member. Stands on the answers.
use Rattle.std.specs.Prelude.{ℕ, cond}
use Rattle.sheet_rules.specs.declared.FitAnswer.{FitAnswer}
use Rattle.authority_rules.specs.declared.Reported.{Reported}
use Rattle.machine_rules.specs.declared.RunAnswer.{RunAnswer}
use Rattle.sheet_rules.specs.declared.FormLines.{FormLines}
use Rattle.sheet_rules.specs.declared.Refusal.{Refusal}
use Rattle.std.specs.declared.result.Result.TheVariants.{Ok, Err}
use Rattle.std.specs.declared.result.Result.{Result}
use Rattle.sheet_rules.specs.declared.Verdict.{Verdict}
use Rattle.sheet_rules.specs.Answers.{number_of, verdict_number, verdict_line, reason_lack, verdict_lack, answer_lack, lack_number, lack_name, is_yes}
use Rattle.sheet_rules.specs.Stretch.{reply_number, reply_line, reply_lack, stretch_start, stretch_length}
use Rattle.type_rules.specs.declared.FitTold.{FitTold}
use Rattle.machine_rules.specs.Steps.{outcome_number}
use Rattle.results.specs.declared.FitResult.{FitResult}
use Rattle.results.specs.declared.RunResult.{RunResult}
use Rattle.results.specs.declared.VerdictResult.{VerdictResult}
use Rattle.results.specs.declared.AuthorityResult.{AuthorityResult}
use Rattle.results.specs.declared.ReportResult.{ReportResult}
use Rattle.results.specs.declared.FormResult.{FormResult}
use Rattle.results.specs.declared.BoundResult.{BoundResult}

-- fit's answer, n members of row a passed: 1 for yes, and what is lacking for no (document 02, orders 3 and 5)
abbrev pub answer_result : FitAnswer → ℕ → FitResult
answer_result x n =
    record { refusal = 0; line = 0; lack = lack_number (answer_lack x); name = lack_name (answer_lack x); fits = cond (is_yes x) 1 0; passed = n }

-- the fit question: its reply, an answer or a refusal's numbers, and the members passed
abbrev pub fit_reply_result : Result FitAnswer Refusal → ℕ → FitResult
fit_reply_result (Ok x) n = answer_result x n
fit_reply_result (Err e) n =
    record { refusal = number_of e.reason; line = e.line; lack = lack_number (reason_lack e.reason); name = lack_name (reason_lack e.reason); fits = 0; passed = n }

abbrev pub fit_result : FitTold → FitResult
fit_result t = fit_reply_result t.reply t.passed

-- the verdict: the paper's number and line, 0 and 0 when accepted, and what is lacking
abbrev pub verdict_result : Verdict → VerdictResult
verdict_result v = record { refusal = verdict_number v; line = verdict_line v; lack = lack_number (verdict_lack v); name = lack_name (verdict_lack v) }

-- the run: the paper's numbers of its answer; or a refusal's numbers, and the rest 0
abbrev pub run_result : Result RunAnswer Refusal → RunResult
run_result (Ok a) =
    record { refusal = 0; line = 0; lack = 0; name = 0; outcome = outcome_number a.outcome; steps = a.steps; value = a.value; objects = a.objects }
run_result (Err e) =
    record { refusal = number_of e.reason; line = e.line; lack = lack_number (reason_lack e.reason); name = lack_name (reason_lack e.reason); outcome = 0; steps = 0; value = 0; objects = 0 }

-- the authority question: how many numbers were written, or a refusal's numbers
abbrev pub authority_result : Result ℕ Refusal → AuthorityResult
authority_result (Ok n) = record { refusal = 0; line = 0; lack = 0; name = 0; count = n }
authority_result (Err e) =
    record { refusal = number_of e.reason; line = e.line; lack = lack_number (reason_lack e.reason); name = lack_name (reason_lack e.reason); count = 0 }

-- the report: the run's numbers and how many numbers were written; or a refusal's numbers, and the rest 0
abbrev pub counted_result : RunResult → ℕ → ReportResult
counted_result r n =
    record { refusal = r.refusal; line = r.line; lack = r.lack; name = r.name; outcome = r.outcome; steps = r.steps; value = r.value; objects = r.objects; count = n }

abbrev pub report_result : Result Reported Refusal → ReportResult
report_result (Ok x) = counted_result (run_result (Ok x.answer)) x.count
report_result (Err e) = counted_result (run_result (Err e)) 0

-- one form's lines: a refusal's numbers, and where the part of the text begins and how long it is (document 02, order 2)
abbrev pub form_result : Result FormLines Refusal → FormResult
form_result r =
    record { refusal = reply_number r; line = reply_line r; lack = lack_number (reply_lack r); name = lack_name (reply_lack r); start = stretch_start r; length = stretch_length r }

-- the bound question: the most steps that a run can need, or a refusal's numbers (document 02, order 4)
abbrev pub bound_result : Result ℕ Refusal → BoundResult
bound_result (Ok m) = record { refusal = 0; line = 0; lack = 0; name = 0; steps = m }
bound_result (Err e) =
    record { refusal = number_of e.reason; line = e.line; lack = lack_number (reason_lack e.reason); name = lack_name (reason_lack e.reason); steps = 0 }
