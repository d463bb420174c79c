use Rattle.std.proofs.Common.{sym, ap, ◌∙◌, subst}
use Rattle.std.proofs.lemmas.Result.{err_from_is_err_and}
use Rattle.std.specs.declared.result.Result.TheVariants.{Err}
use Rattle.authority_rules.specs.Report.{report}
use Rattle.authority_question.specs.Asked.{ReportTold}
use Rattle.question.proofs.ToldLaws.{told_ok, told_err}
use Rattle.authority_question.proofs.ReportLaws.{report_accepted, report_refused}
use Rattle.authority_question.proofs.report.fn.ask_report.ask_into.Goals as goal

pub returns-in_err-told : goal.returns-in_err-told
returns-in_err-told c =
    let p = err_from_is_err_and c.from_residual.result c.from_residual.ensures.1 in
    subst (ReportTold (report c.captures.text.now c.captures.budget) c.args.work.now c.args.res.now c.judge_text.new.work c.args.res.now) (sym (p.1 ∙ ap Err p.2))
    (report_refused c.judge_text.ensures c.captures.budget (told_err c.told.ensures c.in_err-told.was))

pub returns : goal.returns
returns c = report_accepted c.judge_text.ensures c.captures.budget (told_ok c.told.ensures c.in_ok-told.was) c.report_in.ensures
