use Rattle.std.proofs.Common.{sym, ap, ◌∙◌, subst}
use Rattle.std.proofs.lemmas.Result.{err_from_is_err_and}
use Rattle.std.specs.declared.result.Result.TheVariants.{Err}
use Rattle.machine_rules.specs.Steps.{run_reply}
use Rattle.question.specs.Asked.{ToldAlone}
use Rattle.question.proofs.ToldLaws.{told_ok, told_err}
use Rattle.run_question.proofs.ReplyLaws.{reply_refused, reply_ran}
use Rattle.run_question.proofs.fn.ask_run.ask.Goals as goal

pub returns-in_err-told : goal.returns-in_err-told
returns-in_err-told c =
    let p = err_from_is_err_and c.from_residual.result c.from_residual.ensures.1 in
    subst (ToldAlone (run_reply c.captures.text.now c.captures.budget) c.args.work.now c.judge_text.new.work) (sym (p.1 ∙ ap Err p.2))
    (reply_refused c.judge_text.ensures c.captures.budget (told_err c.told.ensures c.in_err-told.was))

pub returns : goal.returns
returns c = reply_ran c.judge_text.ensures c.captures.budget (told_ok c.told.ensures c.in_ok-told.was) c.answer_sheet.ensures
