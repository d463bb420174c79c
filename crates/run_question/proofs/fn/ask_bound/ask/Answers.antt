use Rattle.std.proofs.Common.{List, ℕ, sym, ap, ◌∙◌, subst}
use Rattle.std.proofs.lemmas.Result.{err_from_is_err_and}
use Rattle.std.specs.declared.result.Result.TheVariants.{Err}
use Rattle.bound_rules.specs.BoundQuestion.{bound_in, bound_reply}
use Rattle.table.specs.View.{sheet_in}
use Rattle.question.specs.Asked.{ToldAlone}
use Rattle.question.proofs.ToldLaws.{told_ok, told_err}
use Rattle.run_question.proofs.BoundReplyLaws.{bound_refused, bound_told}
use Rattle.run_question.proofs.fn.ask_bound.ask.Goals as goal

pub returns-in_err-told : goal.returns-in_err-told
returns-in_err-told c =
    let p = err_from_is_err_and c.from_residual.result c.from_residual.ensures.1 in
    subst (ToldAlone (bound_reply c.captures.text.now) c.args.work.now c.judge_text.new.work) (sym (p.1 ∙ ap Err p.2))
    (bound_refused c.judge_text.ensures (told_err c.told.ensures c.in_err-told.was))

pub returns : goal.returns
returns c =
    bound_told c.judge_text.ensures (told_ok c.told.ensures c.in_ok-told.was)
    (c.bound_sheet.ensures ∙ ap (λ (x : List ℕ). bound_in (sheet_in x)) c.of.ensures)
