use Rattle.std.proofs.Common.{sym, ap, ◌∙◌, subst}
use Rattle.std.proofs.lemmas.Result.{err_from_is_err_and}
use Rattle.std.specs.declared.result.Result.TheVariants.{Err}
use Rattle.authority_rules.specs.Group.{group_held}
use Rattle.authority_question.specs.Asked.{HeldTold}
use Rattle.question.proofs.ToldLaws.{told_ok, told_err}
use Rattle.authority_question.proofs.HeldLaws.{held_accepted, held_refused}
use Rattle.authority_question.proofs.fn.ask_group.ask_into.Goals as goal

pub returns-in_err-told : goal.returns-in_err-told
returns-in_err-told c =
    let p = err_from_is_err_and c.from_residual.result c.from_residual.ensures.1 in
    subst (HeldTold (group_held c.captures.text.now c.captures.budget c.captures.holders.now) c.args.work.now c.args.res.now c.judge_text.new.work c.args.res.now) (sym (p.1 ∙ ap Err p.2))
    (held_refused c.judge_text.ensures c.captures.budget c.captures.holders.now (told_err c.told.ensures c.in_err-told.was))

pub returns : goal.returns
returns c = held_accepted c.judge_text.ensures c.captures.budget c.captures.holders.now (told_ok c.told.ensures c.in_ok-told.was) c.held_in.ensures
