use Prim.Native.Nat.{ℕ}
use mathlib.Core.Path.{sym, ap, ◌∙◌}
use lib.ListN.{get_or}
use Rattle.sheet_rules.specs.Sheet.{form_at}
use Rattle.type_rules.specs.Typing.{init_fault}
use Rattle.table.specs.View.{sheet_in}
use Rattle.fit_answer.specs.Told.{answers}
use Rattle.instr_typing.specs.Told.{fit_judged}
use Rattle.code_typing.proofs.LineLaws.{judged_on, judged_stop}
use Rattle.form_typing.proofs.judge_init.Goals as goal

pub returns-in-Ok : goal.returns-in-Ok
returns-in-Ok c =
    let f = form_at (sheet_in c.args.sheet.now) c.args.f in
    judged_on c.args.line (init_fault (answers c.args.sheet.now) f c.args.row c.args.kept) c.args.row _
    (sym (c.judge_fit.ensures ∙ ap (λ (a : ℕ). fit_judged (answers c.args.sheet.now a c.args.row) c.args.row) (c.keep-given.ensures ∙ ap (λ (i : ℕ). get_or f.keeps i 0) c.wide.ensures)) ∙ c.in-Ok.is)

pub returns-in-Err : goal.returns-in-Err
returns-in-Err c =
    let f = form_at (sheet_in c.args.sheet.now) c.args.f in
    judged_stop c.args.line (init_fault (answers c.args.sheet.now) f c.args.row c.args.kept) c.args.row _
    (sym (c.judge_fit.ensures ∙ ap (λ (a : ℕ). fit_judged (answers c.args.sheet.now a c.args.row) c.args.row) (c.keep-given.ensures ∙ ap (λ (i : ℕ). get_or f.keeps i 0) c.wide.ensures)) ∙ c.in-Err.is)
