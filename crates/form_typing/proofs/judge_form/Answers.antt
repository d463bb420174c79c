use Prim.Native.Nat.{ℕ}
use native.Mathlib.Omega.{arith}
use mathlib.Core.Path.{ap, ◌∙◌}
use mathlib.Core.List.{List}
use lib.ListN.{length}
use Rattle.std.proofs.lemmas.Result.{err_from_is_err_and}
use Rattle.sheet_rules.specs.Sheet.{form_at}
use Rattle.table.specs.View.{sheet_in}
use Rattle.table.proofs.SheetLaws.{form_well}
use Rattle.form_typing.proofs.HeadLaws.{head-Stopped, head_next, keeps-Stopped, keeps_after, form_judged, judged_here, judged_after, parts_there}
use Rattle.form_typing.proofs.judge_form.Goals as goal

pub returns-in_err-keeps : goal.returns-in_err-keeps
returns-in_err-keeps c =
    let p = err_from_is_err_and c.from_residual.result c.from_residual.ensures.1 in
    rw (p.1, p.2) (judged_here c.args.f c.args.line c.of-sheet.ensures (head-Stopped c.of-sheet.result c.args.f c.args.line (c.wide-row.ensures ∙ c.form_row.ensures) c.judge_head.ensures c.in_err-keeps.was))

pub judge_keeps-requires : goal.judge_keeps-requires
judge_keeps-requires c =
    omega (arith, c.requires.2, head_next c.of-sheet.result c.args.f c.args.line (c.wide-row.ensures ∙ c.form_row.ensures) c.judge_head.ensures c.in_ok-keeps.was)

pub returns-in_err-parts : goal.returns-in_err-parts
returns-in_err-parts c =
    let p = err_from_is_err_and c.from_residual-in_err-parts.result c.from_residual-in_err-parts.ensures.1 in
    rw (p.1, p.2) (judged_here c.args.f c.args.line c.of-sheet.ensures (keeps-Stopped c.of-sheet.result c.args.f c.args.line (c.wide-row.ensures ∙ c.form_row.ensures) c.judge_head.ensures c.in_ok-keeps.was c.judge_keeps.ensures c.in_err-parts.was))

pub judge_parts-requires : goal.judge_parts-requires
judge_parts-requires c =
    let row = c.wide-row.ensures ∙ c.form_row.ensures in (
      c.requires.0,
      c.requires.1,
      omega (
        arith,
        c.requires.2,
        head_next c.of-sheet.result c.args.f c.args.line row c.judge_head.ensures c.in_ok-keeps.was,
        keeps_after c.of-sheet.result c.args.f c.args.line row c.judge_head.ensures c.in_ok-keeps.was c.judge_keeps.ensures c.in_ok-parts.was,
        ap (λ (x : List ℕ). length (form_at (sheet_in x) c.args.f).keeps) c.of-sheet.ensures,
        (form_well c.args.work.now c.requires.0 c.args.f c.requires.1).few,
      ),
    )

pub returns : goal.returns
returns c =
    judged_after c.args.f c.args.line c.of-sheet.ensures
    (form_judged c.of-sheet.result c.args.f c.args.line (c.wide-row.ensures ∙ c.form_row.ensures) c.judge_head.ensures c.in_ok-keeps.was c.judge_keeps.ensures c.in_ok-parts.was (parts_there c.args.f c.of-sheet.ensures c.judge_parts.ensures))
