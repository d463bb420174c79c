use Rattle.sheet_rules.specs.Sheet.{row_at, form_at}
use Rattle.table.specs.View.{sheet_in}
use Rattle.form_typing.proofs.HeadLaws.{KeepsWalk}
use Rattle.form_typing.proofs.judge_keeps.Given as goal

abbrev pub invariant-loop-j : goal.invariant-loop-j
invariant-loop-j l =
    KeepsWalk (sheet_in l.sheet) (row_at (sheet_in l.sheet).rows (form_at (sheet_in l.sheet) l.f).row) (form_at (sheet_in l.sheet) l.f).keeps l.first l.j
