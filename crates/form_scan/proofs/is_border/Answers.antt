use Rattle.std.proofs.Common.{◌∙◌, sym, true≢false}
use Rattle.form_scan.proofs.BorderLaws.{by_form, by_devices, by_main}
use Rattle.form_scan.proofs.is_border.Goals.{then-starts_with, else-starts_with}
use Rattle.form_scan.proofs.is_border.Goals as goal

pub returns-then-starts_with-2 : goal.returns-then-starts_with-2
returns-then-starts_with-2 c =
    c.if-starts_with-2.true
    ∙ elim c.if-starts_with.branch [
      | then-starts_with w ↦ by_form c.args.line.now c.starts_with.ensures.value w.if-starts_with.true
      | else-starts_with w ↦ by_devices c.args.line.now c.starts_with.ensures.value w.if-starts_with.false w.starts_with-else-starts_with.ensures.value (sym w.value-is ∙ c.if-starts_with-2.true)
    ]

pub returns-else-starts_with-2 : goal.returns-else-starts_with-2
returns-else-starts_with-2 c =
    elim c.if-starts_with.branch [
      | then-starts_with w ↦ absurd (true≢false (sym w.if-starts_with.true ∙ sym w.value-is ∙ c.if-starts_with-2.false))
      | else-starts_with w ↦ by_main c.args.line.now c.starts_with.ensures.value w.if-starts_with.false w.starts_with-else-starts_with.ensures.value (sym w.value-is ∙ c.if-starts_with-2.false) c.starts_with-else-starts_with-2.ensures.value
    ]
