use mathlib.Core.Path.{◌≡◌, sym, ◌∙◌}
use mathlib.Core.Bool.{true, not, ◌&&◌}
use Rattle.sheet_rules.specs.declared.Reason.TheVariants.{ImpureForm}
use Rattle.sheet_rules.specs.Sheet.{row_at}
use Rattle.type_rules.specs.SlotRows.{members_at}
use Rattle.type_rules.specs.Typing.{is_pure, has_field}
use Rattle.table.specs.View.{sheet_in}
use Rattle.form_typing.proofs.HeadLaws.{neither, not_both, both}
use Rattle.code_typing.proofs.WalkLaws.{line_good, line_bad}
use Rattle.form_typing.proofs.judge_head.Goals.{else-is_pure-via-then-is_pure+else-has_field, else-is_pure-via-else-is_pure}
use Rattle.form_typing.proofs.judge_head.Goals as goal

pub returns-then-has_field : goal.returns-then-has_field
returns-then-has_field c =
    line_bad c.args.line ImpureForm _ (both (sym c.is_pure.ensures ∙ c.if-is_pure.true) (sym c.has_field.ensures ∙ c.if-has_field.true))

pub returns : goal.returns
returns c = line_good c.args.line ImpureForm _ good
  where
    good : not (is_pure (row_at (sheet_in c.args.sheet.now).rows c.args.a).kind && has_field (members_at (sheet_in c.args.sheet.now) c.args.a)) ≡ true
    good = elim c.else-is_pure.branch [
      | else-is_pure-via-then-is_pure+else-has_field w ↦ not_both (sym c.is_pure.ensures ∙ w.if-is_pure.true) (sym w.has_field.ensures ∙ w.if-has_field.false)
      | else-is_pure-via-else-is_pure w ↦ neither _ (sym c.is_pure.ensures ∙ w.if-is_pure.false)
    ]
