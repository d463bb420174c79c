use Rattle.table.specs.View.{sheet_in}
use Rattle.bound.proofs.CallsLaws.{sheet_strict}
use Rattle.bound.proofs.calls.judge_calls.Goals as goal

pub returns : goal.returns
returns c = sheet_strict (sheet_in c.args.sheet.now) c.first_form_line-first.ensures.0 c.judge_forms.ensures c.into.ensures
