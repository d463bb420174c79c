use native.Mathlib.Omega.{arith}
use Rattle.std.proofs.lemmas.Result.{err_from_is_err_and}
use Rattle.code_typing.proofs.CodeLaws.{slots_whole}
use Rattle.typing.proofs.SheetLaws.{forms_refused, devices_only, devices_refused, devices_rows, devices_end, sheet_judged}
use Rattle.typing.proofs.judge_lines.Goals as goal

pub returns-in_err-devices : goal.returns-in_err-devices
returns-in_err-devices c =
    let p = err_from_is_err_and c.from_residual.result c.from_residual.ensures.1 in
    rw (p.1, p.2) (forms_refused c.of.ensures c.first_form_line-forms.ensures.0 c.judge_forms.ensures c.in_err-devices.was)

pub judge_devices-requires : goal.judge_devices-requires
judge_devices-requires c = (
  slots_whole c.judge_forms.ensures.lines.only c.requires,
  omega (arith, c.first_form_line-forms.ensures.1, c.judge_forms.ensures.few _ c.in_ok-devices.was),
)

pub returns-in_err-main : goal.returns-in_err-main
returns-in_err-main c =
    let p = err_from_is_err_and c.from_residual-in_err-main.result c.from_residual-in_err-main.ensures.1 in
    rw (p.1, p.2) (devices_refused c.of.ensures c.first_form_line-forms.ensures.0 c.judge_forms.ensures c.in_ok-devices.was c.judge_devices.ensures c.in_err-main.was)

pub judge_main-requires : goal.judge_main-requires
judge_main-requires c = (
  slots_whole (devices_only c.of.ensures c.first_form_line-forms.ensures.0 c.judge_forms.ensures c.in_ok-devices.was c.judge_devices.ensures) c.requires,
  omega (arith, c.first_form_line-forms.ensures.1, c.judge_forms.ensures.few _ c.in_ok-devices.was, devices_end c.of.ensures c.first_form_line-forms.ensures.0 c.judge_forms.ensures c.in_ok-devices.was c.judge_devices.ensures c.in_ok-main.was (slots_whole c.judge_forms.ensures.lines.only c.requires)),
  devices_rows c.of.ensures c.first_form_line-forms.ensures.0 c.judge_forms.ensures c.in_ok-devices.was c.judge_devices.ensures c.in_ok-main.was,
)

pub returns : goal.returns
returns c =
    sheet_judged c.of.ensures c.first_form_line-forms.ensures.0 c.judge_forms.ensures c.in_ok-devices.was c.judge_devices.ensures c.in_ok-main.was c.judge_main.ensures.lines
