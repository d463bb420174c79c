use Prim.Native.Nat.{ℕ}
use native.Mathlib.Omega.{arith}
use mathlib.Core.List.{List}
use Rattle.table.specs.Layout.{device_count_at, main_start_at, main_count_at}
use mathlib.Core.Path.{ap, ap₂, ◌∙◌}
use Rattle.table.specs.Told.{slot_rows_in}
use Rattle.table.specs.View.{cell, instrs_in}
use Rattle.table.proofs.SheetLaws.{devices-length, devices_few, main_is}
use Rattle.typing.proofs.SheetLaws.{main_judged}
use Rattle.typing.proofs.judge_main.Goals as goal

pub judge_code-requires : goal.judge_code-requires
judge_code-requires c = (
  c.requires.0,
  omega (arith, c.wide-filled.ensures, c.device_count.ensures, ap (λ (x : List ℕ). cell x device_count_at) c.of-sheet.ensures, devices-length c.args.work.now, devices_few c.args.work.now c.requires.0, c.main_count-count.ensures.1),
  omega (arith, c.requires.1, c.main_count-count.ensures.1),
)

pub returns : goal.returns
returns c =
    main_judged c.wide-filled.result (ap (slot_rows_in c.args.work.now) (c.wide-filled.ensures ∙ c.device_count.ensures ∙ ap (λ (x : List ℕ). cell x device_count_at) c.of-sheet.ensures) ∙ c.requires.2)
    (ap₂ (instrs_in c.args.work.now) (c.main_start-start.ensures ∙ ap (λ (x : List ℕ). cell x main_start_at) c.of-sheet.ensures) (c.main_count-count.ensures.0 ∙ ap (λ (x : List ℕ). cell x main_count_at) c.of-sheet.ensures) ∙ main_is c.args.work.now) c.judge_code.ensures
