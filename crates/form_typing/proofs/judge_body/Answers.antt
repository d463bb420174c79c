use native.Mathlib.Omega.{arith}
use Prim.Native.Nat.{ℕ}
use mathlib.Core.Path.{ap, ◌∙◌}
use mathlib.Core.List.{List}
use Rattle.sheet_rules.specs.Sheet.{form_at}
use Rattle.table.specs.View.{sheet_in}
use Rattle.code_typing.proofs.CodeLaws.{slots_whole}
use Rattle.form_typing.proofs.PartLaws.{body_judged}
use Rattle.form_typing.proofs.judge_body.Goals as goal

pub judge_code-requires : goal.judge_code-requires
judge_code-requires c =
    (slots_whole c.put_slots-filled.ensures.only c.requires.0, omega (arith, c.put_slots-filled.ensures.few, c.wide.ensures, c.requires.1), omega (arith, c.requires.2))

pub returns : goal.returns
returns c =
    body_judged c.args.res c.args.start (c.form_row-own.ensures ∙ ap (λ (x : List ℕ). (form_at (sheet_in x) c.args.f).row) c.of.ensures) c.put_slots-filled.ensures c.wide.ensures c.judge_code.ensures
