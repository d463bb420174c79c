use mathlib.Core.Path.{refl}
use Rattle.bound.proofs.CallsLaws.{part_none, part_init, part_body}
use Rattle.bound.proofs.calls.judge_part.Goals as goal

pub returns-in-Method-Body : goal.returns-in-Method-Body
returns-in-Method-Body c = part_body c.args.sheet.now c.args.line c.in-Method-Body.is-0 c.in-Method-Body.is-1 c.wide.ensures c.judge_code.ensures

pub returns-in-Field-Init : goal.returns-in-Field-Init
returns-in-Field-Init c = part_init c.args.sheet.now c.args.line c.in-Field-Init.is-0 c.in-Field-Init.is-1 refl

pub returns-in_default : goal.returns-in_default
returns-in_default c = part_none c.args.sheet.now c.args.line c.in_default.is-0 c.in_default.is-1 refl

pub returns-in_default-2 : goal.returns-in_default-2
returns-in_default-2 c = part_none c.args.sheet.now c.args.line c.in_default.is-0 c.in_default.is-1 refl
