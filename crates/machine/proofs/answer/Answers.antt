use native.Mathlib.Omega.{arith}
use mathlib.Core.Path.{sym, ◌∙◌}
use Rattle.table.specs.View.{sheet_in}
use Rattle.machine_state.proofs.HeldLaws.{objects_count}
use Rattle.machine_steps.proofs.FacingLaws.{objects_few}
use Rattle.machine.proofs.answer.Goals as goal

pub narrow-requires : goal.narrow-requires
narrow-requires c = omega (arith, objects_few c.args.work.now c.args.top c.args.tally c.requires.0)

pub returns : goal.returns
returns c =
    λ i. record {
      outcome = c.args.outcome;
      steps = c.args.tally.steps;
      value = c.value_of.ensures i;
      objects = (c.narrow.ensures ∙ sym (objects_count (sheet_in c.args.work.now) c.args.work.now c.args.tally.objects)) i;
    }
