use mathlib.Core.Path.{sym, ap, ◌∙◌, subst}
use Rattle.machine_rules.specs.declared.Tally.{Tally}
use Rattle.machine_rules.specs.Steps.{start_tally}
use Rattle.machine_state.specs.declared.Top.{Top}
use Rattle.machine.specs.Runs.{start_top}
use Rattle.machine.proofs.RunLaws.{Going, Going-start, Going-step}
use Rattle.machine.proofs.run.Goals as goal

pub loop-frame-init : goal.loop-frame-init
loop-frame-init c =
    subst (λ (x : Top). Going c.args.work.now c.args.budget c.args.work.now x c.start-tally.result) (sym c.start_top-top.ensures)
    (subst (λ (y : Tally). Going c.args.work.now c.args.budget c.args.work.now (start_top c.args.work.now) y) (sym (c.start-tally.ensures ∙ ap (λ (x : Top). start_tally x.filled) c.start_top-top.ensures)) (Going-start c.args.work.now c.args.budget c.requires))

pub loop-frame-preserved : goal.loop-frame-preserved
loop-frame-preserved c =
    Going-step c.args.work.now c.args.budget c.loop-frame.work c.loop-frame.top c.loop-frame.tally c.loop-frame.invariant c.advance.new.work c.in-Ok.frame c.in-Ok.counts c.in-Ok.ensures
