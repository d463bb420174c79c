use Rattle.machine_steps.proofs.CallLaws.{form_in, object_filled, argument_filled, name_small, save_asks, own_small, enter_asks, callee_small, part_small, call_took}
use native.Mathlib.Omega.{arith}
use Prim.Native.Nat.{ℕ, ◌+◌}
use mathlib.Core.Path.{sym, ap, ◌∙◌, subst}
use Rattle.sheet_rules.specs.Sheet.{call}
use Rattle.machine_rules.specs.Steps.{called}
use Rattle.table.specs.Layout.{object_address}
use Rattle.table.specs.View.{cell}
use Rattle.machine_steps.specs.Running.{Took}
use Rattle.machine_steps.proofs.FacingLaws.{size, slot_asks}
use Rattle.machine_steps.proofs.frames.call_step.Goals as goal

pub slot-own-requires : goal.slot-own-requires
slot-own-requires c = slot_asks c.args.work.now c.args.top c.args.tally (call c.args.v c.args.n c.args.a) c.requires.0 c.frame_of-f.result c.frame_of-f.ensures c.args.v (object_filled c.args.work.now c.args.top c.args.tally c.args.v c.args.n c.args.a c.requires.0)

pub slot-argument-requires : goal.slot-argument-requires
slot-argument-requires c =
    slot_asks c.args.work.now c.args.top c.args.tally (call c.args.v c.args.n c.args.a) c.requires.0 c.frame_of-f.result c.frame_of-f.ensures c.args.a (argument_filled c.args.work.now c.args.top c.args.tally c.args.v c.args.n c.args.a c.requires.0)

pub form_of-form-requires : goal.form_of-form-requires
form_of-form-requires c =
    (omega (arith, c.wide.ensures, own_small c.args.work.now c.args.top c.args.tally c.args.v c.args.n c.args.a c.requires.0 c.frame_of-f.result c.frame_of-f.ensures c.slot-own.result c.slot-own.ensures), size c.args.work.now c.args.top c.args.tally c.requires.0.running)

pub place-part-requires : goal.place-part-requires
place-part-requires c =
    (callee_small c.args.work.now c.args.top c.args.tally c.args.v c.args.n c.args.a c.requires.0 c.frame_of-f.result c.frame_of-f.ensures c.slot-own.result c.slot-own.ensures c.form_of-form.result (c.form_of-form.ensures ∙ ap (λ (y : ℕ). cell c.args.work.now (object_address y)) c.wide.ensures), name_small c.args.work.now c.args.top c.args.tally c.args.v c.args.n c.args.a c.requires.0, size c.args.work.now c.args.top c.args.tally c.requires.0.running)

pub body_start-start-requires : goal.body_start-start-requires
body_start-start-requires c =
    (callee_small c.args.work.now c.args.top c.args.tally c.args.v c.args.n c.args.a c.requires.0 c.frame_of-f.result c.frame_of-f.ensures c.slot-own.result c.slot-own.ensures c.form_of-form.result (c.form_of-form.ensures ∙ ap (λ (y : ℕ). cell c.args.work.now (object_address y)) c.wide.ensures), part_small c.args.work.now c.args.top c.args.tally c.args.v c.args.n c.args.a c.requires.0 c.frame_of-f.result c.frame_of-f.ensures c.slot-own.result c.slot-own.ensures c.form_of-form.result (c.form_of-form.ensures ∙ ap (λ (y : ℕ). cell c.args.work.now (object_address y)) c.wide.ensures) c.place-part.result c.place-part.ensures, size c.args.work.now c.args.top c.args.tally c.requires.0.running)

pub body_count-requires : goal.body_count-requires
body_count-requires c =
    (callee_small c.args.work.now c.args.top c.args.tally c.args.v c.args.n c.args.a c.requires.0 c.frame_of-f.result c.frame_of-f.ensures c.slot-own.result c.slot-own.ensures c.form_of-form.result (c.form_of-form.ensures ∙ ap (λ (y : ℕ). cell c.args.work.now (object_address y)) c.wide.ensures), part_small c.args.work.now c.args.top c.args.tally c.args.v c.args.n c.args.a c.requires.0 c.frame_of-f.result c.frame_of-f.ensures c.slot-own.result c.slot-own.ensures c.form_of-form.result (c.form_of-form.ensures ∙ ap (λ (y : ℕ). cell c.args.work.now (object_address y)) c.wide.ensures) c.place-part.result c.place-part.ensures, size c.args.work.now c.args.top c.args.tally c.requires.0.running)

pub keeps_of-count-requires : goal.keeps_of-count-requires
keeps_of-count-requires c =
    (c.requires.0.running.accepted.whole, form_in c.args.work.now c.args.top c.args.tally c.args.v c.args.n c.args.a c.requires.0 c.frame_of-f.result c.frame_of-f.ensures c.slot-own.result c.slot-own.ensures c.form_of-form.result (c.form_of-form.ensures ∙ ap (λ (y : ℕ). cell c.args.work.now (object_address y)) c.wide.ensures))

pub save-requires : goal.save-requires
save-requires c =
    save_asks c.args.work.now c.args.top c.args.tally c.args.v c.args.n c.args.a c.requires.0 c.frame_of-f.result c.frame_of-f.ensures

pub enter-requires : goal.enter-requires
enter-requires c =
    enter_asks c.args.work.now c.args.top c.args.tally c.args.v c.args.n c.args.a c.requires.0 c.frame_of-f.result c.frame_of-f.ensures c.slot-own.result c.slot-own.ensures c.keeps_of-count.result c.keeps_of-count.ensures.1 c.save.new.work c.save.ensures c.requires.1

pub returns : goal.returns
returns c =
    subst (λ (y : ℕ). Took c.args.work.now c.args.top c.args.tally c.enter.new.work (record { own = y + 1; filled = 2 + c.keeps_of-count.result; next = c.body_start-start.result; end = c.body_start-start.result + c.body_count.result }) (called c.args.tally)) (sym c.wide-2.ensures)
    (call_took c.args.work.now c.args.top c.args.tally c.args.v c.args.n c.args.a c.requires.0 c.frame_of-f.result c.frame_of-f.ensures c.slot-own.result c.slot-own.ensures c.form_of-form.result (c.form_of-form.ensures ∙ ap (λ (y : ℕ). cell c.args.work.now (object_address y)) c.wide.ensures) c.place-part.result c.place-part.ensures c.body_start-start.result c.body_start-start.ensures c.body_count.result c.body_count.ensures c.slot-argument.result c.slot-argument.ensures c.keeps_of-count.result c.keeps_of-count.ensures.0 c.keeps_of-count.ensures.1
    c.save.new.work c.save.ensures c.enter.new.work c.enter.ensures c.requires.1)
