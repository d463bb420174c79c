use native.Mathlib.Omega.{arith}
use mathlib.Core.Path.{sym, ◌∙◌}
use Rattle.std.proofs.lemmas.Result.{err_from_is_err_and}
use Rattle.sheet_rules.specs.Sheet.{form_at}
use Rattle.table.specs.View.{sheet_in}
use Rattle.table.specs.Told.{new_slots, slot_rows_in}
use Rattle.fit_answer.specs.Told.{answers}
use Rattle.instr_typing.proofs.SlotsLaws.{slots_end, slot_next, slot_stop}
use Rattle.instr_typing.proofs.judge_new.Goals as goal

pub returns-in_err-judge_fit : goal.returns-in_err-judge_fit
returns-in_err-judge_fit c =
    let p = err_from_is_err_and c.from_residual.result c.from_residual.ensures.1 in
    let f = form_at (sheet_in c.args.sheet.now) c.args.form in
    rw (p.1, p.2) (sym c.in_err-judge_fit.was ∙ slot_stop (answers c.args.sheet.now) (slot_rows_in c.args.sheet.now c.args.filled) (new_slots c.args.sheet.now c.args.p) f.keeps (sym c.new_slot_count-count.ensures.0 ∙ c.if-count-keep_count.false ∙ c.keep_count.ensures.0) c.loop-k.k c.loop-k.invariant c.form_row-row.result
    (omega (arith, c.loop-k-test.true, c.new_slot_count-count.ensures.0)) c.new_slot.ensures c.slot_row-given.ensures c.keep.ensures c.judge_fit.ensures f.row c.in_err-judge_fit.was)

pub loop-k-preserved : goal.loop-k-preserved
loop-k-preserved c =
    slot_next (answers c.args.sheet.now) (slot_rows_in c.args.sheet.now c.args.filled) (new_slots c.args.sheet.now c.args.p) (form_at (sheet_in c.args.sheet.now) c.args.form).keeps (sym c.new_slot_count-count.ensures.0 ∙ c.if-count-keep_count.false ∙ c.keep_count.ensures.0) c.loop-k.k c.loop-k.invariant c.form_row-row.result
    (omega (arith, c.loop-k-test.true, c.new_slot_count-count.ensures.0)) c.new_slot.ensures c.slot_row-given.ensures c.keep.ensures c.judge_fit.ensures c.in_ok-judge_fit.was

pub returns : goal.returns
returns c =
    slots_end (answers c.args.sheet.now) (slot_rows_in c.args.sheet.now c.args.filled) (new_slots c.args.sheet.now c.args.p) (form_at (sheet_in c.args.sheet.now) c.args.form).keeps (sym c.new_slot_count-count.ensures.0 ∙ c.if-count-keep_count.false ∙ c.keep_count.ensures.0) c.loop-k.k c.loop-k.invariant
    c.form_row-row.ensures (omega (arith, c.loop-k-test.false, c.new_slot_count-count.ensures.0))
