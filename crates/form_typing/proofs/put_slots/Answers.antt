use Rattle.code_typing.proofs.CodeLaws.{slots_whole}
use Rattle.form_typing.proofs.SlotsLaws.{two_only, slots_filled}
use Rattle.form_typing.proofs.put_slots.Goals as goal

pub put_keeps-requires : goal.put_keeps-requires
put_keeps-requires c = (
  slots_whole (two_only c.args.f c.args.argument c.args.work.now c.requires.size c.of-sheet.ensures c.form_row-row.ensures c.keep_count-count.ensures.0 c.keep_count-count.ensures.1 c.put_slot_row.ensures c.put_slot_row-2.ensures) c.requires,
  c.keep_count-count.ensures.1,
)

pub returns : goal.returns
returns c =
    slots_filled c.args.f c.args.argument c.args.work.now c.requires.size c.of-sheet.ensures c.form_row-row.ensures c.keep_count-count.ensures.0 c.keep_count-count.ensures.1 c.put_slot_row.ensures c.put_slot_row-2.ensures c.put_keeps.ensures
