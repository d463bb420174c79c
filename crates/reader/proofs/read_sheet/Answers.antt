use mathlib.Core.Path.{sym, subst}
use Rattle.reader.specs.Reads.{SheetRead}
use Rattle.reader.proofs.SheetLaws.{sheet_long, sheet_read}
use Rattle.reader.proofs.read_sheet.Goals as goal

pub returns-then-text-gt-TEXT_LIMIT : goal.returns-then-text-gt-TEXT_LIMIT
returns-then-text-gt-TEXT_LIMIT c = sheet_long c.args.text.now c.args.work.now c.if-work-lt-WORK_SIZE.false c.if-text-gt-TEXT_LIMIT.true

pub returns : goal.returns
returns c =
    subst (SheetRead c.args.text.now c.args.work.now c.read_from_types.new.work) (sym c.into.ensures)
    (sheet_read c.args.text.now c.args.work.now c.if-work-lt-WORK_SIZE.false c.if-text-gt-TEXT_LIMIT.false c.read_from_types.ensures)
