use Rattle.table.specs.View.{cell}
use Rattle.authority_marks.proofs.MarkLaws.{marked_not, marked_one}
use Rattle.authority_marks.proofs.mark_if_noted.Goals as goal

pub returns-then-work-note-eq1 : goal.returns-then-work-note-eq1
returns-then-work-note-eq1 c =
    marked_one c.args.work.now (cell c.args.work.now c.args.at) (cell c.args.work.now c.args.note) c.if-work-note-eq1.true c.wide-v.ensures c.requires.1 c.requires.3 c.put_mark.ensures

pub returns-else-work-note-eq1 : goal.returns-else-work-note-eq1
returns-else-work-note-eq1 c =
    marked_not c.args.work.now (cell c.args.work.now c.args.at) (cell c.args.work.now c.args.note) c.if-work-note-eq1.false
