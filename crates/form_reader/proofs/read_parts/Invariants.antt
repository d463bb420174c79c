use Rattle.table.specs.View.{row_in}
use Rattle.form_reader.specs.Reads.{part_item}
use Rattle.form_reader.proofs.PartsLaws.{PartsGoing}
use Rattle.form_reader.proofs.read_parts.Given as goal

abbrev pub invariant-loop-j : goal.invariant-loop-j
invariant-loop-j l =
    PartsGoing l.text l.form.f l.count (part_item (row_in l.initial.work l.row).members l.form.forms l.keeps l.initial.here.used) l.initial.here l.initial.work l.work l.j l.here
