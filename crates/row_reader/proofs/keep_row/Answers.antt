use Rattle.row_reader.proofs.RowLaws.{row_twin_by, row_members_by}
use Rattle.row_reader.proofs.keep_row.Goals as goal
use Rattle.sheet_rules.specs.Reader.{nth}

pub returns-then-lone_twin : goal.returns-then-lone_twin
returns-then-lone_twin c =
    row_twin_by c.args.work.now c.args.i (nth c.args.head.numbers.values 0) c.requires.4 c.requires.2 c.put_row_head.ensures c.wide-members.ensures c.args.line c.lone_twin.ensures c.if-lone_twin.true

pub returns : goal.returns
returns c =
    row_members_by c.args.work.now c.args.i (nth c.args.head.numbers.values 0) c.requires.4 c.requires.2 c.put_row_head.ensures c.wide-members.ensures c.args.line c.requires.1 c.lone_twin.ensures c.if-lone_twin.false c.read_members.ensures
