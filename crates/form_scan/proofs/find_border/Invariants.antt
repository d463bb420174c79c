use Rattle.std.proofs.Common.{◌≡◌, ◌≤◌, length, drop}
use Rattle.form_scan.specs.Borders.{border_place}
use Rattle.form_scan.proofs.find_border.Given as goal

abbrev pub invariant-loop-line : goal.invariant-loop-line
invariant-loop-line l =
    record {
      within : l.at ≤ length l.text;
      rest : l.line-iterator.rest.now ≡ drop l.at l.text;
      place : border_place l.text l.at l.left ≡ border_place l.text l.from l.count;
    }
