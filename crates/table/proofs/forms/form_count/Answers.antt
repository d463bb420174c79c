use native.Mathlib.Omega.{arith}
use mathlib.Core.Path.{sym, ◌∙◌}
use Rattle.table.proofs.SheetLaws.{forms-length, forms_few}
use Rattle.table.proofs.forms.form_count.Goals as goal

pub returns : goal.returns
returns c = (c.wide.ensures ∙ sym (forms-length c.args.work.now), omega (arith, c.wide.ensures, forms-length c.args.work.now, forms_few c.args.work.now c.requires))
