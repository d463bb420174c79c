use native.Mathlib.Omega.{arith}
use mathlib.Core.Path.{◌∙◌}
use Rattle.machine_places.proofs.StoringLaws.{forms_start, forms_whole, form_next, forms_end}
use Rattle.machine_places.proofs.locate.Goals as goal

pub loop-f-init : goal.loop-f-init
loop-f-init c = (omega arith, forms_start c.args.work.now)

pub form_row-requires : goal.form_row-requires
form_row-requires c =
    forms_whole c.args.work.now c.requires c.loop-f.work c.loop-f.f c.loop-f.invariant.1

pub locate_form-requires : goal.locate_form-requires
locate_form-requires c =
    forms_whole c.args.work.now c.requires c.loop-f.work c.loop-f.f c.loop-f.invariant.1

pub loop-f-preserved : goal.loop-f-preserved
loop-f-preserved c = (
  omega arith,
  form_next c.args.work.now c.requires c.loop-f.work c.loop-f.f c.loop-f.invariant.1
      c.locate_form.new.work c.wide-row.result (c.wide-row.ensures ∙ c.form_row.ensures) c.locate_form.ensures,
)

pub returns : goal.returns
returns c =
    forms_end c.args.work.now c.requires c.loop-f.work c.loop-f.f c.loop-f.invariant.1 (omega (arith, c.form_count-count.ensures.0))
