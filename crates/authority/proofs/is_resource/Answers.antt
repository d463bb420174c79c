use mathlib.Core.Path.{sym, ap, ◌∙◌}
use Rattle.authority_rules.specs.Authority.{is_resource_kind}
use Rattle.authority.proofs.HolderLaws.{resource_missing, resource_there, not_resource}
use Rattle.authority.proofs.is_resource.Goals as goal

pub returns-then-n-o : goal.returns-then-n-o
returns-then-n-o c = resource_missing c.requires c.args.o c.if-n-o.true

pub returns-in-Resource : goal.returns-in-Resource
returns-in-Resource c =
    sym (ap is_resource_kind c.in-Resource.is)
    ∙ resource_there c.requires c.args.o c.if-n-o.false c.of-sheet.ensures c.form_of.ensures c.form_row-row.ensures c.wide.ensures c.kind_at.ensures

pub returns-in_default : goal.returns-in_default
returns-in_default c =
    not_resource c.kind_at.result c.in_default.not-Resource
    ∙ resource_there c.requires c.args.o c.if-n-o.false c.of-sheet.ensures c.form_of.ensures c.form_row-row.ensures c.wide.ensures c.kind_at.ensures
