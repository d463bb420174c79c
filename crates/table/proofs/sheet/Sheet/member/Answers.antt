use mathlib.Core.Path.{◌≡◌, sym, ap, subst, ◌∙◌}
use Rattle.table.specs.View.{member_in}
use Rattle.table.specs.Whole.{Whole}
use Rattle.table.proofs.SheetLaws.{member_there}
use Rattle.table.proofs.sheet.Sheet.member.Goals as goal

pub returns : goal.returns
returns c =
    let e : c.self.inside.work.now ≡ c.args.self.now = c.self.view_is in
    c.member.ensures ∙ ap (λ w. member_in w c.args.i c.args.j) e ∙ sym (member_there c.args.self.now (subst Whole e c.self.invariant) c.args.i c.args.j c.requires)
