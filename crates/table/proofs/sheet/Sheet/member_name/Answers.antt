use Prim.Native.Nat.{ℕ}
use mathlib.Core.Path.{◌≡◌, sym, ap, subst, ◌∙◌}
use mathlib.Core.List.{List}
use Rattle.sheet_rules.specs.declared.Member.{Member}
use Rattle.sheet_rules.specs.RowLines.{name_of}
use Rattle.table.specs.View.{member_in}
use Rattle.table.specs.Whole.{Whole}
use Rattle.table.proofs.SheetLaws.{member_there}
use Rattle.table.proofs.sheet.Sheet.member_name.Goals as goal

pub returns : goal.returns
returns c =
    let e : c.self.inside.work.now ≡ c.args.self.now = c.self.view_is in
    c.member_name.ensures ∙ ap (λ (w : List ℕ). name_of (member_in w c.args.i c.args.j)) e
    ∙ ap (λ (m : Member). name_of m) (sym (member_there c.args.self.now (subst Whole e c.self.invariant) c.args.i c.args.j c.requires))
