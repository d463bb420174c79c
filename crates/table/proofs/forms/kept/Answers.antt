use Prim.Native.Nat.{◌+◌}
use native.Mathlib.Omega.{arith}
use mathlib.Core.Path.{◌≡◌, ap, ◌∙◌}
use Rattle.table.specs.Layout.{keep_address}
use Rattle.table.specs.View.{cell}
use Rattle.table.proofs.SheetLaws.{keep_at, kept_small}
use Rattle.table.proofs.forms.kept.Goals as goal

pub returns : goal.returns
returns c =
    let w = c.args.work.now in
    let at : c.keep_address.result + c.args.j ≡ keep_address c.args.f c.args.j = omega (arith, c.keep_address.ensures, kept_small w c.requires.0 c.args.f c.args.j c.requires.1) in
    ap (cell w) at ∙ keep_at w c.args.f c.args.j c.requires.1
