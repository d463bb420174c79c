use mathlib.Core.Path.{ap, ◌∙◌}
use mathlib.Core.List.{List}
use lib.ListN.{set}
use Prim.Native.Nat.{ℕ, ◌+◌}
use Rattle.table.specs.Stores.{three_put}
use Rattle.table.proofs.stores.put_three.Goals as goal

pub returns : goal.returns
unfolding three_put
returns c =
    let at : ℕ = c.args.at in
    c.put-3.ensures
    ∙ ap (λ (x : List ℕ). set x (at + 2) c.args.z)
    (c.put-2.ensures ∙ ap (λ (x : List ℕ). set x (at + 1) c.args.y) c.put.ensures)
