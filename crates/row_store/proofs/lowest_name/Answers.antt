use mathlib.Core.Path.{◌≡◌, sym, ap, subst}
use native.Mathlib.Omega.{arith}
use Prim.Native.Nat.{ℕ, suc, ◌+◌, ◌-◌}
use Rattle.line_judges.specs.Told.{Lowest}
use Rattle.table.specs.View.{member_in, members_in}
use Rattle.row_store.proofs.NameLaws.{Lowest-none, Lowest-after}
use Rattle.row_store.proofs.lowest_name.Goals as goal

pub returns-then-j-eq0 : goal.returns-then-j-eq0
returns-then-j-eq0 c = subst (λ (j : ℕ). Lowest (members_in c.args.work.now c.args.i j) 0) (sym c.if-j-eq0.true) (Lowest-none (member_in c.args.work.now c.args.i))

pub returns : goal.returns
returns c =
    let e : suc (c.args.j - 1) ≡ c.args.j = omega (arith, c.if-j-eq0.false) in
    subst (λ (j : ℕ). Lowest (members_in c.args.work.now c.args.i j) (c.name_of.result + 1)) e
    (Lowest-after (member_in c.args.work.now c.args.i) (c.args.j - 1) c.member.result c.member.ensures (c.name_of.result + 1)
    (ap (λ (n : ℕ). n + 1) c.name_of.ensures.0))
