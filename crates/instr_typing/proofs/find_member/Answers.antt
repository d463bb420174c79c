use native.Mathlib.Omega.{arith}
use mathlib.Core.Path.{sym, subst}
use lib.ListN.{drop_of_length-le}
use Rattle.std.specs.declared.option.Option.TheVariants.{Some, None}
use Rattle.type_rules.specs.SlotRows.{members_at}
use Rattle.table.specs.View.{sheet_in}
use Rattle.instr_typing.specs.Found.{FirstOf, at_end}
use Rattle.instr_typing.proofs.FindLaws.{first_found, first_passed}
use Rattle.instr_typing.proofs.find_member.Goals as goal

pub returns-in-Some : goal.returns-in-Some
returns-in-Some g c =
    subst (λ a. FirstOf (λ m r. g.F.Fn.post c.args.find (m, tt) r) (members_at (sheet_in c.args.sheet.now) a) (Some c.in-Some.found)) c.wide-row.ensures
    (c.loop-j.invariant _ (first_found _ (members_at (sheet_in c.args.sheet.now) c.wide-row.result) (omega (arith, c.members_at-j-end.ensures.0)) c.member.ensures c.in-Some.ensures))

pub loop-j-preserved : goal.loop-j-preserved
loop-j-preserved g c = λ r rest.
    c.loop-j.invariant r (first_passed _ (members_at (sheet_in c.args.sheet.now) c.wide-row.result) (omega (arith, c.members_at-j-end.ensures.0)) c.member.ensures
    (subst (λ x. g.F.Fn.post c.args.find (c.member.result, tt) x) c.in_default.is c.find.ensures) rest)

pub returns : goal.returns
returns g c =
    subst (λ a. FirstOf (λ m r. g.F.Fn.post c.args.find (m, tt) r) (members_at (sheet_in c.args.sheet.now) a) None) c.wide-row.ensures
    (c.loop-j.invariant _ (subst (λ ms. FirstOf (λ m r. g.F.Fn.post c.args.find (m, tt) r) ms None)
    (sym (drop_of_length-le (members_at (sheet_in c.args.sheet.now) c.wide-row.result) (omega (arith, c.members_at-j-end.ensures.0)))) at_end))
