use mathlib.Core.Bool.{not}
use mathlib.Core.Path.{sym, ap, ◌∙◌}
use borrow.Author.Tests.{not-true, not-false}
use Rattle.sheet_rules.specs.RowLines.{mentions_below}
use Rattle.row_reader.proofs.KeepLaws.{keep_twin, keep_not, keep_good}
use Rattle.row_reader.proofs.keep_member.Goals as goal

pub returns-then-completes_twin : goal.returns-then-completes_twin
returns-then-completes_twin c =
    keep_twin c.requires.0 c.requires.1 c.member_kind-kind.ensures c.put_member.ensures c.args.line c.args.member.next (sym c.completes_twin.ensures ∙ c.if-completes_twin.true)

pub returns-then-not-mentions_below : goal.returns-then-not-mentions_below
returns-then-not-mentions_below c =
    keep_not c.requires.0 c.requires.1 c.member_kind-kind.ensures c.put_member.ensures c.args.line c.args.member.next (sym c.completes_twin.ensures ∙ c.if-completes_twin.false)
    (sym (c.mentions_below.ensures ∙ ap (mentions_below c.args.at.i) c.member-m.ensures) ∙ not-true c.mentions_below.result (ap not c.if-not-mentions_below.true))

pub returns : goal.returns
returns c =
    keep_good c.requires.0 c.requires.1 c.member_kind-kind.ensures c.put_member.ensures c.args.line c.args.member.next (sym c.completes_twin.ensures ∙ c.if-completes_twin.false) c.requires.2
    (sym (c.mentions_below.ensures ∙ ap (mentions_below c.args.at.i) c.member-m.ensures) ∙ not-false c.mentions_below.result (ap not c.if-not-mentions_below.false))
