use native.Mathlib.Omega.{arith}
use Rattle.form_reader.proofs.PartsLaws.{parts_start, parts_stop, parts_next, parts_end}
use Rattle.form_reader.proofs.read_parts.Goals as goal

pub loop-j-init : goal.loop-j-init
loop-j-init c = parts_start c.requires.0

pub returns-in_err-here : goal.returns-in_err-here
returns-in_err-here c =
    parts_stop c.args.form.forms c.requires.1 c.loop-j.invariant c.loop-j-test.true c.member-m.ensures c.read_part.ensures c.in_err-here.was c.from_residual.ensures.1

pub loop-j-preserved : goal.loop-j-preserved
loop-j-preserved c =
    parts_next c.args.form.forms c.requires.1 c.loop-j.invariant c.loop-j-test.true c.member-m.ensures c.read_part.ensures c.in_ok-here.was

pub returns : goal.returns
returns c = parts_end c.loop-j.invariant (omega arith)
