use Rattle.std.proofs.Common.{refl, sym, arith, length-take-le}
use Rattle.table.specs.Layout.{work_size}
use Rattle.question.specs.Cleared.{cleared}
use Rattle.question.proofs.clear.Goals as goal

pub returns : goal.returns
unfolding cleared
returns c = rw (c.fill.ensures.after (λ y e. e), length-take-le work_size c.args.work.now c.requires) refl

-- found without this, but not where must-fail/one_left_over writes another number
pub slice_bounds-fill-end-2 : goal.slice_bounds-fill-end-2
slice_bounds-fill-end-2 c = sym (length-take-le work_size c.args.work.now c.requires)
