use Rattle.authority_marks.proofs.MarkLaws.{marks_cleared}
use Rattle.authority_marks.proofs.clear_marks.Goals as goal

pub returns : goal.returns
returns c = marks_cleared c.args.work.now c.fill.new.self c.requires (c.fill.ensures.after (λ y e. e))
