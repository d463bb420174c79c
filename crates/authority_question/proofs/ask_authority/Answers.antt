use Rattle.authority_question.proofs.HeldLaws.{one_asked}
use Rattle.authority_question.proofs.ask_authority.Goals as goal

pub returns : goal.returns
returns c =
    one_asked c.args.text.now c.args.budget c.args.h c.listed.ensures c.ask_group.ensures
