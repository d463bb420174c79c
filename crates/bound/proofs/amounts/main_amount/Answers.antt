use Rattle.bound.proofs.AmountLaws.{main_told}
use Rattle.bound.proofs.amounts.main_amount.Goals as goal

pub returns : goal.returns
returns c =
    main_told c.args.sheet.now c.fill_amounts.ensures.cut c.main_start-start.ensures c.main_count-count.ensures.0 c.code_amount.ensures.0
