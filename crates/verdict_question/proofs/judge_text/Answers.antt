use Rattle.verdict_question.proofs.JudgeLaws.{text_refused, fill_comparable, judge_asks, text_judged}
use Rattle.verdict_question.proofs.judge_text.Goals as goal

pub returns-in_default : goal.returns-in_default
returns-in_default c =
    text_refused c.requires c.read_sheet-read.ensures c.in_default.is

pub fill-requires : goal.fill-requires
fill-requires c =
    fill_comparable c.requires c.read_sheet-read.ensures c.in-Accepted.is c.row_count-rows.ensures

pub judge_sheet-requires : goal.judge_sheet-requires
judge_sheet-requires c =
    judge_asks c.requires c.read_sheet-read.ensures c.in-Accepted.is c.row_count-rows.ensures c.fill.ensures

pub returns : goal.returns
returns c =
    text_judged c.requires c.read_sheet-read.ensures c.in-Accepted.is c.row_count-rows.ensures c.fill.ensures c.judge_sheet.ensures
