use Rattle.type_rules.specs.FitQuestion.{fit_reply, fit_told}
use Rattle.question.proofs.ToldLaws.{told_ok, told_err}
use Rattle.reader.proofs.OnReading.{read_whole, told_read}
use Rattle.fit_question.proofs.AskedLaws.{told_on, unread_told}
use Rattle.fit_question.proofs.fn.ask_fit.ask.Goals as goal

pub told_in-requires : goal.told_in-requires
told_in-requires c = read_whole c.requires c.read_sheet.ensures (told_ok c.told.ensures c.in-Ok.is)

pub returns-in-Ok : goal.returns-in-Ok
unfolding fit_reply fit_told
returns-in-Ok c = told_read c.requires c.read_sheet.ensures (told_on c.captures.a c.captures.b) (told_ok c.told.ensures c.in-Ok.is) c.told_in.ensures

pub returns-in-Err : goal.returns-in-Err
returns-in-Err c = unread_told c.requires c.read_sheet.ensures c.captures.a c.captures.b (told_err c.told.ensures c.in-Err.is) c.refused.ensures
