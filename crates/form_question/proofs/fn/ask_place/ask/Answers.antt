use Rattle.std.proofs.Common.{List, ℕ, refl, sym, ap, ◌∙◌, subst}
use Rattle.std.proofs.lemmas.Result.{err_from_is_err_and}
use Rattle.std.specs.declared.result.Result.TheVariants.{Err}
use Rattle.sheet_rules.specs.Reading.{Meaning}
use Rattle.sheet_rules.specs.Stretch.{form_in, form_on, form_reply}
use Rattle.table.specs.Layout.{work_size}
use Rattle.table.specs.View.{sheet_in}
use Rattle.table.proofs.ViewLaws.{Only-refl}
use Rattle.question.specs.Asked.{ToldAlone}
use Rattle.question.proofs.ToldLaws.{told_ok, told_err}
use Rattle.reader.proofs.OnReading.{read_whole, told_read, told_unread}
use Rattle.form_question.proofs.fn.ask_place.ask.Goals as goal

pub returns-in_err-told : goal.returns-in_err-told
unfolding form_reply
returns-in_err-told c =
    let p = err_from_is_err_and c.from_residual.result c.from_residual.ensures.1 in
    subst (ToldAlone (form_reply c.captures.text.now c.captures.form) c.args.work.now c.read_sheet.new.work) (sym (p.1 ∙ ap Err p.2))
    (told_unread c.requires c.read_sheet.ensures (λ (m : Meaning). form_on c.captures.text.now m c.captures.form) (told_err c.told.ensures c.in_err-told.was))

pub of-requires : goal.of-requires
of-requires c = read_whole c.requires c.read_sheet.ensures (told_ok c.told.ensures c.in_ok-told.was)

pub returns : goal.returns
unfolding form_reply
returns c =
    told_read c.requires c.read_sheet.ensures (λ (m : Meaning). form_on c.captures.text.now m c.captures.form) (told_ok c.told.ensures c.in_ok-told.was)
    (record { same = c.place_in.ensures ∙ ap (λ (x : List ℕ). form_in c.captures.text.now (sheet_in x) c.captures.form) c.of.ensures; written = refl; only = Only-refl 0 work_size _ })
