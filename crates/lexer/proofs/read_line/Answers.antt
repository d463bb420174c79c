use mathlib.Core.Path.{sym, ap, ◌∙◌}
use Rattle.std.proofs.Common.{rules}
use mathlib.Core.Path.{◌≡◌}
use lib.ListN.{length}
use Rattle.lexer.proofs.NumbersLaws.{length_list}
use Rattle.lexer.specs.Told.{numbers_told, keyed_told}
use Rattle.lexer.proofs.ScanSteps.{key_within, line_no_key, line_no_numbers, line_by_key}
use Rattle.lexer.proofs.read_line.Goals as goal

pub returns-in_err-code-clause-read : goal.returns-in_err-code-clause-read
returns-in_err-code-clause-read c =
    ap keyed_told c.from_residual.ensures ∙ sym (line_no_key c.args.text.now c.args.from (sym c.read_key.ensures ∙ c.in_err-code.was))

pub read_numbers-requires : goal.read_numbers-requires
read_numbers-requires c =
    key_within c.args.text.now c.args.from _ c.requires (sym c.read_key.ensures ∙ c.in_ok-code.was)

pub returns-in_err-numbers-clause-read : goal.returns-in_err-numbers-clause-read
returns-in_err-numbers-clause-read c =
    ap keyed_told c.from_residual-in_err-numbers.ensures
    ∙ sym (line_no_numbers c.args.text.now c.args.from _ (sym c.read_key.ensures ∙ c.in_ok-code.was)
    (sym c.read_numbers.ensures.read ∙ ap numbers_told c.in_err-numbers.was))

pub returns-then-not-takes-clause-read : goal.returns-then-not-takes-clause-read
returns-then-not-takes-clause-read c =
    let size : length c.in_ok-numbers.numbers.values ≡ 9 = search rules in
    sym (line_by_key c.args.text.now c.args.from _ _ (sym c.read_key.ensures ∙ c.in_ok-code.was)
    (sym c.read_numbers.ensures.read ∙ ap numbers_told c.in_ok-numbers.was)
    c.key_of-key.result c.key_of-key.ensures _ (length_list c.in_ok-numbers.numbers size) _ (sym c.if-not-takes.ensures))

pub returns-clause-read : goal.returns-clause-read
returns-clause-read c =
    let size : length c.in_ok-numbers.numbers.values ≡ 9 = search rules in
    sym (line_by_key c.args.text.now c.args.from _ _ (sym c.read_key.ensures ∙ c.in_ok-code.was)
    (sym c.read_numbers.ensures.read ∙ ap numbers_told c.in_ok-numbers.was)
    c.key_of-key.result c.key_of-key.ensures _ (length_list c.in_ok-numbers.numbers size) _ (sym c.if-not-takes.ensures))
