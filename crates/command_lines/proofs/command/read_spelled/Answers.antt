use Rattle.std.proofs.Common.{◌≡◌, ◌∙◌, sym, subst, Some, IfOk}
use Rattle.command_lines.specs.Grammar.{command_view}
use Rattle.command_lines.proofs.Keywords.{by_keyword}
use Rattle.command_lines.proofs.command.read_spelled.Goals as goal

pub returns-in-Some-clause-ok : goal.returns-in-Some-clause-ok
returns-in-Some-clause-ok c =
    let is = by_keyword c.args.text.now c.in-Some.keyword.now c.in-Some.rest.now c.in_default.not-items c.in_default.not-history c.in_default.not-settle c.in_default.not-held c.in-Some.ensures in
    subst (λ o. IfOk c.read_words.result (λ command. o ≡ Some (command_view command))) (sym is) c.read_words.ensures.ok

pub returns-in-Some-clause-bad : goal.returns-in-Some-clause-bad
returns-in-Some-clause-bad c =
    let is = by_keyword c.args.text.now c.in-Some.keyword.now c.in-Some.rest.now c.in_default.not-items c.in_default.not-history c.in_default.not-settle c.in_default.not-held c.in-Some.ensures in
    (λ e. is ∙ c.read_words.ensures.bad.0 e, λ e. c.read_words.ensures.bad.1 (sym is ∙ e))
