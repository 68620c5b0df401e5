use Rattle.std.proofs.Common.{◌≡◌, ◌∙◌, sym, subst, Some, IfOk}
use Rattle.std.specs.Str.{IsUtf8}
use Rattle.command_lines.specs.Grammar.{command_view}
use Rattle.command_lines.proofs.Utf8.{is_its_text}
use Rattle.command_lines.proofs.command.Command.read_text.Goals as goal

pub returns-clause-ok : goal.returns-clause-ok
returns-clause-ok c =
    let is = is_its_text c.args.text.now (subst IsUtf8 c.as_bytes.ensures.value c.as_bytes.ensures.utf8) in
    subst (λ o. IfOk c.read_line.result (λ command. o ≡ Some (command_view command))) (sym is) c.read_line.ensures.ok

pub returns-clause-bad : goal.returns-clause-bad
returns-clause-bad c =
    let is = is_its_text c.args.text.now (subst IsUtf8 c.as_bytes.ensures.value c.as_bytes.ensures.utf8) in
    (λ e. is ∙ c.read_line.ensures.bad.0 e, λ e. c.read_line.ensures.bad.1 (sym is ∙ e))
