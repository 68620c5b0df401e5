use Rattle.std.proofs.Common.{◌≡◌, ◌∙◌, sym, ap, subst, false, Some, IfOk, refl}
use Rattle.std.specs.Str.{is_utf8}
use Rattle.command_lines.specs.Grammar.{command_of, command_view}
use Rattle.command_lines.proofs.Utf8.{not_utf8}
use Rattle.command_lines.proofs.command.Command.read.Goals as goal

pub returns-in-Ok-clause-ok : goal.returns-in-Ok-clause-ok
returns-in-Ok-clause-ok c =
    let is : command_of c.args.line.now ≡ command_of c.in-Ok.text.now = ap command_of (sym c.in-Ok.ensures.cases.0) in
    subst (λ o. IfOk c.read_text.result (λ command. o ≡ Some (command_view command))) (sym is) c.read_text.ensures.ok

pub returns-in-Ok-clause-bad : goal.returns-in-Ok-clause-bad
returns-in-Ok-clause-bad c =
    let is : command_of c.args.line.now ≡ command_of c.in-Ok.text.now = ap command_of (sym c.in-Ok.ensures.cases.0) in
    (λ e. is ∙ c.read_text.ensures.bad.0 e, λ e. c.read_text.ensures.bad.1 (sym is ∙ e))

pub returns-in-Err-clause-bad : goal.returns-in-Err-clause-bad
returns-in-Err-clause-bad c =
    let apart : is_utf8 c.args.line.now ≡ false = not_utf8 c.args.line.now c.in-Err.ensures.cases.0 in
    (λ e. rw apart, λ e. refl)
