use Rattle.command_lines.proofs.Utf8.{not_utf8}
use Rattle.command_lines.specs.Grammar.{command_of}
use Rattle.operator_line.specs.Sessions.{session_log}
use Rattle.operator_line.proofs.Sessions.{line_refused, no_text}
use Rattle.operator_line.proofs.session.Session.answer_bytes.Goals as goal

pub returns-in-Err-clause-ok : goal.returns-in-Err-clause-ok
returns-in-Err-clause-ok g c =
    let line = c.args.line.now in
    line_refused c.refuse_line.result (command_of line) _ (session_log g.B.Events.log c.args.self.now) (no_text line (not_utf8 line c.in-Err.ensures.cases.0)) c.refuse_line.ensures
