use Rattle.std.proofs.Common.{rules, ◌≡◌, true, OnOk, string_bytes, subst}
use Rattle.std.specs.Prelude.{is_some, IfSome}
use Rattle.command_lines.specs.Grammar as grammar
use Rattle.journaled_book.specs.Journaled.{log_of}
use Rattle.operator_line.specs.Answers.{AnswersDrive}
use Rattle.operator_line.specs.Sessions.{log_in}
use Rattle.operator_line.proofs.Sessions.{answers_open}
use Rattle.operator_line.proofs.open_session.OpenSession.drive.Goals as goal

pub returns-clause-ok : goal.returns-clause-ok
returns-clause-ok g c =
    let book = c.self.inside.book.book in
    let opened : is_some book ≡ true = search rules in
    let text = string_bytes c.drive.new.reply.text in
    let after = log_in g.B.Events.log c.drive.new.book in
    rw (← c.self.view_is) (answers_open g.B.Events.log book (grammar.drive c.args.count) c.drive.result text after opened
    (λ b is. subst (λ o. IfSome (log_of g.B.Events.log o) (λ log. OnOk c.drive.result (AnswersDrive log c.args.count text after))) is c.drive.ensures.ok))

pub returns-clause-clean : goal.returns-clause-clean
returns-clause-clean g c = rw (← c.self.view_is) c.drive.ensures.clean
