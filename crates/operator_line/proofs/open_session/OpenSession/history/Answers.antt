use Rattle.std.proofs.Common.{rules, ◌≡◌, ◌++◌, Some, OnOk, map, string_bytes, refl, ap, ◌∙◌}
use Rattle.std.proofs.lemmas.Result.{on_ok_weaker}
use Rattle.book_log.specs.Log.{remaining}
use Rattle.journaled_book.specs.Journaled.{log_of}
use Rattle.journaled_book.specs.StepRecord.{StepRecord}
use Rattle.step_names.specs.Written.{step_text}
use Rattle.operator_line.specs.Answers.{history_reply, AnswersUnchanged}
use Rattle.operator_line.specs.Sessions.{log_in}
use Rattle.reply_lines.specs.Replies.{list_reply}
use Rattle.operator_line.proofs.Replied.{texts-named}
use Rattle.operator_line.proofs.open_session.OpenSession.history.Goals as goal

pub returns-in-Some : goal.returns-in-Some
returns-in-Some g c =
    let log = g.B.Events.log c.in-Some.book.now in
    let held : c.args.self.now.book ≡ Some c.in-Some.book.now = search rules in
    let opened : log_in g.B.Events.log c.args.self.now ≡ Some log = ap (log_of g.B.Events.log) held in
    let texts = texts-named c.history.result.now.items (remaining log) c.history.ensures.names in
    let said : OnOk c.accept_steps.result (AnswersUnchanged (history_reply log) (Some log) (string_bytes c.accept_steps.new.self.text) (Some log)) =
    on_ok_weaker c.accept_steps.result (λ e. (e ∙ ap (λ l. l ++ list_reply (map (λ (r : StepRecord). step_text r.fact.name) c.history.result.now.items)) c.requires ∙ ap list_reply texts, refl)) c.accept_steps.ensures.ok
    in
    record { ok = rw opened said }
