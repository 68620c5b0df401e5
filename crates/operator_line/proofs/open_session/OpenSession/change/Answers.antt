use Rattle.std.proofs.Common.{rules, ◌≡◌, ◌++◌, true, false, List, ℕ, Option, None, Ok, Err, inl, inr, refl, string_bytes, ap, ◌∙◌}
use Rattle.std.specs.Prelude.{is_some}
use Rattle.std.proofs.lemmas.Result.{on_ok_weaker}
use Rattle.book_log.specs.Legal.{IsAccepted}
use Rattle.book_log.specs.Log.{Log}
use Rattle.journaled_book.specs.Journaled.{log_of, with_entry}
use Rattle.journaled_book.specs.Answered.{IsCommandAnswered}
use Rattle.operator_line.specs.Answers.{journal_reply}
use Rattle.operator_line.specs.Sessions.{log_in}
use Rattle.reply_lines.specs.Replies.{entry_reply, no_table, refusal_reply, refused}
use Rattle.reply_lines.specs.declared.reply.Reply.{Reply}
use Rattle.operator_line.proofs.Replied.{answers_entered, answers_no_table, answers_refused, in_log, refused_told}
use Rattle.operator_line.proofs.Sessions.{answers_closed, answers_open}
use Rattle.operator_line.proofs.open_session.OpenSession.change.Goals as goal
use Rattle.operator_line.proofs.open_session.OpenSession.change.Goals.{in-Ok-enter, in-Err-enter}

pub returns-then-not-is_open-clause-ok : goal.returns-then-not-is_open-clause-ok
returns-then-not-is_open-clause-ok g c = λ command is.
    let book = c.self.inside.book.book in
    let closed : is_some book ≡ false = search rules in
    rw (← c.self.view_is) (answers_closed g.B.Events.log book command c.refuse.result _ closed
    (on_ok_weaker c.refuse.result (λ e. answers_no_table c.args.line.now command is c.args.change _ None c.requires.says (e ∙ ap (λ (l : List ℕ). l ++ refused no_table) c.requires.empty, refl)) c.refuse.ensures.ok))

pub returns-in-Err-clause-ok : goal.returns-in-Err-clause-ok
returns-in-Err-clause-ok g c = λ command is.
    let book = c.self.inside.book.book in
    let opened : is_some book ≡ true = search rules in
    let e = c.in-Err.refusal in
    let r = c.refuse_command.result in
    rw (← c.self.view_is) (answers_open g.B.Events.log book command r _ _ opened
    (λ b at.
    let answer = in_log g.B.Events.log (λ s. IsCommandAnswered s c.args.change (Err e)) book (g.B.Events.log b) (ap (log_of g.B.Events.log) at) c.in-Err.ensures.answer in
    refused_told e r _ _
    (λ kept told. answers_refused c.args.line.now command is (g.B.Events.log b) _ _ e kept (told ∙ ap (λ (l : List ℕ). l ++ refusal_reply e) c.requires.empty, c.prepare.ensures.log ∙ ap (log_of g.B.Events.log) at) c.args.change answer c.requires.says)
    c.refuse_command.ensures.memory c.refuse_command.ensures.ok))

pub returns-clause-ok : goal.returns-clause-ok
returns-clause-ok g c = λ command is.
    let book = c.self.inside.book.book in
    let opened : is_some book ≡ true = search rules in
    let made = c.in-Ok.made in
    let text = string_bytes c.match-enter.reply.text in
    let after = log_in g.B.Events.log c.enter.new.self in
    rw (← c.self.view_is) (answers_open g.B.Events.log book command c.match-enter.result text after opened
    (λ b at.
    let held = ap (log_of g.B.Events.log) at in
    let answer = in_log g.B.Events.log (λ s. IsCommandAnswered s c.args.change (Ok (g.B.BookCalls.entry_in made))) book (g.B.Events.log b) held c.in-Ok.ensures.answer in
    let ok = in_log g.B.Events.log (λ s. IsAccepted s (g.B.BookCalls.entry_in made)) book (g.B.Events.log b) held c.in-Ok.ensures.accepted in
    let kept = c.prepare.ensures.log ∙ held in
    let entered = answers_entered c.args.line.now command is (g.B.Events.log b) text after c.args.change (g.B.BookCalls.entry_in made) answer ok c.requires.says in
    let written = c.in_default.ensures.ok ∙ ap (λ (l : List ℕ). l ++ entry_reply c.entry_of.result.now) c.requires.empty ∙ ap entry_reply c.entry_of.ensures in
    elim c.match-enter.branch [
      | in-Ok-enter w ↦ rw w.result-is (entered (inl (ap (λ (r : Reply). string_bytes r.text) w.reply-is ∙ written, w.in-Ok-enter.ensures.ok ∙ ap (λ (s : Option Log). with_entry s (g.B.BookCalls.entry_in made)) kept)))
      | in-Err-enter w ↦ rw w.result-is (on_ok_weaker w.refuse-in-Err-enter.result
          (λ e. entered (inr (ap (λ (r : Reply). string_bytes r.text) w.reply-is ∙ e ∙ ap (λ (l : List ℕ). l ++ journal_reply) w.clear.ensures, ap (log_of g.B.Events.log) w.in-Err-enter.ensures.err ∙ kept))) w.refuse-in-Err-enter.ensures.ok)
    ]))
