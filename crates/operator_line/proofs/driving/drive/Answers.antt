use Rattle.std.proofs.Common.{◌≡◌, ◌++◌, List, [], ℕ, map, Some, OnOk, string_bytes, sym, ap, ◌∙◌}
use Rattle.std.proofs.lemmas.Result.{on_ok_weaker}
use Rattle.step_names.specs.Written.{step_text}
use Rattle.book_log.specs.Log.{Log}
use Rattle.operator_line.specs.Answers.{AnswersDrive, drive_reply, turn_steps}
use Rattle.operator_line.specs.Sessions.{log_in}
use Rattle.reply_lines.specs.Replies.{names_reply}
use Rattle.operator_line.proofs.Sessions.{some_log, if_log, on_err-from}
use Rattle.operator_line.proofs.Taken.{none_taken, drive_done, drive_taken}
use Rattle.operator_line.proofs.driving.drive.Goals as goal
use Rattle.operator_line.proofs.driving.drive.Goals.{in_default-via-in-Some+else-count-eq0, in_default-via-in_default}

pub returns-in-Some-clause-err : goal.returns-in-Some-clause-err
returns-in-Some-clause-err g c =
    let s = some_log g.B.Events.log c.args.book.now.book c.requires.open in
    let it = c.in-Some.ensures.taken s.0 s.1 in
    let none : c.take_steps.new.lines.count ≡ 0 = sym c.count.ensures ∙ c.if-count-eq0.true in
    on_err-from c.refuse_change.result _ (it.1 ∙ ap (λ (x : Log). Some x) (none_taken c.args.count s.0 it.0 c.take_steps.new.lines c.in-Some.fault it.2 none) ∙ sym s.1)

pub returns-clause-ok : goal.returns-clause-ok
returns-clause-ok g c =
    let text = string_bytes c.accept_lines.new.self.text in
    let after = log_in g.B.Events.log c.take_steps.new.book in
    let empty : string_bytes c.take_steps.new.reply.text ≡ [] = c.take_steps.ensures.text ∙ c.reserve_lines.ensures.same ∙ c.requires.empty in
    if_log (λ log. OnOk c.accept_lines.result (AnswersDrive log c.args.count text after)) (log_in g.B.Events.log c.args.book.now)
    (λ before held.
    let it = c.take_steps.ensures.taken before held in
    let names = turn_steps it.2.turns in
    let stop = c.take_steps.result in
    let told_is : drive_reply names stop ≡ names_reply names = elim c.in_default.branch [
      | in_default-via-in-Some+else-count-eq0 w ↦ drive_taken c.take_steps.new.lines names stop it.2.lines_are (λ z. w.if-count-eq0.false (w.count.ensures ∙ z))
      | in_default-via-in_default w ↦ drive_done names stop w.in_default.is
    ] in
    on_ok_weaker c.accept_lines.result
    (λ e. record { turns = it.2.turns; stop = stop; last = it.0; drives = it.2.drives; told = (e ∙ ap (λ (l : List ℕ). l ++ names_reply names) empty ∙ sym told_is, it.1) })
    (c.accept_lines.ensures.ok (map step_text names) it.2.lines_are))
