use Rattle.std.proofs.Common.{◌++◌, List, ℕ, inl, inr, ap, ◌∙◌}
use Rattle.std.proofs.lemmas.Result.{on_ok_weaker}
use Rattle.book_log.specs.Beginning.{begun_table}
use Rattle.journaled_book.specs.Journaled.{log_of}
use Rattle.operator_line.specs.Answers.{journal_reply}
use Rattle.reply_lines.specs.Replies.{item_fault_reply}
use Rattle.operator_line.proofs.Json.{begin-item, begin-journal, begin-refused, begin-unwritten}
use Rattle.operator_line.proofs.open_session.OpenSession.begin.Goals as goal
use Rattle.operator_line.proofs.open_session.OpenSession.begin.Goals.{in-Item, in-Journal}

pub returns-clause-ok : goal.returns-clause-ok
returns-clause-ok g c =
    let begin = c.args.begin in
    let refused = c.in-Err.ensures.refused in
    elim c.match-refusal.branch [
      | in-Item w ↦ rw (w.result-is, w.reply-is) (elim (begin-item begin c.in-Err.refusal w.in-Item.fault w.in-Item.is refused) [
        | inl memory ↦ on_ok_weaker w.refuse_item.result (λ b. absurd b) (w.refuse_item.ensures.memory memory)
        | inr is ↦ on_ok_weaker w.refuse_item.result
            (λ e. begin-refused begin (begun_table begin) w.in-Item.fault _ _ is (e ∙ ap (λ (l : List ℕ). l ++ item_fault_reply w.in-Item.fault) c.clear.ensures, ap (log_of g.B.Events.log) c.in-Err.ensures.err)) w.refuse_item.ensures.ok
      ])
      | in-Journal w ↦ rw (w.result-is, w.reply-is)
          (on_ok_weaker w.refuse.result (λ e. begin-unwritten begin (begun_table begin) _ _ (begin-journal begin c.in-Err.refusal w.in-Journal.field-0 w.in-Journal.is refused) (e ∙ ap (λ (l : List ℕ). l ++ journal_reply) c.clear.ensures, ap (log_of g.B.Events.log) c.in-Err.ensures.err)) w.refuse.ensures.ok)
    ]
