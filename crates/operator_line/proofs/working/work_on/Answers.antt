use Rattle.std.proofs.Common.{◌≡◌, Some, sym, ap, subst, ◌∙◌}
use Rattle.journaled_book.specs.Journaled.{log_of}
use Rattle.operator_line.specs.Answering.{Stays}
use Rattle.operator_line.specs.Sessions.{session_log, sitting_of}
use Rattle.operator_line.proofs.Settling.{round_goes, round_still, stayed_works}
use Rattle.operator_line.proofs.working.work_on.Goals as goal

pub settle-requires-clause-goes : goal.settle-requires-clause-goes
settle-requires-clause-goes g c =
    round_goes c.entry_count-begun.result c.args.moves (g.B.Events.log c.take_out-book.result.0) (g.B.Events.log c.in-Ok.field-0.book) c.entry_count-begun.ensures c.in-Ok.ensures.ok
    (log_of g.B.Events.log c.take_out-book.result.1.book) (ap (log_of g.B.Events.log) (ap (λ j. j.book) c.take_out-book.ensures.away ∙ c.take_out-book.ensures.book))

pub returns-then-entry_count-begun-clause-worked : goal.returns-then-entry_count-begun-clause-worked
returns-then-entry_count-begun-clause-worked g c =
    let was = (g.B.Events.log c.take_out-book.result.0) in
    let after = (g.B.Events.log c.in-Ok.field-0.book) in
    let before : session_log g.B.Events.log (sitting_of c.args.hand) ≡ Some was = ap (λ h. session_log g.B.Events.log (sitting_of h)) c.in-Open.is ∙ ap (λ o. log_of g.B.Events.log o.book) (sym c.open.view_is) ∙ ap (log_of g.B.Events.log) c.take_out-book.ensures.book in
    let away : log_of g.B.Events.log c.take_out-book.result.1.book ≡ Some was = ap (log_of g.B.Events.log) (ap (λ j. j.book) c.take_out-book.ensures.away ∙ c.take_out-book.ensures.book) in
    let still : after ≡ was = round_still c.entry_count-begun.result c.args.moves was after c.entry_count-begun.ensures c.in-Ok.ensures.ok (sym c.entry_count.ensures ∙ c.if-entry_count-begun.true) in
    stayed_works c.stay-worked.result was (session_log g.B.Events.log (sitting_of c.args.hand)) (session_log g.B.Events.log (sitting_of c.open_again.result)) c.args.workers c.args.moves before
    (c.open_again.ensures.same ∙ away ∙ sym before) (subst (Stays c.stay-worked.result) still c.stay-worked.ensures)
