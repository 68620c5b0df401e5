use Rattle.std.proofs.Common.{◌≡◌, ◌∙◌, ap, length, subst, sym}
use Rattle.book_log.specs.Log.{left_of}
use Rattle.book_log.proofs.HoldSaid.{nothing_left}
use Rattle.step_index.specs.Held.{count_left}
use Rattle.rollback_book.specs.Book.{BookView, book_view}
use Rattle.rollback_book.specs.Holding.{IsHoldOf}
use Rattle.rollback_book.proofs.HoldMade.{left_counted}
use Rattle.rollback_book.proofs.book.Book.held_left.Goals as goal
use Rattle.step_history.specs.History.{history_records}

pub returns-in-Some : goal.returns-in-Some
returns-in-Some c =
    let b = book_view c.self.inside.begin c.self.inside.machines c.self.inside.history c.self.inside.entries c.self.inside.settled c.self.inside.held in
    let is = subst (λ o. IsHoldOf b.log (history_records b.history) o) c.in-Some.is c.self.invariant.held in
    subst (λ (b : BookView). c.len.result ≡ length (left_of b.log)) c.self.view_is (c.len.ensures ∙ ap count_left is.2 ∙ left_counted b.log c.self.invariant.legal)

pub returns-in-None : goal.returns-in-None
returns-in-None c =
    let b = book_view c.self.inside.begin c.self.inside.machines c.self.inside.history c.self.inside.entries c.self.inside.settled c.self.inside.held in
    let is = subst (λ o. IsHoldOf b.log (history_records b.history) o) c.in-None.is c.self.invariant.held in
    subst (λ (b : BookView). 0 ≡ length (left_of b.log)) c.self.view_is (sym (ap length (nothing_left b.log is)))
