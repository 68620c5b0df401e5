use Rattle.std.proofs.Common.{arith, length, ap, subst, None, Some}
use Rattle.book_log.proofs.HoldSaid.{nothing_left}
use Rattle.rollback_book.specs.Book.{BookView, book_view}
use Rattle.book_events.specs.Calls.{IsLatestLeft}
use Rattle.rollback_book.specs.Holding.{IsHoldOf}
use Rattle.rollback_book.proofs.Needed.{no_last, last_is, last_within}
use Rattle.rollback_book.proofs.book.Book.last_left.Goals as goal
use Rattle.step_history.specs.History.{history_records}

pub returns-in_default : goal.returns-in_default
returns-in_default c =
    let b = book_view c.self.inside.begin c.self.inside.machines c.self.inside.history c.self.inside.entries c.self.inside.settled c.self.inside.held in
    let is = subst (λ o. IsHoldOf b.log (history_records b.history) o) c.in_default.is c.self.invariant.held in
    subst (λ (b : BookView). IsLatestLeft b.log None) c.self.view_is (nothing_left b.log is)

pub get-requires : goal.get-requires
get-requires c =
    let b = book_view c.self.inside.begin c.self.inside.machines c.self.inside.history c.self.inside.entries c.self.inside.settled c.self.inside.held in
    let is = subst (λ o. IsHoldOf b.log (history_records b.history) o) c.in-Some.is c.self.invariant.held in
    let within = last_within b c.self.invariant c.in-Some.hold is c.last.result c.in-Some-last.place c.last.ensures c.in-Some-last.is in
    let long = ap length c.records.ensures in
    omega (arith, within, long)

pub returns-in-Some-last : goal.returns-in-Some-last
returns-in-Some-last c =
    let b = book_view c.self.inside.begin c.self.inside.machines c.self.inside.history c.self.inside.entries c.self.inside.settled c.self.inside.held in
    let is = subst (λ o. IsHoldOf b.log (history_records b.history) o) c.in-Some.is c.self.invariant.held in
    let r = c.get.result.now in
    let here = rw c.records.ensures at c.get.ensures in
    subst (λ (b : BookView). IsLatestLeft b.log (Some r.fact.name)) c.self.view_is (last_is b c.self.invariant c.in-Some.hold is c.last.result c.in-Some-last.place r c.last.ensures c.in-Some-last.is here)

pub returns-in-None : goal.returns-in-None
returns-in-None c =
    let b = book_view c.self.inside.begin c.self.inside.machines c.self.inside.history c.self.inside.entries c.self.inside.settled c.self.inside.held in
    let is = subst (λ o. IsHoldOf b.log (history_records b.history) o) c.in-Some.is c.self.invariant.held in
    subst (λ (b : BookView). IsLatestLeft b.log None) c.self.view_is (no_last b c.self.invariant c.in-Some.hold is c.last.result c.last.ensures c.in-None.is)
