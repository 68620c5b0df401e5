use Rattle.std.proofs.Common.{◌≡◌, ◌∙◌, arith, length, ap, sym, subst, Some, None}
use Rattle.std.proofs.lemmas.Option.{slice_get_within}
use Rattle.saved_steps.specs.Made.{fact_made}
use Rattle.book_log.specs.Answers.{needed_left}
use Rattle.rollback_book.specs.Book.{BookView, book_view}
use Rattle.rollback_book.specs.Holding.{IsHoldOf}
use Rattle.rollback_book.specs.Ready.{HasRoomUnlessHeld, MayEnter}
use Rattle.rollback_book.proofs.Needed.{none_needed, one_needed, needed_there, unheld_may}
use Rattle.rollback_book.proofs.book.Book.check_made.Goals as goal
use Rattle.step_history.specs.History.{history_records}

pub returns-in_default-clause-answer : goal.returns-in_default-clause-answer
returns-in_default-clause-answer c =
    let b = book_view c.self.inside.begin c.self.inside.machines c.self.inside.history c.self.inside.entries c.self.inside.settled c.self.inside.held in
    let free = subst (λ (b : BookView). HasRoomUnlessHeld b.log) (sym c.self.view_is) c.requires in
    subst (λ (b : BookView). MayEnter b.log (fact_made c.args.step.now)) c.self.view_is (unheld_may b c.self.invariant (fact_made c.args.step.now) c.in_default.is free)

pub get-needed-requires : goal.get-needed-requires
get-needed-requires c =
    let b = book_view c.self.inside.begin c.self.inside.machines c.self.inside.history c.self.inside.entries c.self.inside.settled c.self.inside.held in
    let is = subst (λ o. IsHoldOf b.log (history_records b.history) o) c.in-Some.is c.self.invariant.held in
    let found = rw c.records.ensures at c.in_ok-place.ensures in
    let r = needed_there b c.self.invariant c.in-Some.hold (fact_made c.args.step.now) is c.in_ok-place.field-0 c.in-Some-2.place found c.in-Some-2.is in
    let within = slice_get_within (history_records b.history) c.in-Some-2.place r.0 r.1 in
    let long = ap length c.records-in-Some-2.ensures in
    omega (arith, within, long)

pub returns-in-Some-2-clause-answer : goal.returns-in-Some-2-clause-answer
returns-in-Some-2-clause-answer c =
    let b = book_view c.self.inside.begin c.self.inside.machines c.self.inside.history c.self.inside.entries c.self.inside.settled c.self.inside.held in
    let f = fact_made c.args.step.now in
    let is = subst (λ o. IsHoldOf b.log (history_records b.history) o) c.in-Some.is c.self.invariant.held in
    let found = rw c.records.ensures at c.in_ok-place.ensures in
    let r = c.get-needed.result.now in
    let here = rw c.records-in-Some-2.ensures at c.get-needed.ensures in (
      r.fact,
      subst (λ (b : BookView). needed_left b.log f ≡ Some r.fact) c.self.view_is (one_needed b c.self.invariant c.in-Some.hold f is c.in_ok-place.field-0 c.in-Some-2.place r found c.in-Some-2.is here),
      c.in_ok-copy.ensures,
    )

pub returns-then-is_full-clause-answer : goal.returns-then-is_full-clause-answer
returns-then-is_full-clause-answer c =
    let b = book_view c.self.inside.begin c.self.inside.machines c.self.inside.history c.self.inside.entries c.self.inside.settled c.self.inside.held in
    let f = fact_made c.args.step.now in
    let is = subst (λ o. IsHoldOf b.log (history_records b.history) o) c.in-Some.is c.self.invariant.held in
    let found = rw c.records.ensures at c.in_ok-place.ensures in
    (subst (λ (b : BookView). needed_left b.log f ≡ None) c.self.view_is (none_needed b c.self.invariant c.in-Some.hold f is c.in_ok-place.field-0 found c.in_default-2.is), sym c.is_full.ensures ∙ c.if-is_full.true)

pub returns-clause-answer : goal.returns-clause-answer
returns-clause-answer c =
    let b = book_view c.self.inside.begin c.self.inside.machines c.self.inside.history c.self.inside.entries c.self.inside.settled c.self.inside.held in
    let f = fact_made c.args.step.now in
    let is = subst (λ o. IsHoldOf b.log (history_records b.history) o) c.in-Some.is c.self.invariant.held in
    let found = rw c.records.ensures at c.in_ok-place.ensures in
    (subst (λ (b : BookView). needed_left b.log f ≡ None) c.self.view_is (none_needed b c.self.invariant c.in-Some.hold f is c.in_ok-place.field-0 found c.in_default-2.is), sym c.is_full.ensures ∙ c.if-is_full.false)
