use Rattle.std.proofs.Common.{◌≡◌, ◌∙◌, sym, subst, None}
use Rattle.book_log.specs.Log.{world_of}
use Rattle.book_log.specs.declared.refusal.Refusal.TheVariants.{NotReady}
use Rattle.rollback_book.specs.Book.{BookView, book_view}
use Rattle.book_events.specs.Tickets.{IsTicketed, IsTicketRefusal}
use Rattle.rollback_book.proofs.Moving.{machine_known}
use Rattle.rollback_book.proofs.Ticketed.{frame_there, no_ticket, ticketed}
use Rattle.rollback_book.proofs.book.Book.moving.Goals as goal

pub returns-in_default : goal.returns-in_default
returns-in_default c =
    subst (λ (b : BookView). (world_of b.log).frames c.args.thread.now ≡ None) c.self.view_is (frame_there _ c.self.invariant c.args.thread.now None c.in_default.ensures.frame)

pub returns-then-not-is_enabled : goal.returns-then-not-is_enabled
returns-then-not-is_enabled c =
    subst (λ (b : BookView). IsTicketRefusal b.log c.args.thread.now (NotReady c.in-Some.readiness)) c.self.view_is
    (no_ticket _ c.self.invariant c.args.thread.now c.in-Some.frame.now c.in-Some.ensures.frame c.in-Some.readiness c.in-Some.ensures.ready (sym c.is_enabled.ensures ∙ c.if-not-is_enabled.true))

pub unreachable-requires : goal.unreachable-requires
unreachable-requires c = machine_known _ c.self.invariant c.args.thread.now c.in-Some.frame.now (sym c.in-Some.ensures.frame) (sym c.in_default-machine_in.ensures)

pub returns : goal.returns
returns c =
    let b = book_view c.self.inside.begin c.self.inside.machines c.self.inside.history c.self.inside.entries c.self.inside.settled c.self.inside.held in
    subst (λ (b : BookView). IsTicketed b.log c.args.thread.now c.in-Some-machine_in.machine.now c.in-Some.frame.now) c.self.view_is
    (ticketed b c.self.invariant c.args.thread.now c.in-Some.frame.now c.in-Some.ensures.frame c.in-Some-machine_in.machine.now c.in-Some.readiness c.in-Some.ensures.ready
    (sym c.is_enabled.ensures ∙ c.if-not-is_enabled.false) c.in-Some-machine_in.ensures)
