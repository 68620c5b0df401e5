use Rattle.std.proofs.Common.{subst, sym}
use Rattle.book_events.specs.Cursors.{cursor_place}
use Rattle.book_log.specs.Log.{world_of}
use Rattle.book_events.specs.First.{IsFirstReady}
use Rattle.shared_book.specs.Away.{LeavesOutMore, PassesNoOther, WereRefused, is_thread_among}
use Rattle.shared_book.specs.Claims.{thread_of}
use Rattle.shared_book.specs.Views.{DeskView}
use Rattle.shared_book.proofs.HeldBack.{were_fewer}
use Rattle.shared_book.proofs.Sought.{so_if_ok, sought}
use Rattle.shared_book.proofs.desk.Desk.claim.Goals as goal

pub returns-clause-away : goal.returns-clause-away
returns-clause-away g c = record { claimed = c.first_ticket.ensures.claimed; passed = subst (λ (d : DeskView). WereRefused d.log d.claims) c.self.view_is c.self.invariant.2 }

pub invariant_of-self-2 : goal.invariant_of-self-2
invariant_of-self-2 g c =
    let log = g.B.Events.log c.self.inside.book in
    let was = c.self.inside.side.claims in
    let now = c.note.new.claims in
    let found = thread_of c.in_ok-found.found in
    let ok = sym c.if-is_err.ensures.value in
    let ready = subst (λ (d : DeskView). IsFirstReady (world_of d.log).frames (is_thread_among d.claims.outside) found) (sym c.self.view_is) c.in_ok-found.ensures.ready in (
      c.self.invariant.0,
      c.self.invariant.1,
      were_fewer log was now (so_if_ok c.note.result (PassesNoOther was now) ok c.note.ensures.passed) c.self.invariant.2,
      sought log was now found (cursor_place c.move_on.new.cursor) (so_if_ok c.note.result (LeavesOutMore was now) ok c.note.ensures.more) ready c.move_on.ensures,
    )
