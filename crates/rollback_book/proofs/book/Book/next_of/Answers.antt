use Rattle.std.proofs.Common.{◌≡◌, false, sym, subst, Option, Some}
use Rattle.std.specs.Prelude.{IfSome}
use Rattle.step_history.specs.Frame.{Frame}
use Rattle.saved_steps.specs.Effects.{waits}
use Rattle.saved_steps.specs.Held.{frames_of}
use Rattle.step_history.specs.Levels.{HasNamesBelow}
use Rattle.rollback_book.specs.Book.{BookView, book_view}
use Rattle.rollback_book.specs.Ready.{IsNextOf, IsReadyTo}
use Rattle.rollback_book.proofs.Moving.{Finds, has_next, next_is, ready_lacks}
use Rattle.rollback_book.proofs.book.Book.next_of.Goals as goal
use Rattle.step_history.specs.History.{history_world}

pub next_name-requires : goal.next_name-requires
next_name-requires c = c.in_ok-machine.ensures.few

pub next_of-requires-clause-frame : goal.next_of-requires-clause-frame
next_of-requires-clause-frame c = subst (λ (b : BookView). frames_of (history_world b.history) c.args.thread.now ≡ Some c.in_ok-machine.frame.now) (sym c.self.view_is) c.in_ok-machine.ensures.frame

pub next_of-requires-clause-depth : goal.next_of-requires-clause-depth
next_of-requires-clause-depth c =
    subst (λ (b : BookView). IfSome (frames_of (history_world b.history) c.args.thread.now) (HasNamesBelow c.args.thread.now)) (sym c.self.view_is)
    (subst (λ (o : Option Frame). IfSome o (HasNamesBelow c.args.thread.now)) (sym c.in_ok-machine.ensures.frame) c.in_ok-machine.ensures.below)

pub next_of-requires-clause-begins : goal.next_of-requires-clause-begins
next_of-requires-clause-begins c ready =
    subst (λ (b : BookView). waits (frames_of (history_world b.history)) c.args.thread.now c.in_ok-machine.frame.now ≡ false) (sym c.self.view_is) (c.in_ok-machine.ensures.begins ready)

pub unreachable-requires : goal.unreachable-requires
unreachable-requires c =
    let b = book_view c.self.inside.begin c.self.inside.machines c.self.inside.history c.self.inside.entries c.self.inside.settled c.self.inside.held in
    let t = c.args.thread.now in
    let m = c.in_ok-machine.machine.now in
    let f = c.in_ok-machine.frame.now in
    let ready = subst (λ (b : BookView). IsReadyTo b t m f) (sym c.self.view_is) c.in_ok-machine.ensures in
    has_next b c.self.invariant t f ready.frame m ready (subst (Finds b t m) c.in-Ok-None.field-0-is c.in-Ok-None.ensures)

pub returns-in-Ok-Some : goal.returns-in-Ok-Some
returns-in-Ok-Some c =
    let b = book_view c.self.inside.begin c.self.inside.machines c.self.inside.history c.self.inside.entries c.self.inside.settled c.self.inside.held in
    let t = c.args.thread.now in
    let m = c.in_ok-machine.machine.now in
    let f = c.in_ok-machine.frame.now in
    let ready = subst (λ (b : BookView). IsReadyTo b t m f) (sym c.self.view_is) c.in_ok-machine.ensures in
    subst (λ (b : BookView). IsNextOf b t c.in-Ok.name c.in-Ok-Some.next) c.self.view_is
    (next_is b c.self.invariant t f ready.frame m c.in-Ok.name c.in-Ok-Some.next ready c.in-Ok.ensures (subst (Finds b t m) c.in-Ok-Some.field-0-is c.in-Ok-Some.ensures))

pub returns-in_default : goal.returns-in_default
returns-in_default c = ready_lacks c.args.self.now c.args.thread.now c.in_ok-machine.machine.now c.in_ok-machine.frame.now c.in_ok-machine.ensures

pub returns-in-Err : goal.returns-in-Err
returns-in-Err c = ready_lacks c.args.self.now c.args.thread.now c.in_ok-machine.machine.now c.in_ok-machine.frame.now c.in_ok-machine.ensures
