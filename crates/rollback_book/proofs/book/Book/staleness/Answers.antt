use Rattle.std.proofs.Common.{◌≡◌, ◌∙◌, ap, inl, inr, refl, sym, subst, Some, None}
use Rattle.branch_tree.specs.First as first
use Rattle.step_history.specs.Frame.{Frame}
use Rattle.book_log.specs.Log.{world_of}
use Rattle.rollback_book.specs.Book.{BookView}
use Rattle.book_events.specs.Tickets.{log_readiness}
use Rattle.rollback_book.proofs.Ticketed.{frame_there, fresh_by, readiness_told}
use Rattle.rollback_book.proofs.book.Book.staleness.Goals as goal

pub returns-in_default : goal.returns-in_default
returns-in_default c =
    subst (λ (b : BookView). (world_of b.log).frames c.args.thread.now ≡ None) c.self.view_is (frame_there _ c.self.invariant c.args.thread.now None c.in_default.ensures.frame)

pub returns-then-not-is_ready : goal.returns-then-not-is_ready
returns-then-not-is_ready c =
    let t = c.args.thread.now in
    let there = subst (λ (b : BookView). (world_of b.log).frames t ≡ Some c.in-Some.frame.now) c.self.view_is (frame_there _ c.self.invariant t (Some c.in-Some.frame.now) c.in-Some.ensures.frame) in
    let told = subst (λ (b : BookView). c.in-Some.readiness ≡ log_readiness b.log t) c.self.view_is (readiness_told _ c.self.invariant t c.in-Some.readiness c.in-Some.ensures.ready) in
    (c.in-Some.frame.now, there, inl (sym c.is_ready.ensures ∙ c.if-not-is_ready.true), told)

pub returns-then-frame : goal.returns-then-frame
returns-then-frame c =
    let t = c.args.thread.now in
    let there = subst (λ (b : BookView). (world_of b.log).frames t ≡ Some c.in-Some.frame.now) c.self.view_is (frame_there _ c.self.invariant t (Some c.in-Some.frame.now) c.in-Some.ensures.frame) in
    (c.in-Some.frame.now, there, sym c.is_ready.ensures ∙ c.if-not-is_ready.false, refl, λ e. c.if-frame.true (e ∙ ap (λ (f : Frame). f.count) (sym c.frame.ensures)))

pub returns-then-not-is_source : goal.returns-then-not-is_source
returns-then-not-is_source c =
    let t = c.args.thread.now in
    let there = subst (λ (b : BookView). (world_of b.log).frames t ≡ Some c.in-Some.frame.now) c.self.view_is (frame_there _ c.self.invariant t (Some c.in-Some.frame.now) c.in-Some.ensures.frame) in
    (c.in-Some.frame.now, there, sym c.is_ready.ensures ∙ c.if-not-is_ready.false, c.if-frame.false ∙ ap (λ (f : Frame). f.count) c.frame.ensures, c.is_source.ensures.other c.if-not-is_source.true)

pub returns-then-not-is_enabled : goal.returns-then-not-is_enabled
returns-then-not-is_enabled c =
    let t = c.args.thread.now in
    let there = subst (λ (b : BookView). (world_of b.log).frames t ≡ Some c.in-Some.frame.now) c.self.view_is (frame_there _ c.self.invariant t (Some c.in-Some.frame.now) c.in-Some.ensures.frame) in
    let told = subst (λ (b : BookView). c.in-Some.readiness ≡ log_readiness b.log t) c.self.view_is (readiness_told _ c.self.invariant t c.in-Some.readiness c.in-Some.ensures.ready) in
    let waits = sym (ap first.is_free_to_move told) ∙ (sym c.is_enabled.ensures ∙ c.if-not-is_enabled.true) in
    (c.in-Some.frame.now, there, inr (c.is_source.ensures.same c.if-not-is_source.false, waits), told)

pub returns : goal.returns
returns c =
    let t = c.args.thread.now in
    let there = subst (λ (b : BookView). (world_of b.log).frames t ≡ Some c.in-Some.frame.now) c.self.view_is (frame_there _ c.self.invariant t (Some c.in-Some.frame.now) c.in-Some.ensures.frame) in
    let told = subst (λ (b : BookView). c.in-Some.readiness ≡ log_readiness b.log t) c.self.view_is (readiness_told _ c.self.invariant t c.in-Some.readiness c.in-Some.ensures.ready) in
    let begins = sym (ap first.is_free_to_move told) ∙ (sym c.is_enabled.ensures ∙ c.if-not-is_enabled.false) in
    fresh_by c.args.self.now.log t c.args.prepared.now c.in-Some.frame.now there (c.is_source.ensures.same c.if-not-is_source.false) begins
