use Rattle.std.proofs.Common.{◌≡◌, ◌∙◌, ◌+◌, refl, ap, sym, subst, Err}
use Rattle.branch_tree.specs.First.{is_free_to_move}
use Rattle.branch_tree.specs.declared.readiness.Readiness.{Readiness}
use Rattle.book_log.specs.Answers.{step_answer}
use Rattle.book_log.specs.declared.refusal.Refusal.TheVariants.{NoThread, NotReady, Full}
use Rattle.rollback_book.specs.Book.{BookView, book_view}
use Rattle.rollback_book.specs.Ready.{HasRoomUnlessHeld, IsReadyTo}
use Rattle.std.specs.Prelude.{◌||◌, nat_le, nat_lt}
use Rattle.rollback_book.proofs.Kept.{full_said, room_said}
use Rattle.rollback_book.proofs.Tied.{full_by}
use Rattle.rollback_book.proofs.Moving.{step_absent, step_stuck, step_full, ready_to, machine_known}
use Rattle.rollback_book.proofs.book.Book.check_step.Goals as goal
use Rattle.step_history.specs.History.{history_records}

pub returns-in_default : goal.returns-in_default
returns-in_default c =
    subst (λ (b : BookView). step_answer b.log c.args.thread.now ≡ Err NoThread) c.self.view_is (step_absent _ c.self.invariant c.args.thread.now (sym c.in_default.ensures.frame))

pub returns-then-not-is_enabled : goal.returns-then-not-is_enabled
returns-then-not-is_enabled c =
    let told = sym (ap is_free_to_move c.in-Some.ensures.ready) ∙ sym c.is_enabled.ensures ∙ c.if-not-is_enabled.true in
    subst (λ (b : BookView). step_answer b.log c.args.thread.now ≡ Err (NotReady c.in-Some.readiness)) c.self.view_is
    (step_stuck _ c.self.invariant c.args.thread.now c.in-Some.frame.now (sym c.in-Some.ensures.frame) told ∙ ap (λ (r : Readiness). Err (NotReady r)) (sym c.in-Some.ensures.ready))

pub returns-then-is_full_unheld : goal.returns-then-is_full_unheld
returns-then-is_full_unheld c =
    let b = book_view c.self.inside.begin c.self.inside.machines c.self.inside.history c.self.inside.entries c.self.inside.settled c.self.inside.held in
    let told = sym (ap is_free_to_move c.in-Some.ensures.ready) ∙ sym c.is_enabled.ensures ∙ c.if-not-is_enabled.false in
    let full = full_said b.log (history_records b.history) b.held (nat_le 65536 c.len-2.result || nat_lt 999998 (c.len.result + c.len-2.result)) c.self.invariant.held (sym c.is_full_unheld.ensures ∙ c.if-is_full_unheld.true) in
    let all = full_by b c.self.invariant c.len.result c.len-2.result (nat_le 65536 c.len-2.result || nat_lt 999998 (c.len.result + c.len-2.result)) (c.len.ensures ∙ c.self.inside.entries.ok.0) c.len-2.ensures refl ∙ full.1 in
    subst (λ (b : BookView). step_answer b.log c.args.thread.now ≡ Err Full) c.self.view_is (step_full b c.self.invariant c.args.thread.now c.in-Some.frame.now (sym c.in-Some.ensures.frame) full.0 told all)

pub unreachable-requires : goal.unreachable-requires
unreachable-requires c = machine_known _ c.self.invariant c.args.thread.now c.in-Some.frame.now (sym c.in-Some.ensures.frame) (sym c.in_default-machine_in.ensures)

pub returns : goal.returns
returns c =
    let b = book_view c.self.inside.begin c.self.inside.machines c.self.inside.history c.self.inside.entries c.self.inside.settled c.self.inside.held in
    let told = sym (ap is_free_to_move c.in-Some.ensures.ready) ∙ sym c.is_enabled.ensures ∙ c.if-not-is_enabled.false in
    let free : HasRoomUnlessHeld b.log = λ none. full_by b c.self.invariant c.len.result c.len-2.result (nat_le 65536 c.len-2.result || nat_lt 999998 (c.len.result + c.len-2.result)) (c.len.ensures ∙ c.self.inside.entries.ok.0) c.len-2.ensures refl
    ∙ room_said b.log (history_records b.history) b.held (nat_le 65536 c.len-2.result || nat_lt 999998 (c.len.result + c.len-2.result)) c.self.invariant.held (sym c.is_full_unheld.ensures ∙ c.if-is_full_unheld.false) none in
    subst (λ (b : BookView). IsReadyTo b c.args.thread.now c.in-Some-machine_in.machine.now c.in-Some.frame.now) c.self.view_is
    (ready_to b c.self.invariant c.args.thread.now c.in-Some.frame.now (sym c.in-Some.ensures.frame) c.in-Some-machine_in.machine.now told free (sym c.in-Some-machine_in.ensures))
