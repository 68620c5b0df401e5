use Rattle.std.proofs.Common.{◌≡◌, ◌∙◌, ap, sym, subst, Ok, Err}
use Rattle.std.specs.Prelude.{is_some}
use Rattle.saved_steps.specs.Held.{frames_of, world_view}
use Rattle.saved_steps.specs.Steps.{start_name}
use Rattle.book_log.specs.Answers.{start_answer}
use Rattle.book_log.specs.Log.{world_of}
use Rattle.book_log.specs.declared.refusal.Refusal.TheVariants.{NoMachine, ExecTaken, Full}
use Rattle.rollback_book.specs.Book.{BookView, book_view}
use Rattle.rollback_book.proofs.Refusing.{start_unknown, start_taken, start_full, start_free}
use Rattle.rollback_book.proofs.Tied.{full_by, world_is}
use Rattle.rollback_book.proofs.book.Book.check_start.Goals as goal
use Rattle.step_history.specs.History.{history_world}

pub returns-in_default-clause-answer : goal.returns-in_default-clause-answer
returns-in_default-clause-answer c =
    subst (λ (b : BookView). start_answer b.log c.args.exec.now c.args.machine.now ≡ Err NoMachine) c.self.view_is
    (start_unknown _ c.self.invariant c.args.exec.now c.args.machine.now (ap is_some (sym (c.self.invariant.machines c.args.machine.now) ∙ sym c.in_default.ensures)))

pub returns-then-has_frame-clause-answer : goal.returns-then-has_frame-clause-answer
returns-then-has_frame-clause-answer c =
    let there = ap (λ (b : BookView). is_some (frames_of (history_world b.history) c.args.exec.now)) c.self.view_is ∙ sym c.has_frame.ensures ∙ c.if-has_frame.true in
    subst (λ (b : BookView). start_answer b.log c.args.exec.now c.args.machine.now ≡ Err ExecTaken) c.self.view_is
    (start_taken _ c.self.invariant c.args.exec.now c.args.machine.now (ap is_some (sym (c.self.invariant.machines c.args.machine.now) ∙ sym c.in-Some.ensures)) there)

pub returns-then-is_full_for_step-clause-answer : goal.returns-then-is_full_for_step-clause-answer
returns-then-is_full_for_step-clause-answer c =
    let b = book_view c.self.inside.begin c.self.inside.machines c.self.inside.history c.self.inside.entries c.self.inside.settled c.self.inside.held in
    let there = ap (λ (b : BookView). is_some (frames_of (history_world b.history) c.args.exec.now)) c.self.view_is ∙ sym c.has_frame.ensures ∙ c.if-has_frame.false in
    let full = full_by b c.self.invariant c.len.result c.len-2.result c.is_full_for_step.result (c.len.ensures ∙ c.self.inside.entries.ok.0) c.len-2.ensures c.is_full_for_step.ensures ∙ c.if-is_full_for_step.true in
    subst (λ (b : BookView). start_answer b.log c.args.exec.now c.args.machine.now ≡ Err Full) c.self.view_is
    (start_full _ c.self.invariant c.args.exec.now c.args.machine.now (ap is_some (sym (c.self.invariant.machines c.args.machine.now) ∙ sym c.in-Some.ensures)) there full)

pub returns-clause-answer : goal.returns-clause-answer
returns-clause-answer c =
    let b = book_view c.self.inside.begin c.self.inside.machines c.self.inside.history c.self.inside.entries c.self.inside.settled c.self.inside.held in
    let there = ap (λ (b : BookView). is_some (frames_of (history_world b.history) c.args.exec.now)) c.self.view_is ∙ sym c.has_frame.ensures ∙ c.if-has_frame.false in
    let full = full_by b c.self.invariant c.len.result c.len-2.result c.is_full_for_step.result (c.len.ensures ∙ c.self.inside.entries.ok.0) c.len-2.ensures c.is_full_for_step.ensures ∙ c.if-is_full_for_step.false in
    subst (λ (b : BookView). start_answer b.log c.args.exec.now c.args.machine.now ≡ Ok (start_name c.args.exec.now.exec)) c.self.view_is
    (start_free _ c.self.invariant c.args.exec.now c.args.machine.now (ap is_some (sym (c.self.invariant.machines c.args.machine.now) ∙ sym c.in-Some.ensures)) there full)

pub returns-clause-world : goal.returns-clause-world
returns-clause-world c = subst (λ (b : BookView). world_of b.log ≡ world_view (history_world b.history)) c.self.view_is (world_is _ c.self.invariant)
