use Rattle.std.proofs.Common.{◌≡◌, refl, sym, subst, Err}
use Rattle.std.specs.Prelude.{List, Result}
use Rattle.step_names.specs.declared.step.StepName.{StepName}
use Rattle.book_log.specs.Answers.{absent, plan_answer}
use Rattle.book_log.specs.declared.refusal.Refusal.{Refusal}
use Rattle.book_log.specs.declared.refusal.Refusal.TheVariants.{Memory}
use Rattle.book_events.specs.Planned.{OrMemory}
use Rattle.rollback_book.specs.Book.{BookView, book_view}
use Rattle.rollback_book.proofs.Free.{no_plan, plan_is}
use Rattle.rollback_book.proofs.Takeback.{rollback_answered, rollback_ready}
use Rattle.rollback_book.proofs.book.Book.ready_rollback.Goals as goal

pub returns-in_default-clause-answer : goal.returns-in_default-clause-answer
returns-in_default-clause-answer c =
    let gone = subst (λ (b : BookView). plan_answer b.log c.args.step.now ≡ Err (absent b.log c.args.step.now)) c.self.view_is (no_plan _ c.self.invariant c.args.step.now (sym c.in_default.ensures)) in
    subst (λ (r : Result (List StepName) Refusal). OrMemory r c.absent.result) (sym gone) c.absent.ensures

pub returns-in-Ok-clause-answer : goal.returns-in-Ok-clause-answer
returns-in-Ok-clause-answer c = rollback_answered c.args.self.now.log c.args.step.now c.in-Ok.made c.in-Ok.ensures

pub returns-in-Ok-clause-ready : goal.returns-in-Ok-clause-ready
returns-in-Ok-clause-ready c = rollback_ready c.args.self.now c.args.step.now c.in-Ok.made c.in-Ok.ensures

pub returns-in-Err-clause-answer : goal.returns-in-Err-clause-answer
returns-in-Err-clause-answer c =
    let b = book_view c.self.inside.begin c.self.inside.machines c.self.inside.history c.self.inside.entries c.self.inside.settled c.self.inside.held in
    subst (λ (b : BookView). OrMemory (plan_answer b.log c.args.step.now) Memory) c.self.view_is
    (subst (λ (r : Result (List StepName) Refusal). OrMemory r Memory) (sym (plan_is b c.self.invariant c.args.step.now c.in-Some.at (sym c.in-Some.ensures))) refl)
