use Rattle.std.proofs.Common.{ap, ◌∙◌}
use Rattle.step_names.specs.declared.step.StepName.{StepName}
use Rattle.book_log.specs.Answers.{undo_answer}
use Rattle.book_log.specs.Log.{appended}
use Rattle.book_log.specs.declared.entry.Entry.TheVariants.{Undo}
use Rattle.shared_book.proofs.Answering.{given, undo_accepted}
use Rattle.shared_book.proofs.Entered.{entered}
use Rattle.shared_book.proofs.desk.Desk.undo.Goals as goal

pub returns-clause-after : goal.returns-clause-after
returns-clause-after g c =
    let log = g.B.Events.log c.self.inside.book in
    let named = c.in-Ok.ensures.ok in
    let accepted = undo_accepted log c.args.step.now c.in_default-undo.field-0 (c.in_default-undo.ensures.answer ∙ ap (λ (n : StepName). undo_answer log n) named) in
    given _ _ _ _ _ _ _ _ _ c.self.view_is c.pass.view_is c.admit.ensures.goes c.admit.ensures.legal c.in_ok-number.ensures.known (Undo c.args.step.now) _ _ _ _ _ _ _ c.in_ok-number.ensures.number
    accepted (c.in_ok-entry.ensures ∙ ap (λ (n : StepName). Undo n) c.in_ok-copy.ensures) c.admit.ensures.items c.finish.ensures.items c.finish.ensures.receipt c.finish.ensures.seen.0 (c.finish.ensures.seen.1 ∙ c.admit.ensures.same.1)

pub invariant_of-self-2 : goal.invariant_of-self-2
invariant_of-self-2 g c =
    let log = g.B.Events.log c.self.inside.book in
    let named = c.in-Ok.ensures.ok in
    let accepted = undo_accepted log c.args.step.now c.in_default-undo.field-0 (c.in_default-undo.ensures.answer ∙ ap (λ (n : StepName). undo_answer log n) named) in
    entered _ _ _ _ _ _ _ _ _ _ _ _ _ c.self.invariant c.self.view_is c.admit.ensures.legal (Undo c.args.step.now) _ accepted (c.in_default-undo.ensures.ok ∙ ap (λ (n : StepName). appended log (Undo n)) named) (c.in_ok-entry.ensures ∙ ap (λ (n : StepName). Undo n) c.in_ok-copy.ensures) c.finish.ensures.total c.finish.ensures.spare c.finish.ensures.claims c.finish.ensures.back
