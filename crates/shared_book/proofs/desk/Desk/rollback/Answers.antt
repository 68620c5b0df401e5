use Rattle.std.proofs.Common.{List, Ok, ap, ap₂, sym, ◌∙◌}
use Rattle.step_names.specs.declared.step.StepName.{StepName}
use Rattle.book_log.specs.Answers.{plan_answer}
use Rattle.book_log.specs.Log.{appended}
use Rattle.book_log.specs.declared.entry.Entry.TheVariants.{Rollback}
use Rattle.shared_book.proofs.Answering.{given, planned_now}
use Rattle.shared_book.proofs.Entered.{entered}
use Rattle.shared_book.proofs.desk.Desk.rollback.Goals as goal

pub rollback-requires : goal.rollback-requires
rollback-requires g c = planned_now _ _ c.in_ok-room.ensures.1

pub returns-clause-after : goal.returns-clause-after
returns-clause-after g c =
    let log = g.B.Events.log c.self.inside.book in
    let named = c.in_ok-room.ensures.0 in
    let names = sym c.names.ensures in
    let accepted = ap (λ (n : StepName). plan_answer log n) (sym named) ∙ c.in_ok-room.ensures.1.names ∙ ap (λ (l : List StepName). Ok l) names in
    given _ _ _ _ _ _ _ _ _ c.self.view_is c.pass.view_is c.admit.ensures.goes c.admit.ensures.legal c.in_ok-number.ensures.known (Rollback c.args.step.now c.names.result.now) _ _ _ _ _ _ _ c.in_ok-number.ensures.number
    accepted c.in-Ok.ensures c.admit.ensures.items c.finish.ensures.items c.finish.ensures.receipt c.finish.ensures.seen.0 (c.finish.ensures.seen.1 ∙ c.admit.ensures.same.1)

pub invariant_of-self : goal.invariant_of-self
invariant_of-self g c =
    let log = g.B.Events.log c.self.inside.book in
    let named = c.in_ok-room.ensures.0 in
    let names = sym c.names.ensures in
    let accepted = ap (λ (n : StepName). plan_answer log n) (sym named) ∙ c.in_ok-room.ensures.1.names ∙ ap (λ (l : List StepName). Ok l) names in
    entered _ _ _ _ _ _ _ _ _ _ _ _ _ c.self.invariant c.self.view_is c.admit.ensures.legal (Rollback c.args.step.now c.names.result.now) _ accepted (c.in-Ok-rollback.ensures.ok.2 ∙ ap₂ (λ (n : StepName) (l : List StepName). appended log (Rollback n l)) named (c.in-Ok-rollback.ensures.ok.0 ∙ names)) c.in-Ok.ensures c.finish.ensures.total c.finish.ensures.spare c.finish.ensures.claims c.finish.ensures.back
