use Rattle.std.proofs.Common.{rules, ap, ◌∙◌}
use Rattle.step_names.specs.declared.step.StepName.{StepName}
use Rattle.book_log.specs.Answers.{hold_answer}
use Rattle.book_log.specs.declared.entry.Entry.TheVariants.{Hold}
use Rattle.shared_book.proofs.Answering.{given, hold_accepted, lacking_cause_at, refused}
use Rattle.shared_book.proofs.Entered.{entered}
use Rattle.shared_book.proofs.desk.Desk.hold.Goals as goal

pub returns-clause-after : goal.returns-clause-after
returns-clause-after g c =
    let count = c.in-Ok.count in
    let accepted = hold_accepted _ c.args.step.now count c.in-Ok.ensures.answer in
    let one = ap (λ (n : StepName). Hold n count) c.in_ok-one.ensures in
    given _ _ _ _ _ _ _ _ _ c.self.view_is c.pass.view_is c.admit.ensures.goes c.admit.ensures.legal c.in_ok-number.ensures.known (Hold c.args.step.now count) _ _ _ _ _ _ _ c.in_ok-number.ensures.number
    accepted one c.admit.ensures.items c.finish.ensures.items c.finish.ensures.receipt c.finish.ensures.seen.0 (c.finish.ensures.seen.1 ∙ c.admit.ensures.same.1)

pub invariant_of-self-2 : goal.invariant_of-self-2
invariant_of-self-2 g c =
    let count = c.in-Ok.count in
    let accepted = hold_accepted _ c.args.step.now count c.in-Ok.ensures.answer in
    let one = ap (λ (n : StepName). Hold n count) c.in_ok-one.ensures in
    entered _ _ _ _ _ _ _ _ _ _ _ _ _ c.self.invariant c.self.view_is c.admit.ensures.legal (Hold c.args.step.now count) _ accepted c.in-Ok.ensures.ok one c.finish.ensures.total c.finish.ensures.spare c.finish.ensures.claims c.finish.ensures.back

pub returns-in-Err-clause-err : goal.returns-in-Err-clause-err
returns-in-Err-clause-err g c = (
  refused _ _ _ _ _ _ _ _ _ c.self.view_is c.pass.view_is c.admit.ensures.goes c.admit.ensures.legal c.in_ok-number.ensures.known (λ at. hold_answer at c.args.step.now) c.in-Err.refusal (lacking_cause_at _ _ _ c.in-Err.ensures.answer),
  search rules,
  search rules,
)
