use Rattle.std.proofs.Common.{rules, ◌∙◌}
use Rattle.book_log.specs.Answers.{start_answer}
use Rattle.book_log.specs.declared.entry.Entry.TheVariants.{Start}
use Rattle.shared_book.proofs.Answering.{cause_at, given, refused, start_accepted}
use Rattle.shared_book.proofs.Entered.{entered}
use Rattle.shared_book.proofs.desk.Desk.start.Goals as goal

pub returns-clause-after : goal.returns-clause-after
returns-clause-after g c =
    let accepted = start_accepted _ c.args.exec.now c.args.machine.now c.args.input c.in_default-start.field-0 c.in_default-start.ensures.answer c.requires.execution c.requires.shallow in
    given _ _ _ _ _ _ _ _ _ c.self.view_is c.pass.view_is c.admit.ensures.goes c.admit.ensures.legal c.in-Ok.ensures.known (Start c.args.exec.now c.args.machine.now c.args.input) _ _ _ _ _ _ _ c.in-Ok.ensures.number
    accepted c.in-Ok-start_entry.ensures c.admit.ensures.items c.finish.ensures.items c.finish.ensures.receipt c.finish.ensures.seen.0 (c.finish.ensures.seen.1 ∙ c.admit.ensures.same.1)

pub invariant_of-self-2 : goal.invariant_of-self-2
invariant_of-self-2 g c =
    let accepted = start_accepted _ c.args.exec.now c.args.machine.now c.args.input c.in_default-start.field-0 c.in_default-start.ensures.answer c.requires.execution c.requires.shallow in
    entered _ _ _ _ _ _ _ _ _ _ _ _ _ c.self.invariant c.self.view_is c.admit.ensures.legal (Start c.args.exec.now c.args.machine.now c.args.input) _ accepted c.in_default-start.ensures.ok c.in-Ok-start_entry.ensures c.finish.ensures.total c.finish.ensures.spare c.finish.ensures.claims c.finish.ensures.back

pub returns-in-Err-start-clause-err : goal.returns-in-Err-start-clause-err
returns-in-Err-start-clause-err g c = (
  refused _ _ _ _ _ _ _ _ _ c.self.view_is c.pass.view_is c.admit.ensures.goes c.admit.ensures.legal c.in-Ok.ensures.known (λ at. start_answer at c.args.exec.now c.args.machine.now) c.in-Err-start.refusal (cause_at _ _ c.in-Err-start.ensures.answer),
  search rules,
  search rules,
)
