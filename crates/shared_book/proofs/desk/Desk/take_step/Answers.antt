use Rattle.std.proofs.Common.{◌∙◌, subst, sym}
use Rattle.book_log.specs.Legal.{IsLegal}
use Rattle.book_log.specs.declared.entry.Entry.TheVariants.{Step as Stepped}
use Rattle.shared_book.specs.Away.{WasRefused}
use Rattle.shared_book.specs.Views.{DeskView}
use Rattle.shared_book.proofs.Answering.{given, step_accepted, step_of}
use Rattle.shared_book.proofs.Entered.{entered}
use Rattle.shared_book.proofs.HeldBack.{held_step}
use Rattle.shared_book.proofs.desk.Desk.take_step.Goals as goal

pub step_entry-entry-requires : goal.step_entry-entry-requires
step_entry-entry-requires g c = step_of _ c.args.thread.now c.in-Ok.moved c.in-Ok.ensures.answer ∙ sym c.in_ok-copy.ensures

pub returns-clause-entry : goal.returns-clause-entry
returns-clause-entry g c = rw (c.finish.ensures.receipt, c.step_entry-entry.ensures) (step_of _ c.args.thread.now c.in-Ok.moved c.in-Ok.ensures.answer)

pub returns-clause-after : goal.returns-clause-after
returns-clause-after g c =
    let moved = c.in-Ok.moved in
    let accepted = step_accepted _ c.args.thread.now moved c.in-Ok.ensures.answer in
    given _ _ _ _ _ _ _ _ _ c.self.view_is c.pass.view_is c.admit.ensures.goes c.admit.ensures.legal c.in_ok-number.ensures.known (Stepped moved.name moved.kind) _ _ _ _ _ _ _ c.in_ok-number.ensures.number
    accepted c.step_entry-entry.ensures c.admit.ensures.items c.finish.ensures.items c.finish.ensures.receipt c.finish.ensures.seen.0 (c.finish.ensures.seen.1 ∙ c.admit.ensures.same.1)

pub invariant_of-self-2 : goal.invariant_of-self-2
invariant_of-self-2 g c =
    let moved = c.in-Ok.moved in
    let accepted = step_accepted _ c.args.thread.now moved c.in-Ok.ensures.answer in
    entered _ _ _ _ _ _ _ _ _ _ _ _ _ c.self.invariant c.self.view_is c.admit.ensures.legal (Stepped moved.name moved.kind) _ accepted c.in-Ok.ensures.ok c.step_entry-entry.ensures c.finish.ensures.total c.finish.ensures.spare c.finish.ensures.claims c.finish.ensures.back

pub returns-in-Err-clause-held : goal.returns-in-Err-clause-held
returns-in-Err-clause-held g c = λ h.
    let t = c.args.thread.now in
    subst (λ (d : DeskView). IsLegal d.log → WasRefused d.log t) c.self.view_is (λ legal. held_step _ t c.in-Err.refusal legal c.in-Err.ensures.answer h) c.admit.ensures.legal
