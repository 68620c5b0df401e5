use Rattle.std.proofs.Common.{inr, refl, ap, sym, ◌∙◌, Ok}
use Rattle.book_log.specs.Answers.{StepLacks, step_answer}
use Rattle.book_log.specs.Log.{appended}
use Rattle.book_log.specs.declared.entry.Entry.TheVariants.{Step as Stepped}
use Rattle.book_log.specs.declared.moved.Moved.{Moved}
use Rattle.book_events.proofs.Answered.{given_ok, ok_gives}
use Rattle.rollback_book.proofs.Retaken.{next_is, no_retake}
use Rattle.rollback_book.proofs.book.Book.step_to.Goals as goal

pub returns-then-not-is_next : goal.returns-then-not-is_next
returns-then-not-is_next c = inr (refl, no_retake c.args.self.now c.args.name.now c.is_next.ensures.world (sym c.is_next.ensures.number ∙ c.if-not-is_next.true))

pub returns-in-Ok : goal.returns-in-Ok
returns-in-Ok c =
    let b = c.args.self.now in
    let name = c.args.name.now in
    let told = given_ok (step_answer b.log name.thread) c.in-Ok.moved (ok_gives (StepLacks b.log name.thread) (step_answer b.log name.thread) c.in-Ok.moved c.in-Ok.ensures.answer) in
    let same = next_is b name c.requires c.is_next.ensures.world (sym c.is_next.ensures.number ∙ c.if-not-is_next.false) c.in-Ok.moved told in (
      c.in-Ok.moved.kind,
      told ∙ ap Ok same,
      c.in-Ok.ensures.ok ∙ ap (λ (m : Moved). appended b.log (Stepped m.name m.kind)) same,
    )
