use Rattle.std.proofs.Common.{ap, sym, ◌∙◌}
use Rattle.step_names.specs.Thread.{Thread}
use Rattle.book_log.specs.Answers.{start_answer}
use Rattle.book_log.specs.Log.{appended}
use Rattle.book_log.specs.declared.entry.Entry.TheVariants.{Start}
use Rattle.book_events.proofs.Answered.{given_ok, start_named}
use Rattle.rollback_book.proofs.Retaken.{own_thread}
use Rattle.rollback_book.proofs.book.Book.start_with.Goals as goal

pub returns-in-Ok : goal.returns-in-Ok
returns-in-Ok c =
    let log = c.args.self.now.log in
    let exec = c.args.exec.now in
    let machine = c.args.machine.now in
    let own = own_thread exec c.requires.execution in
    let told = given_ok (start_answer log exec machine) c.in-Ok.name c.in-Ok.ensures.answer in (
      ap (λ (t : Thread). start_answer log t machine) (sym own) ∙ start_named log exec machine c.in-Ok.name told,
      c.in-Ok.ensures.ok ∙ ap (λ (t : Thread). appended log (Start t machine c.args.input)) own,
    )
