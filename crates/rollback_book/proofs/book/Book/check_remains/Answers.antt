use Rattle.std.proofs.Common.{◌≡◌, ◌∙◌, true, Err, ap, sym, subst}
use Rattle.std.specs.Prelude.{is_some}
use Rattle.book_log.specs.Answers.{absent, remains, undo_answer}
use Rattle.rollback_book.specs.Book.{BookView}
use Rattle.rollback_book.proofs.Free.{no_step_answer}
use Rattle.rollback_book.proofs.Remaining.{remains_where}
use Rattle.rollback_book.proofs.book.Book.check_remains.Goals as goal

pub returns-in_default-clause-err : goal.returns-in_default-clause-err
returns-in_default-clause-err c = (
  c.absent.ensures,
  subst (λ (b : BookView). undo_answer b.log c.args.step.now ≡ Err (absent b.log c.args.step.now)) c.self.view_is
      (no_step_answer _ c.self.invariant c.args.step.now (sym c.in_default.ensures)) ∙ ap Err (sym c.absent.ensures),
)

pub returns-clause-ok : goal.returns-clause-ok
returns-clause-ok c =
    subst (λ (b : BookView). remains b.log c.args.step.now ≡ true) c.self.view_is (remains_where _ c.self.invariant c.args.step.now c.find.result c.find.ensures (ap is_some c.in-Some.is))
