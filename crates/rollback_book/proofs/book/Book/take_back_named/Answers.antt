use Rattle.std.proofs.Common.{◌≡◌, Ok, Err, sym, subst, ◌∙◌}
use Rattle.book_log.specs.Answers.{absent, undo_answer}
use Rattle.rollback_book.specs.Book.{BookView, IsMaximalPlace}
use Rattle.rollback_book.proofs.Free.{no_step_answer}
use Rattle.rollback_book.proofs.Ordered.{undone_free}
use Rattle.rollback_book.proofs.book.Book.take_back_named.Goals as goal

pub unreachable-requires : goal.unreachable-requires
unreachable-requires c =
    let none = subst (λ (b : BookView). undo_answer b.log c.args.step ≡ Err (absent b.log c.args.step)) c.self.view_is (no_step_answer _ c.self.invariant c.args.step (sym c.in_default.ensures)) in
    let clash = sym c.requires ∙ none in
    cc

pub take_back-requires : goal.take_back-requires
take_back-requires c =
    let own = subst (λ (b : BookView). undo_answer b.log c.args.step ≡ Ok c.args.step) (sym c.self.view_is) c.requires in
    subst (λ (b : BookView). IsMaximalPlace b c.args.step c.in-Some.at) c.self.view_is (undone_free _ c.self.invariant c.args.step c.args.step own c.in-Some.at (sym c.in-Some.ensures))
