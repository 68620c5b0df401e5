use Rattle.std.proofs.Common.{◌≡◌, ◌∙◌, sym, subst}
use Rattle.book_log.specs.Answers.{is_full_for_step}
use Rattle.rollback_book.specs.Book.{BookView, book_view}
use Rattle.rollback_book.proofs.Tied.{full_by}
use Rattle.rollback_book.proofs.book.Book.is_full.Goals as goal

pub returns : goal.returns
returns c =
    let b = book_view c.self.inside.begin c.self.inside.machines c.self.inside.history c.self.inside.entries c.self.inside.settled c.self.inside.held in
    subst (λ (b : BookView). c.is_full_for_step.result ≡ is_full_for_step b.log) c.self.view_is
    (sym (full_by b c.self.invariant c.len.result c.len-2.result c.is_full_for_step.result (c.len.ensures ∙ c.self.inside.entries.ok.0) c.len-2.ensures c.is_full_for_step.ensures))
