use Rattle.std.proofs.Common.{◌∙◌, ap}
use Rattle.book_log.specs.Answers.{absent}
use Rattle.rollback_book.specs.Book.{BookView, book_view}
use Rattle.rollback_book.proofs.Settled.{absent_is}
use Rattle.rollback_book.proofs.book.Book.absent.Goals as goal

pub returns : goal.returns
returns c =
    let b = book_view c.self.inside.begin c.self.inside.machines c.self.inside.history c.self.inside.entries c.self.inside.settled c.self.inside.held in
    c.absent_in.ensures ∙ absent_is b c.self.invariant c.args.name.now ∙ ap (λ (v : BookView). absent v.log c.args.name.now) c.self.view_is
