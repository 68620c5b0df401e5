use Rattle.std.proofs.Common.{inr}
use Rattle.rollback_book.proofs.Commuted.{only_memory}
use Rattle.rollback_book.proofs.book.Book.undo_order.Goals as goal

pub returns-in-Err-clause-allowed : goal.returns-in-Err-clause-allowed
returns-in-Err-clause-allowed c =
    only_memory c.args.self.now.log c.in-Err.ensures.legal c.args.steps.now c.in-Err.gone (inr c.in-Err.ensures.err)
