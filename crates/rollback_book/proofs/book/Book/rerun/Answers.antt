use Rattle.std.proofs.Common.{inr}
use Rattle.rollback_book.proofs.Commuted.{cannot_run}
use Rattle.rollback_book.proofs.book.Book.rerun.Goals as goal

pub returns-in-Err-clause-err : goal.returns-in-Err-clause-err
returns-in-Err-clause-err c =
    inr (cannot_run c.args.self.now.log c.in-Err.ensures.legal c.args.steps.now c.in-Err.gone c.in-Err.ensures.err.1)
