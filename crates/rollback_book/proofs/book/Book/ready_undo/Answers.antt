use Rattle.rollback_book.proofs.Takeback.{undo_ready}
use Rattle.rollback_book.proofs.book.Book.ready_undo.Goals as goal

pub returns-in-Ok-clause-ready : goal.returns-in-Ok-clause-ready
returns-in-Ok-clause-ready c = undo_ready c.args.self.now c.args.step.now c.in-Ok.step c.in_ok-at.at c.in-Ok.ensures c.in_ok-at.ensures.0
