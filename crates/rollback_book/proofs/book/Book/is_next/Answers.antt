use Rattle.std.proofs.Common.{◌≡◌, subst}
use Rattle.saved_steps.specs.Held.{world_view}
use Rattle.book_log.specs.Log.{world_of}
use Rattle.rollback_book.specs.Book.{BookView}
use Rattle.rollback_book.proofs.Tied.{world_is}
use Rattle.rollback_book.proofs.book.Book.is_next.Goals as goal
use Rattle.step_history.specs.History.{history_world}

pub returns-clause-world : goal.returns-clause-world
returns-clause-world c = subst (λ (b : BookView). world_of b.log ≡ world_view (history_world b.history)) c.self.view_is (world_is _ c.self.invariant)
