use Rattle.book_log.proofs.Orders as law
use Rattle.book_log.proofs.laws.rollback_is_exact.Goals as goal

pub returns : goal.returns
returns c = law.rollback_is_exact
