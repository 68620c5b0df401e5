use Rattle.book_journal.proofs.Keeping.{at_rest}
use Rattle.book_journal.proofs.journal.Journal.open.Goals as goal

pub returns-in-Ok-clause-at_rest : goal.returns-in-Ok-clause-at_rest
returns-in-Ok-clause-at_rest g c = at_rest g.S.Store g.met.S.Store.settled c.prepare.new.conn c.in-Ok.last c.in-Ok.ensures.kept
