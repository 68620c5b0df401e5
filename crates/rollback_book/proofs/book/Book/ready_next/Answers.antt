use Rattle.rollback_book.proofs.Moving.{next_lacks}
use Rattle.rollback_book.proofs.book.Book.ready_next.Goals as goal

pub returns-in_default-clause-answer : goal.returns-in_default-clause-answer
returns-in_default-clause-answer c = next_lacks c.args.self.now c.args.name.thread c.args.name c.args.next c.requires
