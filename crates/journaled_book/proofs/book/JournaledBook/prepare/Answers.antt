use Rattle.journaled_book.proofs.Said.{said_if_ok}
use Rattle.journaled_book.proofs.book.JournaledBook.prepare.Goals as goal

pub returns-clause-line : goal.returns-clause-line
returns-clause-line g c = said_if_ok g.B.BookCalls.entry_in (g.B.Events.log c.in-Some.book) c.args.change c.ready_entry.result c.ready_entry.ensures.answer
