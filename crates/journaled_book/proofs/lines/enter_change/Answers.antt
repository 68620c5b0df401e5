use Rattle.journaled_book.proofs.Said.{entry_added}
use Rattle.journaled_book.proofs.lines.enter_change.Goals as goal

pub returns-in-Ok-clause-ok : goal.returns-in-Ok-clause-ok
returns-in-Ok-clause-ok g c =
    entry_added (g.B.Events.log c.args.book.now) (g.B.Events.log c.ready_entry.new.self) (g.B.Events.log c.enter.new.self) c.args.change (g.B.BookCalls.entry_in c.in-Ok.made) c.in-Ok.ensures.answer c.in-Ok.ensures.accepted c.ready_entry.ensures.log c.enter.ensures
