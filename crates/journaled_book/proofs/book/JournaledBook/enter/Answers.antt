use Rattle.std.proofs.Common.{subst}
use Rattle.sqlite.specs.Held.{state}
use Rattle.journaled_book.specs.Journaled.{IsJournalOf, log_of}
use Rattle.journaled_book.proofs.Kept.{changed_kept}
use Rattle.journaled_book.proofs.book.JournaledBook.enter.Goals as goal

pub invariant_of-self : goal.invariant_of-self
invariant_of-self g c =
    let old = state g.S.Store c.self.inside.journal in
    changed_kept old (state g.S.Store c.enter.new.journal) c.args.line.now g.B.Events.log c.enter.result c.in-Some.book c.enter.new.book (g.B.BookCalls.entry_in c.args.made)
    (subst (λ b. IsJournalOf old (log_of g.B.Events.log b)) c.in-Some.is c.self.invariant) c.requires.line c.enter.ensures.ok c.enter.ensures.err c.enter.ensures.journal
