use Rattle.std.proofs.Common.{◌≡◌, take}
use Rattle.rollback_book.proofs.book.Book.enter_each.Given as goal

-- the entries so far
abbrev pub invariant-loop-entry : goal.invariant-loop-entry
invariant-loop-entry l = l.self.log ≡ record { begin = l.fn.self.log.begin; entries = take l.entry-index l.entry-items }
