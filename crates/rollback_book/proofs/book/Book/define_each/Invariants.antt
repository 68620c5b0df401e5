use Rattle.std.proofs.Common.{◌≡◌, ◌++◌, take}
use Rattle.book_log.specs.Answers.{outline}
use Rattle.rollback_book.proofs.book.Book.define_each.Given as goal

-- the outline so far
abbrev pub invariant-loop-entry : goal.invariant-loop-entry
invariant-loop-entry l = l.self.log ≡ record { begin = l.fn.self.log.begin; entries = outline (take l.from l.entries ++ take l.entry-index l.entry-items) }
