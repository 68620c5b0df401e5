use Rattle.std.proofs.Common.{◌≡◌, Ok, take}
use Rattle.book_log.specs.Answers.{rerun_answer}
use Rattle.rollback_book.proofs.book.Book.rerun_remaining.Given as goal

-- the names so far are answered by the book so far
abbrev pub invariant-loop-name : goal.invariant-loop-name
invariant-loop-name l = rerun_answer l.self.log (take l.name-index l.steps) ≡ Ok l.again.log
