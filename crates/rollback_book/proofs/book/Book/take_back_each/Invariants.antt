use Rattle.std.proofs.Common.{◌≡◌, length}
use Rattle.std.specs.Prelude.{reverse}
use Rattle.book_log.specs.Answers.{order_answer}
use Rattle.rollback_book.proofs.book.Book.take_back_each.Given as goal

-- what is left of the order comes to the same end
abbrev pub invariant-loop-step : goal.invariant-loop-step
invariant-loop-step l = order_answer l.self.log (reverse l.names.items) ≡ order_answer l.fn.self.log (reverse l.fn.names.items)

abbrev pub decreases-loop-step : goal.decreases-loop-step
decreases-loop-step l = length l.names.items
