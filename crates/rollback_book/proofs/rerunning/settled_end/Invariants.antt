-- no entry from here on is a settlement
use Rattle.std.proofs.Common.{◌≡◌, ◌≤◌, false, drop, length}
use Rattle.std.specs.List.{list_any}
use Rattle.book_log.specs.Answers.{is_settlement}
use Rattle.rollback_book.proofs.rerunning.settled_end.Given as goal

abbrev pub invariant-loop-end : goal.invariant-loop-end
invariant-loop-end l = (l.end ≤ length l.entries) × (list_any is_settlement (drop l.end l.entries) ≡ false)

abbrev pub decreases-loop-end : goal.decreases-loop-end
decreases-loop-end l = l.end
