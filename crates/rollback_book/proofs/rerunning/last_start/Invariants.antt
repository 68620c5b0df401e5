-- no entry from here on starts the execution
use Rattle.std.proofs.Common.{◌≡◌, ◌≤◌, None, drop, length}
use Rattle.rollback_book.specs.Rerunning.{last_start}
use Rattle.rollback_book.proofs.rerunning.last_start.Given as goal

abbrev pub invariant-loop-later : goal.invariant-loop-later
invariant-loop-later l = (l.later ≤ length l.entries) × (last_start l.exec (drop l.later l.entries) ≡ None)

abbrev pub decreases-loop-later : goal.decreases-loop-later
decreases-loop-later l = l.later
