use Rattle.std.proofs.Common.{◌≡◌, ◌+◌, length}
use Rattle.shared_book.specs.Closed.{all_receipts}
use Rattle.shared_book.proofs.closing.gather.Given as goal

abbrev pub invariant-loop-pass : goal.invariant-loop-pass
invariant-loop-pass g l = (l.all.amount + length (all_receipts l.passes.items) ≡ length (all_receipts l.fn.passes.items)) × (l.calls.total ≡ l.fn.calls.total)

abbrev pub decreases-loop-pass : goal.decreases-loop-pass
decreases-loop-pass g l = goal.left-loop-pass g l
