use Rattle.std.proofs.Common.{◌≡◌, ℕ, ◌+◌, ◌<◌, length, take, false, slice_index_or}
use Rattle.shared_book.specs.Closed.{is_marked}
use Rattle.shared_book.proofs.marks.mark.Given as goal

abbrev pub invariant-loop-receipt : goal.invariant-loop-receipt
invariant-loop-receipt l = (length l.marks ≡ length l.fn.marks) × ((j : ℕ) → j < length l.fn.marks → slice_index_or l.marks j false ≡ is_marked (slice_index_or l.fn.marks j false) (l.first + j) (take l.receipt-index l.receipts))
