use Rattle.std.proofs.Common.{◌≡◌, ℕ, ◌+◌, ◌<◌, length, take, false, slice_index_or}
use Rattle.shared_book.specs.Closed.{is_marked, all_receipts}
use Rattle.shared_book.proofs.marks.mark_all.Given as goal

abbrev pub invariant-loop-pass : goal.invariant-loop-pass
invariant-loop-pass g l = (length l.marks ≡ length l.fn.marks) × ((j : ℕ) → j < length l.fn.marks → slice_index_or l.marks j false ≡ is_marked (slice_index_or l.fn.marks j false) (l.first + j) (all_receipts (take l.pass-index l.passes)))
