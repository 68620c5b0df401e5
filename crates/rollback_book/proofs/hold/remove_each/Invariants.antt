use Rattle.std.proofs.Common.{drop}
use Rattle.rollback_book.proofs.Kept.{IsRemoving}
use Rattle.rollback_book.proofs.hold.remove_each.Given as goal

abbrev pub invariant-loop-place : goal.invariant-loop-place
invariant-loop-place l = IsRemoving l.fn.left l.left l.places (drop l.place-index l.places)
