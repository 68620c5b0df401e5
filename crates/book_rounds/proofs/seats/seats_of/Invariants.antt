use Rattle.std.proofs.Common.{◌≤◌}
use Rattle.std.specs.Prelude.{vec_capacity}
use Rattle.book_rounds.proofs.Seatings.{IsSeating}
use Rattle.book_rounds.proofs.seats.seats_of.Given as goal

abbrev pub invariant-loop-left : goal.invariant-loop-left
invariant-loop-left g l = IsSeating l.fn.count l.left l.first l.passes.items × (l.fn.count ≤ vec_capacity l.passes)

abbrev pub decreases-loop-left : goal.decreases-loop-left
decreases-loop-left g l = l.left
