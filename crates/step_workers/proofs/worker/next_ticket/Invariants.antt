use Rattle.std.proofs.Common.{◌≡◌}
use Rattle.step_workers.specs.Seats.{IsTaking, KeepsSeat}
use Rattle.step_workers.proofs.worker.next_ticket.Given as goal

abbrev pub invariant-loop : goal.invariant-loop
invariant-loop g l = record {
  taking : IsTaking l.board.slips l.seat;
  same : KeepsSeat l.fn.seat l.seat;
  taken : l.seat.taken.items ≡ l.fn.seat.taken.items;
}
