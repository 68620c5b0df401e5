use Rattle.std.proofs.Common.{◌≡◌, length}
use Rattle.step_workers.specs.Seats.{IsTaking}
use Rattle.step_workers.specs.Work.{PassGoesOn}
use Rattle.step_workers.proofs.worker.take_all.Given as goal

abbrev pub invariant-loop : goal.invariant-loop
invariant-loop g l = record {
  taking : IsTaking l.board.slips l.seat;
  goes : PassGoesOn (length l.seat.taken.items) l.fn.seat.pass l.seat.pass;
  share : l.seat.share ≡ l.fn.seat.share;
}
