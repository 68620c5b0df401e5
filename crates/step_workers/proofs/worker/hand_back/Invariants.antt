use Rattle.step_workers.specs.Seats.{IsTaking, KeepsSeat}
use Rattle.step_workers.proofs.worker.hand_back.Given as goal

abbrev pub invariant-loop : goal.invariant-loop
invariant-loop g l = IsTaking l.board.slips l.seat × KeepsSeat l.fn.seat l.seat
