use Rattle.step_workers.specs.Work.{KeepsGiver}
use Rattle.step_workers.proofs.dispatching.end_all.Given as goal

abbrev pub invariant-loop-worker : goal.invariant-loop-worker
invariant-loop-worker g l = KeepsGiver l._worker l.board.slips l.fn.giver l.giver
