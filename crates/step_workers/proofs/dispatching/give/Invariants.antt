use Rattle.step_workers.specs.Work.{KeepsGiver}
use Rattle.step_workers.proofs.dispatching.give.Given as goal

abbrev pub invariant-loop : goal.invariant-loop
invariant-loop g l = KeepsGiver 0 l.board.slips l.fn.giver l.giver
